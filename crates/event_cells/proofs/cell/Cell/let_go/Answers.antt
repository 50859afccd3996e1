use Rattle.std.proofs.Common.{◌≡◌, ◌∙◌, length, ap, map, sym, arith}
use Rattle.wave_states.specs.Desks.{kept_of, not_at}
use Rattle.event_cells.specs.Cells.{held_of}
use Rattle.event_cells.proofs.Desks.{held_filter, length-filter_le}
use Rattle.event_cells.proofs.Lives.{opened, stands_so}
use Rattle.event_cells.proofs.cell.Cell.let_go.Goals as goal

pub returns-clause-desk : goal.returns-clause-desk
returns-clause-desk g c = λ d h.
    let l = c.deref_mut.result.now in
    let live = stands_so l _ d (opened c.self.inside.life c.in-Live.live l c.args.self.now c.self.view_is c.in-Live.is c.deref_mut.ensures.value) h in
    record {
      actor = live.actor;
      held = ap (kept_of (not_at c.args.path.now)) live.held ∙ held_filter (not_at c.args.path.now) l.held.holds ∙ ap (map held_of) (sym c.remove.ensures.holds);
      sent = live.sent;
      status = live.status;
      mails = live.mails;
    }

pub returns-clause-fewer : goal.returns-clause-fewer
returns-clause-fewer g c =
    let l = c.deref_mut.result.now in
    let same : length l.held.holds ≡ length c.args.self.now.held.holds = ap (λ v. length v.held.holds) (opened c.self.inside.life c.in-Live.live l c.args.self.now c.self.view_is c.in-Live.is c.deref_mut.ensures.value) in
    let kept = ap length c.remove.ensures.holds in
    let few = length-filter_le (λ x. not_at c.args.path.now x.0) l.held.holds in
    omega (arith, same, kept, few)
