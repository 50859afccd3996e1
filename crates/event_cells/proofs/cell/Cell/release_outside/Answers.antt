use Rattle.std.proofs.Common.{List, ◌≡◌, ◌∙◌, ◌+◌, length, map, ap, sym, arith}
use Rattle.wave_base.specs.declared.path.Path.{Path}
use Rattle.wave_base.specs.Paths.{is_above}
use Rattle.wave_states.specs.Desks.{give_up}
use Rattle.event_cells.specs.declared.held.Hold.{Hold}
use Rattle.event_cells.specs.Cells.{held_of}
use Rattle.event_cells.specs.inner.Releases.{releases, sent_on}
use Rattle.event_cells.proofs.Desks.{carried_in, gave_up, length-filter_le}
use Rattle.event_cells.proofs.Lives.{opened, stands_so}
use Rattle.event_cells.proofs.cell.Cell.release_outside.Goals as goal

pub returns-clause-desk : goal.returns-clause-desk
returns-clause-desk g c = λ d h.
    let l = c.deref_mut-live.result.now in
    let live = stands_so l _ d (opened c.self.inside.life c.in-Live.live l c.args.self.now c.self.view_is c.in-Live.is c.deref_mut-live.ensures.value) h in
    let keep = is_above c.args.top.now in
    let n = l.outbox.sent in
    let after = λ (holds : List (Path × Hold)). sent_on l.outbox.mails n (releases keep holds) in
    let r = gave_up keep l.held.holds l.outbox.mails n d live.held live.sent live.mails in
    record {
      actor = λ e. r.actor ∙ live.actor e;
      held = r.held ∙ ap (map held_of) (sym c.keep_below.ensures.holds);
      sent = r.sent ∙ ap (λ holds. n + length (releases keep holds)) (sym c.as_slice.ensures.holds) ∙ sym c.release.ensures.sent;
      status = r.status ∙ live.status;
      mails = carried_in (after l.held.holds) c.release.new.outbox.mails (give_up keep d).mails (ap after (sym c.as_slice.ensures.holds) ∙ sym c.release.ensures.mails) r.mails;
    }

pub returns-clause-fewer : goal.returns-clause-fewer
returns-clause-fewer g c =
    let l = c.deref_mut-live.result.now in
    let same : length l.held.holds ≡ length c.args.self.now.held.holds = ap (λ v. length v.held.holds) (opened c.self.inside.life c.in-Live.live l c.args.self.now c.self.view_is c.in-Live.is c.deref_mut-live.ensures.value) in
    let kept = ap length c.keep_below.ensures.holds in
    let few = length-filter_le (λ x. is_above c.args.top.now x.0) l.held.holds in
    omega (arith, same, kept, few)
