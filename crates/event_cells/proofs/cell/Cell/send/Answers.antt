use Rattle.std.proofs.Common.{◌≡◌, ◌∙◌, ◌+◌, ℕ, suc, Some, ap, sym, subst, add-one}
use Rattle.std.specs.Prelude.{nat_eq}
use Rattle.std.specs.BTreeMap.{insert_entry}
use Rattle.std.specs.Ordering.{nat_cmp}
use Rattle.wave_states.specs.States.{set}
use Rattle.event_cells.proofs.Desks.{AllCarried, carried_in, carried_put}
use Rattle.event_cells.proofs.Lives.{opened, stands_so}
use Rattle.event_cells.proofs.cell.Cell.send.Goals as goal

pub returns-clause-desk : goal.returns-clause-desk
returns-clause-desk g c = λ d m h stands.
    let l = c.deref_mut.result.now in
    let live = stands_so l _ d (opened c.self.inside.life c.in-Live.live l c.args.self.now c.self.view_is c.in-Live.is c.deref_mut.ensures.value) h in
    let number : l.outbox.sent + 1 ≡ suc d.event.sent = add-one l.outbox.sent ∙ ap suc (sym live.sent) in
    let more = λ (n : ℕ). insert_entry nat_cmp l.outbox.mails (n + 1) c.args.envelope in
    record {
      actor = live.actor;
      held = live.held;
      sent = sym number ∙ sym c.send.ensures.sent;
      status = live.status;
      mails = carried_in (more l.outbox.sent) c.send.new.self.mails (set nat_eq d.mails (suc d.event.sent) (Some m)) (sym c.send.ensures.mails)
          (subst (λ (n : ℕ). AllCarried (more l.outbox.sent) (set nat_eq d.mails n (Some m))) number (carried_put l.outbox.mails d.mails (l.outbox.sent + 1) c.args.envelope m live.mails stands));
    }
