use Rattle.std.proofs.Common.{Some, ◌∙◌, sym, subst}
use Rattle.std.specs.Prelude.{nat_eq}
use Rattle.wave_states.specs.States.{set}
use Rattle.event_cells.proofs.Desks.{AllCarried, carried_put}
use Rattle.event_cells.proofs.Lives.{opened, stands_so}
use Rattle.event_cells.proofs.cell.Cell.redirect.Goals as goal

pub returns-clause-desk : goal.returns-clause-desk
returns-clause-desk g c = λ d m h stands.
    let l = c.deref_mut.result.now in
    let live = stands_so l _ d (opened c.self.inside.life c.in-Live.live l c.args.self.now c.self.view_is c.in-Live.is c.deref_mut.ensures.value) h in
    record {
      actor = live.actor;
      held = live.held;
      sent = live.sent ∙ sym c.replace.ensures.sent;
      status = live.status;
      mails = subst (λ es. AllCarried es (set nat_eq d.mails c.args.number (Some m))) (sym c.replace.ensures.mails) (carried_put l.outbox.mails d.mails c.args.number c.args.envelope m live.mails stands);
    }
