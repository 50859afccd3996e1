use Rattle.std.proofs.Common.{◌≡◌, ◌∙◌, false, ap, map, refl, sym}
use Rattle.std.specs.BTreeMap.{insert_entry}
use Rattle.wave_base.specs.Paths.{path_cmp}
use Rattle.event_cells.specs.Cells.{hold_of, held_of, is_over}
use Rattle.event_cells.proofs.Desks.{held_put}
use Rattle.event_cells.proofs.Lives.{opened, stands_so}
use Rattle.event_cells.proofs.cell.Cell.let_in.Goals as goal

pub returns-clause-desk : goal.returns-clause-desk
returns-clause-desk g c = λ d over h.
    let l = c.deref_mut-live.result.now in
    let same = opened c.self.inside.life c.in-Live.live l c.args.self.now c.self.view_is c.in-Live.is c.deref_mut-live.ensures.value in
    let live = stands_so l _ d same h in
    let on : is_over l.status ≡ false = ap (λ v. is_over v.status) same ∙ over in
    record {
      actor = λ _. live.actor on;
      held = ap (λ x. insert_entry path_cmp x c.args.path (hold_of c.args.hold)) live.held ∙ sym (held_put l.held.holds c.args.path c.args.hold) ∙ ap (map held_of) (sym c.put.ensures.holds);
      sent = live.sent;
      status = refl;
      mails = live.mails;
    }
