use Rattle.std.proofs.Common.{◌∙◌, ap, sym, option_map}
use Rattle.wave_states.specs.States.{hold_at}
use Rattle.event_cells.specs.Cells.{hold_of}
use Rattle.event_cells.proofs.Desks.{held_found}
use Rattle.event_cells.proofs.Lives.{opened, stands_so}
use Rattle.event_cells.proofs.cell.Cell.hold.Goals as goal

pub returns-in-Live : goal.returns-in-Live
returns-in-Live g c = λ d h.
    let l = c.deref.result.now in
    let live = stands_so l _ d (opened c.self.inside.life c.in-Live.live l c.args.self.now c.self.view_is c.in-Live.is c.deref.ensures) h in
    ap (option_map hold_of) c.get.ensures ∙ sym (held_found c.args.path.now l.held.holds) ∙ ap (λ held. hold_at held c.args.path.now) (sym live.held)
