use Rattle.std.proofs.Common.{ap}
use Rattle.event_cells.specs.Cells.{desk_in}
use Rattle.wave_states.specs.States.{is_peek_in}
use Rattle.wave_effects.proofs.records.only_looks.Goals as goal

pub returns-in-Some : goal.returns-in-Some
returns-in-Some c = ap is_peek_in (c.in-Some.ensures (desk_in c.args.cell.now) (c.cells_stand.ensures c.args.cell.now))

pub returns-in-None : goal.returns-in-None
returns-in-None c = ap is_peek_in (c.in-None.ensures (desk_in c.args.cell.now) (c.cells_stand.ensures c.args.cell.now))
