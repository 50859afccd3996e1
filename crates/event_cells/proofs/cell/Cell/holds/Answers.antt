use Rattle.wave_base.specs.Paths.{path_cmp}
use Rattle.event_cells.proofs.Sorted.{sorted_none}
use Rattle.event_cells.proofs.cell.Cell.holds.Goals as goal

pub returns-in-Done-clause-ordered : goal.returns-in-Done-clause-ordered
returns-in-Done-clause-ordered g c = sorted_none path_cmp
