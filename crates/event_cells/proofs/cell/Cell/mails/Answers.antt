use Rattle.std.specs.Ordering.{nat_cmp}
use Rattle.event_cells.proofs.Sorted.{sorted_none}
use Rattle.event_cells.proofs.cell.Cell.mails.Goals as goal

pub returns-in-Done-clause-ordered : goal.returns-in-Done-clause-ordered
returns-in-Done-clause-ordered g c = sorted_none nat_cmp
