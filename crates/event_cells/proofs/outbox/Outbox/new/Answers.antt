use Rattle.std.specs.Ordering.{nat_cmp}
use Rattle.event_cells.proofs.Sorted.{sorted_none}
use Rattle.event_cells.proofs.outbox.Outbox.new.Goals as goal

pub invariant_of-result : goal.invariant_of-result
invariant_of-result c = record { rises = rw c.new.ensures.items (sorted_none nat_cmp); below = rw c.new.ensures.items tt }
