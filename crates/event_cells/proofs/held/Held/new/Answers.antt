use Rattle.wave_base.specs.Paths.{path_cmp}
use Rattle.event_cells.proofs.Sorted.{sorted_none}
use Rattle.event_cells.proofs.held.Held.new.Goals as goal

pub invariant_of-result : goal.invariant_of-result
invariant_of-result c = rw c.new.ensures.items (sorted_none path_cmp)
