use Rattle.std.proofs.Common.{◌∙◌}
use Rattle.wave_base.specs.Paths.{path_cmp}
use Rattle.event_cells.proofs.Sorted.{sorted_none}
use Rattle.event_cells.proofs.held.Held.clear.Goals as goal

pub invariant_of-self : goal.invariant_of-self
invariant_of-self c = rw (c.shrink_to_fit.ensures.items ∙ c.clear.ensures.items) (sorted_none path_cmp)
