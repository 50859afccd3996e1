use Rattle.std.proofs.Common.{◌≡◌, map, take}
use Rattle.wave_base.specs.declared.shape.Shape.{Shape}
use Rattle.wave_base.specs.Starts.{shown_fields}
use Rattle.context_tree.specs.Contexts.{as_pair, paths_of}
use Rattle.context_tree.proofs.OrderLemmas.{paired}
use Rattle.context_tree.proofs.tree.Tree.shots.Given as goal

abbrev pub invariant-loop-path : goal.invariant-loop-path
invariant-loop-path l = (shape : Shape) → map as_pair l.shots.items ≡ map (paired (shown_fields shape l.self.shots)) (take l.path-index (paths_of l.self))
