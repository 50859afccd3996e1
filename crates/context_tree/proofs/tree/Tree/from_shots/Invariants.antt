use Rattle.std.proofs.Common.{◌≡◌, map, take}
use Rattle.context_tree.specs.Contexts.{shot_at}
use Rattle.context_tree.proofs.tree.Tree.from_shots.Given as goal

abbrev pub invariant-loop-shot : goal.invariant-loop-shot
invariant-loop-shot l = map shot_at l.contexts.entries ≡ take l.shot-index l.shots
