use Rattle.std.proofs.Common.{◌≡◌, map, take}
use Rattle.script_fold.proofs.jobs.paths_of.Given as goal

abbrev pub invariant-loop-shot : goal.invariant-loop-shot
invariant-loop-shot l = l.paths.items ≡ map (λ s. s.path) (take l.shot-index l.shots)
