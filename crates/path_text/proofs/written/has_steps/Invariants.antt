use Rattle.std.proofs.Common.{length}
use Rattle.path_text.proofs.StepLemmas.{AreSomeTo}
use Rattle.path_text.proofs.written.has_steps.Given as goal

abbrev pub invariant-loop-rest : goal.invariant-loop-rest
invariant-loop-rest l = AreSomeTo l.fn.text l.rest

abbrev pub decreases-loop-rest : goal.decreases-loop-rest
decreases-loop-rest l = length l.rest
