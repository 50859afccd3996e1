use Rattle.std.proofs.Common.{length}
use Rattle.path_text.proofs.StepLemmas.{AreReadTo}
use Rattle.path_text.proofs.written.written_steps.Given as goal

abbrev pub invariant-loop-name : goal.invariant-loop-name
invariant-loop-name l = AreReadTo l.fn.text l.steps l.rest

abbrev pub decreases-loop-name : goal.decreases-loop-name
decreases-loop-name l = length l.rest
