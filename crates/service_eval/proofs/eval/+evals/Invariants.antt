use Rattle.std.proofs.Common.{length}
use Rattle.service_eval.proofs.eval.+evals.Given as goal

abbrev pub decreases-evals : goal.decreases-evals
decreases-evals l = length l.es.now
