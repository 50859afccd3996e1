use Rattle.resolved_service.specs.Steps.{steps_in}
use Rattle.service_eval.specs.inner.Ahead.{Advances}
use Rattle.service_eval.specs.inner.Weight.{steps_weight}
use Rattle.service_eval.proofs.ahead.as_far.Given as goal

abbrev pub invariant-statements : goal.invariant-statements
invariant-statements l = Advances l.code l.fn.contexts l.fn.m (steps_in l.stmts) l.contexts l.m (steps_in l.rest)

abbrev pub decreases-statements : goal.decreases-statements
decreases-statements l = steps_weight 0 (steps_in l.rest)
