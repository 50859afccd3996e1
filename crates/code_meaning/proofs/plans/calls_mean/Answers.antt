use Rattle.code_meaning.proofs.Meaning.{means, calls_same}
use Rattle.code_meaning.proofs.plans.calls_mean.Goals as goal

pub returns-clause-same : goal.returns-clause-same
returns-clause-same c = λ service program tree call code is job. calls_same service program code tree call is job

pub returns-clause-segments : goal.returns-clause-segments
returns-clause-segments c = λ service program tree call code is job. (means service program code tree call is job).segments
