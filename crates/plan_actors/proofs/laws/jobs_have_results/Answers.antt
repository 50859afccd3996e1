use Rattle.plan_actors.proofs.Unended.{never_unended}
use Rattle.plan_actors.proofs.laws.jobs_have_results.Goals as goal

pub returns : goal.returns
returns c = λ program ticket tree line fit verified is job. never_unended program fit verified ticket tree is line job
