use Rattle.plan_actors.proofs.Jobs.{runs_line, counts_line}
use Rattle.plan_actors.proofs.laws.jobs_are_lines.Goals as goal

pub returns-clause-runs : goal.returns-clause-runs
returns-clause-runs c = λ program ticket tree line fit verified is job. runs_line program fit verified ticket tree is line job

pub returns-clause-segments : goal.returns-clause-segments
returns-clause-segments c = λ program ticket tree line fit verified is job. counts_line program fit verified ticket tree is line job
