use Rattle.script_fold.specs.Lines.{most_jobs}
use Rattle.plan_actors.specs.Plans.{Setting, begin_in}
use Rattle.plan_actors.proofs.Meeting.{plan_fits, begin_fits, none_after}
use Rattle.plan_actors.proofs.Owing.{setting_of}
use Rattle.plan_actors.proofs.laws.plans_drive.Goals as goal

pub returns : goal.returns
returns c = λ plan start fits begins rule picks x.
    let k : Setting = setting_of plan.program fits.fit fits.verified plan.script.hosts in
    c.drives_end.ensures k plan.workers (begin_in plan start) plan.script.batches (begin_fits plan fits start begins) (plan_fits plan fits) (most_jobs plan.script.batches) (none_after plan fits start begins) rule picks x
