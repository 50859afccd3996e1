use Rattle.std.proofs.Common.{map}
use Rattle.wave_labels.specs.Labels.{label_of}
use Rattle.plan_actors.specs.Plans.{Setting, begin_in}
use Rattle.plan_actors.proofs.Meeting.{plan_fits, begin_fits}
use Rattle.plan_actors.proofs.Owing.{setting_of}
use Rattle.due_parts.proofs.PathLemmas.{all_named}
use Rattle.due_parts.proofs.traces.runs_have_paths.Goals as goal

pub returns : goal.returns
returns c = λ plan start journal has begins run.
    let fits = has.fits in
    let k : Setting = setting_of plan.program fits.fit fits.verified plan.script.hosts in
    let b = begin_in plan start in
    let is_begin = begin_fits plan fits start begins in
    let is_plan = plan_fits plan fits in
    all_named plan has.service has.code fits start begins
    (λ labels s reached. record {
      one = c.one_owner.ensures k plan.workers b plan.script.batches is_begin is_plan labels s reached;
      takes = c.by_owners.ensures k plan.workers b plan.script.batches is_begin is_plan labels s reached;
      trails = c.trails.ensures k plan.workers b plan.script.batches is_begin is_plan labels s reached;
    })
    run.state (c.complete.ensures k plan.workers b plan.script.batches is_begin is_plan (map label_of journal) run.state run.reached run.finished) journal run.reached
