use Rattle.plan_actors.specs.Plans.{begin_in}
use Rattle.plan_actors.proofs.Meeting.{plan_fits, begin_fits}
use Rattle.plan_actors.proofs.Owing.{setting_of}
use Rattle.serial_runs.proofs.plans.plans_end_in_one_state.Goals as goal

pub returns : goal.returns
returns c = λ plan start fits begins labels s r fin others labels' s' some r' fin'.
    c.one_end.ensures (setting_of plan.program fits.fit fits.verified plan.script.hosts) plan.workers (begin_in plan start) plan.script.batches (begin_fits plan fits start begins) (plan_fits plan fits) labels s r fin others labels' s'
    (let p = plan_fits plan fits in record { some_host = p.some_host; some_worker = some; jobs = p.jobs }) r' fin'
