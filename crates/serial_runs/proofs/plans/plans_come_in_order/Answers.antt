use Rattle.plan_actors.specs.Plans.{begin_in}
use Rattle.plan_actors.proofs.Meeting.{plan_fits, begin_fits}
use Rattle.plan_actors.proofs.Owing.{setting_of}
use Rattle.serial_runs.proofs.plans.plans_come_in_order.Goals as goal

pub returns : goal.returns
returns c = λ plan start fits begins labels s r.
    c.arrivals_are_in_order.ensures (setting_of plan.program fits.fit fits.verified plan.script.hosts) plan.workers (begin_in plan start) plan.script.batches (begin_fits plan fits start begins) (plan_fits plan fits) labels s r
