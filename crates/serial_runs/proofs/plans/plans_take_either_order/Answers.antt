use Rattle.plan_actors.proofs.Owing.{setting_of}
use Rattle.serial_runs.proofs.plans.plans_take_either_order.Goals as goal

pub returns : goal.returns
returns c = λ plan start fits begins labels s r. c.either_order.ensures (setting_of plan.program fits.fit fits.verified plan.script.hosts) plan.workers s
