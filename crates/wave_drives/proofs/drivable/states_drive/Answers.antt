use Rattle.plan_actors.specs.Plans.{Setting, begin_in}
use Rattle.plan_actors.proofs.Meeting.{plan_fits, begin_fits}
use Rattle.plan_actors.proofs.Owing.{setting_of}
use Rattle.wave_drives.proofs.drivable.states_drive.Goals as goal

pub returns : goal.returns
returns c = λ plan start labels s fits begins reached.
    let k : Setting = setting_of plan.program fits.fit fits.verified plan.script.hosts in
    let b = begin_in plan start in
    let is_begin = begin_fits plan fits start begins in
    let is_plan = plan_fits plan fits in
    record {
      listed = c.lists_are_exact.ensures k plan.workers b plan.script.batches is_begin is_plan labels s reached;
    }
