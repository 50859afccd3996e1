use Rattle.plan_actors.specs.Plans.{Setting, begin_in}
use Rattle.plan_actors.proofs.Meeting.{plan_fits, begin_fits}
use Rattle.plan_actors.proofs.Owing.{setting_of}
use Rattle.wave_effects.proofs.hands.segments_are_known.Goals as goal

pub returns : goal.returns
returns c = λ plan start labels s fits begins reached.
    let k : Setting = setting_of plan.program fits.fit fits.verified plan.script.hosts in
    let b = begin_fits plan fits start begins in
    let p = plan_fits plan fits in
    record {
      stoppable = c.stoppable.ensures k plan.workers (begin_in plan start) plan.script.batches b p labels s reached;
      may_run = c.may_run.ensures k plan.workers (begin_in plan start) plan.script.batches b p labels s reached;
      within = c.within.ensures k plan.workers (begin_in plan start) plan.script.batches b p labels s reached;
      ends = c.folds_end.ensures.most plan start fits begins;
      trails = c.trails.ensures k plan.workers (begin_in plan start) plan.script.batches b p labels s reached;
      numbers = c.events_send_few.ensures plan start fits begins labels s reached;
    }
