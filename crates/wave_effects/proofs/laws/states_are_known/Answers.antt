use Rattle.plan_actors.specs.Plans.{Setting, begin_in}
use Rattle.plan_actors.proofs.Meeting.{plan_fits, begin_fits}
use Rattle.plan_actors.proofs.Owing.{setting_of}
use Rattle.wave_effects.proofs.laws.states_are_known.Goals as goal

pub returns : goal.returns
returns c = λ plan start labels s fits begins reached.
    let k : Setting = setting_of plan.program fits.fit fits.verified plan.script.hosts in
    record {
      bounds = c.bounds.ensures k plan.workers (begin_in plan start) plan.script.batches (begin_fits plan fits start begins) (plan_fits plan fits) labels s reached;
      agree = c.agree.ensures k plan.workers (begin_in plan start) plan.script.batches (begin_fits plan fits start begins) (plan_fits plan fits) labels s reached;
    }
