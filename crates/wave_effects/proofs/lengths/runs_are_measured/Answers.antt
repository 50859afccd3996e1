use Rattle.plan_actors.specs.Plans.{Setting, begin_in}
use Rattle.plan_actors.proofs.Meeting.{plan_fits, begin_fits}
use Rattle.plan_actors.proofs.Owing.{setting_of}
use Rattle.wave_effects.proofs.lengths.runs_are_measured.Goals as goal

pub returns-clause-finished : goal.returns-clause-finished
returns-clause-finished c = λ plan start fits begins labels s reached finished. record {
  besides_passes = c.runs_are_short.ensures.finished plan start fits begins labels s reached finished;
  most = c.runs_are_short.ensures.most plan start fits begins labels s reached;
}

pub returns-clause-passes : goal.returns-clause-passes
returns-clause-passes c = λ m start s stands.
    let k : Setting = setting_of m.plan.program stands.fits.fit stands.fits.verified m.plan.script.hosts in
    c.label_bounds.ensures k m.plan.workers (begin_in m.plan start) m.plan.script.batches (begin_fits m.plan stands.fits start stands.begins) (plan_fits m.plan stands.fits) stands.labels s stands.reached
