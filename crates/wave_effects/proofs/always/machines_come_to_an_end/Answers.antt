use Rattle.plan_actors.specs.Plans.{Setting, begin_in}
use Rattle.plan_actors.proofs.Meeting.{plan_fits, begin_fits}
use Rattle.plan_actors.proofs.Owing.{setting_of}
use Rattle.wave_effects.proofs.always.machines_come_to_an_end.Goals as goal

pub returns-clause-never_stuck : goal.returns-clause-never_stuck
returns-clause-never_stuck c = λ m start s stands.
    let k : Setting = setting_of m.plan.program stands.fits.fit stands.fits.verified m.plan.script.hosts in
    c.never_stuck.ensures k m.plan.workers (begin_in m.plan start) m.plan.script.batches (begin_fits m.plan stands.fits start stands.begins) (plan_fits m.plan stands.fits) stands.labels s stands.reached

pub returns-clause-short : goal.returns-clause-short
returns-clause-short c = λ m start s stands. c.runs_are_short.ensures.most m.plan start stands.fits stands.begins stands.labels s stands.reached
