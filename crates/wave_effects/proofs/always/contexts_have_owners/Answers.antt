use Rattle.plan_actors.specs.Plans.{Setting, begin_in}
use Rattle.plan_actors.proofs.Meeting.{plan_fits, begin_fits}
use Rattle.plan_actors.proofs.Owing.{setting_of}
use Rattle.wave_effects.proofs.always.contexts_have_owners.Goals as goal

pub returns-clause-trails : goal.returns-clause-trails
returns-clause-trails c = λ m start s stands.
    let k : Setting = setting_of m.plan.program stands.fits.fit stands.fits.verified m.plan.script.hosts in
    c.trails.ensures k m.plan.workers (begin_in m.plan start) m.plan.script.batches (begin_fits m.plan stands.fits start stands.begins) (plan_fits m.plan stands.fits) stands.labels s stands.reached

pub returns-clause-one : goal.returns-clause-one
returns-clause-one c = λ m start s stands.
    let k : Setting = setting_of m.plan.program stands.fits.fit stands.fits.verified m.plan.script.hosts in
    c.one_owner.ensures k m.plan.workers (begin_in m.plan start) m.plan.script.batches (begin_fits m.plan stands.fits start stands.begins) (plan_fits m.plan stands.fits) stands.labels s stands.reached

pub returns-clause-by_owners : goal.returns-clause-by_owners
returns-clause-by_owners c = λ m start s stands.
    let k : Setting = setting_of m.plan.program stands.fits.fit stands.fits.verified m.plan.script.hosts in
    c.by_owners.ensures k m.plan.workers (begin_in m.plan start) m.plan.script.batches (begin_fits m.plan stands.fits start stands.begins) (plan_fits m.plan stands.fits) stands.labels s stands.reached
