use Rattle.plan_actors.specs.Plans.{Setting, begin_in}
use Rattle.plan_actors.proofs.Meeting.{plan_fits, begin_fits}
use Rattle.plan_actors.proofs.Owing.{setting_of}
use Rattle.wave_effects.proofs.always.machines_follow_the_fold.Goals as goal

pub returns-clause-results : goal.returns-clause-results
returns-clause-results c = λ m start s stands.
    let k : Setting = setting_of m.plan.program stands.fits.fit stands.fits.verified m.plan.script.hosts in
    c.results.ensures k m.plan.workers (begin_in m.plan start) m.plan.script.batches (begin_fits m.plan stands.fits start stands.begins) (plan_fits m.plan stands.fits) stands.labels s stands.reached

pub returns-clause-tickets : goal.returns-clause-tickets
returns-clause-tickets c = λ m start s stands.
    let k : Setting = setting_of m.plan.program stands.fits.fit stands.fits.verified m.plan.script.hosts in
    c.tickets.ensures k m.plan.workers (begin_in m.plan start) m.plan.script.batches (begin_fits m.plan stands.fits start stands.begins) (plan_fits m.plan stands.fits) stands.labels s stands.reached

pub returns-clause-numbers : goal.returns-clause-numbers
returns-clause-numbers c = λ m start s stands.
    let k : Setting = setting_of m.plan.program stands.fits.fit stands.fits.verified m.plan.script.hosts in
    c.numbers.ensures k m.plan.workers (begin_in m.plan start) m.plan.script.batches (begin_fits m.plan stands.fits start stands.begins) (plan_fits m.plan stands.fits) stands.labels s stands.reached

pub returns-clause-records : goal.returns-clause-records
returns-clause-records c = λ m start s stands.
    let k : Setting = setting_of m.plan.program stands.fits.fit stands.fits.verified m.plan.script.hosts in
    c.records.ensures k m.plan.workers (begin_in m.plan start) m.plan.script.batches (begin_fits m.plan stands.fits start stands.begins) (plan_fits m.plan stands.fits) stands.labels s stands.reached

pub returns-clause-complete : goal.returns-clause-complete
returns-clause-complete c = λ m start s stands.
    let k : Setting = setting_of m.plan.program stands.fits.fit stands.fits.verified m.plan.script.hosts in
    c.complete.ensures k m.plan.workers (begin_in m.plan start) m.plan.script.batches (begin_fits m.plan stands.fits start stands.begins) (plan_fits m.plan stands.fits) stands.labels s stands.reached
