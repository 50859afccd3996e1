use Rattle.plan_actors.specs.Plans.{Setting, begin_in}
use Rattle.plan_actors.proofs.Meeting.{begin_fits, plan_fits}
use Rattle.plan_actors.proofs.Owing.{setting_of}
use Rattle.tests_machine.proofs.Stepping.{first_enabled}
use Rattle.tests_machine.proofs.tests.steps.first_of.Goals as goal

pub returns-in-Some : goal.returns-in-Some
returns-in-Some c =
    let on = c.machine_stands.ensures in
    let m = c.args.machine.now.kept in
    let fits = on.stands.fits in
    let k : Setting = setting_of m.plan.program fits.fit fits.verified m.plan.script.hosts in
    let listed = c.lists_are_exact.ensures k m.plan.workers (begin_in m.plan on.start) m.plan.script.batches (begin_fits m.plan fits on.start on.stands.begins) (plan_fits m.plan fits) on.stands.labels on.state on.stands.reached in
    first_enabled m c.in_ok-labels.labels c.in-Some.label.now on (c.in_ok-labels.ensures on.start on.state on.stands) c.in-Some.ensures.some listed
