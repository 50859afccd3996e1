use Rattle.std.proofs.Common.{◌≡◌, ◌∙◌, map, sym, ap, subst}
use Rattle.script_fold.specs.Runs.{finished_of}
use Rattle.wave_labels.specs.Labels.{label_of}
use Rattle.wave_states.specs.Runs.{Finished, IsDrive}
use Rattle.plan_actors.specs.Calls.{code_ran}
use Rattle.plan_actors.specs.PlanActors.{plan_actors}
use Rattle.plan_actors.specs.Plans.{Plan}
use Rattle.wave_effects.specs.Lengths.{IsMeasured}
use Rattle.wave_effects.specs.Machines.{Stands}
use Rattle.wave_effects.specs.Plans.{plan_of}
use Rattle.wave_machine.specs.Prepared.{Shown}
use Rattle.wave_drives.specs.Rules.{rule_number, rule_of}
use Rattle.wave_drives.specs.inner.Driving.{first_state}
use Rattle.wave_drives.proofs.Driven.{first_under}
use Rattle.wave_drives.proofs.drives.drive_with.Goals as goal

pub drive_on-requires-clause-under : goal.drive_on-requires-clause-under
drive_on-requires-clause-under c =
    let p = plan_of c.args.plan.now in
    let start = c.args.start.now in
    let w = c.in_ok-walk.walk in
    let is = c.in_ok-walk.ensures.machine in
    let same : w.machine.kept.plan ≡ p = ap (λ (x : Shown). x.kept.plan) is ∙ c.in_ok-machine.ensures.plan in
    let stands = subst (λ (x : Shown). Stands x.kept start (first_state p start)) (sym is) c.in_ok-machine.ensures.stands in
    first_under w.machine.kept p start w.ends.items same c.in_ok-walk.ensures.ends stands

pub drive_on-requires-clause-plan : goal.drive_on-requires-clause-plan
drive_on-requires-clause-plan c = ap (λ (x : Shown). x.kept.plan) c.in_ok-walk.ensures.machine ∙ c.in_ok-machine.ensures.plan

pub finished_of-requires : goal.finished_of-requires
finished_of-requires c =
    let f = c.in_ok-labels.ensures.finished in
    (c.args.start.now, f.0, f.1, subst (λ (q : Plan). Finished (plan_actors q.program) q.workers f.0) (sym c.in_ok-labels.ensures.plan) f.2)

pub returns-clause-told : goal.returns-clause-told
returns-clause-told c =
    let f = c.in_ok-labels.ensures.finished in
    c.in_ok-finished.ensures c.args.start.now f.0 f.1
    ∙ ap (λ (p : Plan). finished_of (code_ran p.program) p.program.shape c.args.start.now p.script) c.in_ok-labels.ensures.plan

pub returns-clause-driven : goal.returns-clause-driven
returns-clause-driven c = subst (λ xs. IsDrive (plan_actors c.args.plan.now.program) c.args.plan.now.workers c.args.plan.now.script.hosts (rule_of c.args.rule) (rule_number c.args.rule) (first_state (plan_of c.args.plan.now) c.args.start.now) (map label_of xs)) (sym c.from_vec.ensures) c.in_ok-labels.ensures.driven

pub returns-clause-measured : goal.returns-clause-measured
returns-clause-measured c =
    subst (λ xs. IsMeasured (plan_of c.args.plan.now) c.args.start.now (map label_of xs)) (sym c.from_vec.ensures)
    (c.drives_are_measured.ensures (plan_of c.args.plan.now) c.args.start.now c.requires.fits c.requires.begins c.args.rule (map label_of c.in_ok-labels.labels.items) c.in_ok-labels.ensures.driven)
