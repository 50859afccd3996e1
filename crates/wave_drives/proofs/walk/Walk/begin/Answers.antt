use Rattle.std.proofs.Common.{rules, ◌<◌, ◌∙◌, length, sym, ap, subst}
use Rattle.service_verify.specs.Fit.{IsFit}
use Rattle.wave_base.specs.declared.numbers.Worker.{Worker}
use Rattle.wave_labels.specs.Labels.{label_of}
use Rattle.wave_states.specs.States.{Hand}
use Rattle.code_actor.specs.CodeActors.{Fields}
use Rattle.plan_actors.specs.PlanActors as actors
use Rattle.plan_actors.specs.Plans.{Plan}
use Rattle.wave_drives.specs.declared.ends.End.{End}
use Rattle.wave_effects.specs.Actors.{MayRun}
use Rattle.wave_effects.specs.Leases.{HasRun, StandsFor}
use Rattle.wave_drives.proofs.Driven.{begun_leads, enabled_of, keeps_enabled, keeps_takes, lease_ran, within_ends}
use Rattle.wave_drives.proofs.walk.Walk.begin.Goals as goal

pub reserve-requires : goal.reserve-requires
reserve-requires c = enabled_of c.args.self.now.machine.kept c.args.self.now.ends.items (label_of c.args.label.now) c.requires.taking

pub start-lease-requires-clause-enabled : goal.start-lease-requires-clause-enabled
start-lease-requires-clause-enabled c =
    let m = c.args.self.now.machine.kept in
    let l = label_of c.args.label.now in
    keeps_enabled m c.reserve.new.self.kept c.reserve.ensures.keeps c.reserve.ensures.plan l (enabled_of m c.args.self.now.ends.items l c.requires.taking)

pub run_lease-requires-clause-fit : goal.run_lease-requires-clause-fit
run_lease-requires-clause-fit c = subst (λ (p : Plan). IsFit p.program) c.requires.plan c.requires.taking.under.stands.fits.fit

pub run_lease-requires-clause-may_run : goal.run_lease-requires-clause-may_run
run_lease-requires-clause-may_run c =
    let lease = c.start-lease.result in
    subst (λ (p : Plan). MayRun p.program lease.actor lease.body) (c.start-lease.ensures.plan ∙ c.reserve.ensures.plan ∙ c.requires.plan) c.start-lease.ensures.may_run

pub index_mut-requires : goal.index_mut-requires
index_mut-requires c =
    let within : c.args.label.now.worker.0 < length c.args.self.now.ends.items = within_ends c.args.self.now.machine.kept c.args.self.now.ends.items (label_of c.args.label.now) c.requires.taking in
    search (rules, within)

pub returns-clause-leads : goal.returns-clause-leads
returns-clause-leads c =
    let m = c.args.self.now.machine.kept in
    let m₁ = c.reserve.new.self.kept in
    let m' = c.start-lease.new.self.kept in
    let l = label_of c.args.label.now in
    let ends = c.args.self.now.ends.items in
    let lease = c.start-lease.result in
    let left = c.run_lease.new.lease in
    let why = c.in_ok-pause.pause in
    let end : End = record { lease = left; pause = why } in
    let ran : (hand : Hand actors.Actor Fields) → StandsFor m.plan.program lease hand → HasRun m.plan.program hand left why =
    subst (λ (p : Plan). (hand : Hand actors.Actor Fields) → StandsFor p.program lease hand → HasRun p.program hand left why) (sym c.requires.plan) c.in_ok-pause.ensures.segment in
    begun_leads m m' ends l (c.start-lease.ensures.plan ∙ c.reserve.ensures.plan) (within_ends m ends l c.requires.taking) (keeps_takes m m₁ c.reserve.ensures.keeps c.reserve.ensures.plan l m' c.start-lease.ensures.takes) end
    (ap (λ (w : Worker). w.0) (c.run_lease.ensures.worker ∙ c.start-lease.ensures.worker)) (lease_ran m m₁ c.reserve.ensures.keeps c.reserve.ensures.plan l lease c.start-lease.ensures.leases left why ran)
