use Rattle.std.proofs.Common.{◌∙◌, sym, ap, subst}
use Rattle.wave_base.specs.declared.numbers.Worker.{Worker}
use Rattle.wave_labels.specs.Labels.{label_of}
use Rattle.wave_states.specs.States.{Hand}
use Rattle.code_actor.specs.CodeActors.{Fields}
use Rattle.plan_actors.specs.PlanActors as actors
use Rattle.plan_actors.specs.Plans.{Plan}
use Rattle.wave_effects.specs.Actors.{MayRun}
use Rattle.wave_effects.specs.Leases.{HasRun, StandsFor}
use Rattle.wave_drives.proofs.Driven.{keeps_enabled}
use Rattle.tests_machine.proofs.Stepping.{is_stopping}
use Rattle.tests_machine.proofs.tests.steps.run.Goals as goal

pub start-lease-requires-clause-enabled : goal.start-lease-requires-clause-enabled
start-lease-requires-clause-enabled c = keeps_enabled c.args.machine.now.kept c.reserve.new.self.kept c.reserve.ensures.keeps c.reserve.ensures.plan (label_of c.args.label.now) c.requires.enabled

pub run_lease-requires-clause-may_run : goal.run_lease-requires-clause-may_run
run_lease-requires-clause-may_run c =
    let lease = c.start-lease.result in
    subst (λ (p : Plan). MayRun p.program lease.actor lease.body) (c.start-lease.ensures.plan ∙ c.reserve.ensures.plan ∙ c.requires.plan) c.start-lease.ensures.may_run

pub stop-requires : goal.stop-requires
stop-requires c =
    let m = c.reserve.new.self.kept in
    let l = label_of c.args.label.now in
    let lease = c.start-lease.result in
    let left = c.run_lease.new.lease in
    let why = c.in_ok-pause.pause in
    let on = keeps_enabled c.args.machine.now.kept m c.reserve.ensures.keeps c.reserve.ensures.plan l c.requires.enabled in
    let ran : (hand : Hand actors.Actor Fields) → StandsFor m.plan.program lease hand → HasRun m.plan.program hand left why =
    subst (λ (p : Plan). (hand : Hand actors.Actor Fields) → StandsFor p.program lease hand → HasRun p.program hand left why) (sym (c.reserve.ensures.plan ∙ c.requires.plan)) c.in_ok-pause.ensures.segment in
    is_stopping m c.start-lease.new.self.kept l lease left why on c.start-lease.ensures.plan (ap (λ (w : Worker). w.0) (c.run_lease.ensures.worker ∙ c.start-lease.ensures.worker)) ran c.start-lease.ensures.takes c.start-lease.ensures.leases
