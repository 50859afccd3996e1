use Rattle.std.proofs.Common.{sym, subst}
use Rattle.wave_effects.specs.Plans.{plan_of}
use Rattle.due_answer.specs.Prepared.{Tells}
use Rattle.due_answer.specs.Tasks.{workers_of}
use Rattle.eventwave.specs.inner.Engines.{IsMade}
use Rattle.eventwave.specs.inner.Parts.{SomeGave}
use Rattle.eventwave.proofs.GivingLemmas.{rose_later}
use Rattle.eventwave.proofs.MadeLemmas.{for_engine, plan_fits, poured, run_broken, run_gives}
use Rattle.eventwave.proofs.TaskLemmas.{runs, suits}
use Rattle.eventwave.proofs.together.run_listed.Goals as goal

pub run_together-requires-clause-fits : goal.run_together-requires-clause-fits
run_together-requires-clause-fits g c κs within = plan_fits c.args.work c.workers.result (plan_of c.into_plan-plan.result.1) c.into_plan-plan.ensures.plan c.requires.done.can_run

pub pour-requires : goal.pour-requires
pour-requires g c =
    let task = c.args.task in
    let done = c.requires.done in
    let plan = c.into_plan-plan.result.1 in
    let start = c.into_plan-plan.result.2 in
    let p = for_engine c.args.work task.engine c.workers.result (plan_of plan) c.into_plan-plan.ensures.plan c.workers.ensures in
    let made = subst (λ e. IsMade e (plan_of plan) start c.in-Ok.made) (sym (runs done.command _ task done.who done.asked)) (c.in-Ok.ensures.made (workers_of task.engine)) in
    poured task.telling task.engine c.args.work plan start p c.into_plan-plan.ensures.start done.can_run (suits done.command task done.asked) c.requires.lines c.in-Ok.made
    (plan_fits c.args.work c.workers.result (plan_of plan) c.into_plan-plan.ensures.plan done.can_run) made

pub returns-in-Ok-clause-gave : goal.returns-in-Ok-clause-gave
returns-in-Ok-clause-gave g c =
    let task = c.args.task in
    let done = c.requires.done in
    let plan = c.into_plan-plan.result.1 in
    let start = c.into_plan-plan.result.2 in
    let p = for_engine c.args.work task.engine c.workers.result (plan_of plan) c.into_plan-plan.ensures.plan c.workers.ensures in
    let made = subst (λ e. IsMade e (plan_of plan) start c.in-Ok.made) (sym (runs done.command _ task done.who done.asked)) (c.in-Ok.ensures.made (workers_of task.engine)) in
    run_gives task.telling task.engine c.args.work plan start p c.into_plan-plan.ensures.start done.can_run (suits done.command task done.asked) c.requires.lines c.in-Ok.made _ _ _ c.pour.result made c.in-Ok.ensures.lines c.pour.ensures.gave

pub returns-in-Ok-clause-fault : goal.returns-in-Ok-clause-fault
returns-in-Ok-clause-fault g c = λ fault. rose_later _ _ _ c.run_together.ensures.later (c.pour.ensures.fault fault)

pub returns-clause-gave : goal.returns-clause-gave
returns-clause-gave g c =
    let task = c.args.task in
    let done = c.requires.done in
    let plan = c.into_plan-plan.result.1 in
    let p = for_engine c.args.work task.engine c.workers.result (plan_of plan) c.into_plan-plan.ensures.plan c.workers.ensures in
    subst (SomeGave (Tells task.telling c.args.work) (g.K.Sink.written c.args.out.now) (g.K.Sink.written c.run_together.new.out)) (sym c.broken_off.ensures)
    (run_broken task.telling task.engine c.args.work plan c.into_plan-plan.result.2 p c.into_plan-plan.ensures.start done.can_run (suits done.command task done.asked) c.requires.lines _ _ c.in-Err.error c.in-Err.ensures.front)
