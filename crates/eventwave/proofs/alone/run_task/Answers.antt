use Rattle.std.proofs.Common.{sym, subst}
use Rattle.wave_effects.specs.Plans.{plan_of}
use Rattle.due_answer.specs.Prepared.{Tells}
use Rattle.eventwave.specs.inner.Parts.{SomeGave}
use Rattle.eventwave.proofs.GivingLemmas.{rose_later}
use Rattle.eventwave.proofs.MadeLemmas.{for_engine, make_of, plan_fits, poured, run_broken, run_gives}
use Rattle.eventwave.proofs.TaskLemmas.{runs, suits}
use Rattle.eventwave.proofs.alone.run_task.Goals as goal

pub run_alone-requires-clause-can : goal.run_alone-requires-clause-can
run_alone-requires-clause-can g c =
    let parts = c.into_plan-service.ensures in
    make_of c.args.work c.workers.result c.into_plan-service.result.0 (plan_of c.into_plan-service.result.1) c.into_plan-service.result.2 parts.service parts.plan parts.start c.requires.can_run

pub run_alone-requires-clause-alone : goal.run_alone-requires-clause-alone
run_alone-requires-clause-alone g c = (runs c.requires.command _ c.args.task c.requires.who c.requires.asked).0

pub pour-requires : goal.pour-requires
pour-requires g c =
    let task = c.args.task in
    let done = c.requires in
    let plan = c.into_plan-service.result.1 in
    let p = for_engine c.args.work task.engine c.workers.result (plan_of plan) c.into_plan-service.ensures.plan c.workers.ensures in
    poured task.telling task.engine c.args.work plan c.into_plan-service.result.2 p c.into_plan-service.ensures.start done.can_run (suits done.command task done.asked) (runs done.command _ task done.who done.asked).1 c.in-Ok.made
    (plan_fits c.args.work c.workers.result (plan_of plan) c.into_plan-service.ensures.plan done.can_run) c.in-Ok.ensures.made

pub returns-in-Ok-clause-gave : goal.returns-in-Ok-clause-gave
returns-in-Ok-clause-gave g c =
    let task = c.args.task in
    let done = c.requires in
    let plan = c.into_plan-service.result.1 in
    let p = for_engine c.args.work task.engine c.workers.result (plan_of plan) c.into_plan-service.ensures.plan c.workers.ensures in
    run_gives task.telling task.engine c.args.work plan c.into_plan-service.result.2 p c.into_plan-service.ensures.start done.can_run (suits done.command task done.asked) (runs done.command _ task done.who done.asked).1 c.in-Ok.made
    _ _ _ c.pour.result c.in-Ok.ensures.made c.in-Ok.ensures.lines c.pour.ensures.gave

pub returns-in-Ok-clause-fault : goal.returns-in-Ok-clause-fault
returns-in-Ok-clause-fault g c = λ fault. rose_later _ _ _ c.run_alone.ensures.later (c.pour.ensures.fault fault)

pub returns-clause-gave : goal.returns-clause-gave
returns-clause-gave g c =
    let task = c.args.task in
    let done = c.requires in
    let plan = c.into_plan-service.result.1 in
    let p = for_engine c.args.work task.engine c.workers.result (plan_of plan) c.into_plan-service.ensures.plan c.workers.ensures in
    subst (SomeGave (Tells task.telling c.args.work) (g.K.Sink.written c.args.out.now) (g.K.Sink.written c.run_alone.new.out)) (sym c.broken_off.ensures)
    (run_broken task.telling task.engine c.args.work plan c.into_plan-service.result.2 p c.into_plan-service.ensures.start done.can_run (suits done.command task done.asked) (runs done.command _ task done.who done.asked).1
    _ _ c.in-Err.error c.in-Err.ensures.front)
