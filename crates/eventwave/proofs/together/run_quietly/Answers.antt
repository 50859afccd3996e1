use Rattle.std.proofs.Common.{◌≡◌, ◌∙◌, true, false, subst, sym}
use Rattle.wave_effects.specs.Plans.{plan_of}
use Rattle.due_answer.specs.Prepared.{Tells}
use Rattle.due_answer.specs.Tasks.{workers_of}
use Rattle.eventwave.specs.inner.Engines.{IsMade}
use Rattle.eventwave.specs.inner.Tasks.{has_lines}
use Rattle.eventwave.proofs.GivingLemmas.{gives_it}
use Rattle.eventwave.proofs.MadeLemmas.{for_engine, plan_fits, report_is, tellable}
use Rattle.eventwave.proofs.TaskLemmas.{runs}
use Rattle.eventwave.proofs.together.run_quietly.Goals as goal

pub run_together-requires-clause-fits : goal.run_together-requires-clause-fits
run_together-requires-clause-fits g c κs within = plan_fits c.args.work c.workers.result (plan_of c.into_plan-plan.result.1) c.into_plan-plan.ensures.plan c.requires.done.can_run

pub told_at_once-requires : goal.told_at_once-requires
told_at_once-requires g c =
    let task = c.args.task in
    let done = c.requires.done in
    let plan = c.into_plan-plan.result.1 in
    let p = for_engine c.args.work task.engine c.workers.result (plan_of plan) c.into_plan-plan.ensures.plan c.workers.ensures in
    let who = runs done.command true task done.who done.asked in
    let made = subst (λ e. IsMade e (plan_of plan) c.into_plan-plan.result.2 c.in-Ok.made) (sym who) (c.in-Ok.ensures.made (workers_of task.engine)) in
    tellable c.args.report task.engine c.args.work plan c.into_plan-plan.result.2 p c.into_plan-plan.ensures.start c.in-Ok.made made (subst (λ t. has_lines t ≡ false) c.requires.telling c.requires.quiet) (λ is. done.saved (c.requires.telling ∙ is))

pub returns-in-Ok-told_at_once-clause-gave : goal.returns-in-Ok-told_at_once-clause-gave
returns-in-Ok-told_at_once-clause-gave g c =
    let task = c.args.task in
    let done = c.requires.done in
    let plan = c.into_plan-plan.result.1 in
    let answer = c.in-Ok-told_at_once.answer in
    let p = for_engine c.args.work task.engine c.workers.result (plan_of plan) c.into_plan-plan.ensures.plan c.workers.ensures in
    let who = runs done.command true task done.who done.asked in
    let made = subst (λ e. IsMade e (plan_of plan) c.into_plan-plan.result.2 c.in-Ok.made) (sym who) (c.in-Ok.ensures.made (workers_of task.engine)) in
    let told = c.in-Ok-told_at_once.ensures ∙ report_is c.args.report task.engine c.args.work plan c.into_plan-plan.result.2 p c.into_plan-plan.ensures.start c.in-Ok.made made in
    gives_it _ _ (Tells task.telling c.args.work) answer c.give.result (subst (λ t. Tells t c.args.work answer) (sym c.requires.telling) told) c.give.ensures.gave
