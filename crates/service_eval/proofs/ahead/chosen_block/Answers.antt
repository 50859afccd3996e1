use Rattle.std.proofs.Common.{sym, ap, subst, ◌∙◌}
use Rattle.wave_base.specs.declared.limits.TheConstants.{TICKS}
use Rattle.resolved_service.specs.Meaning.{effect, call_act}
use Rattle.resolved_service.specs.Steps.{Step, If, action_step, steps_in, else_in}
use Rattle.resolved_service.specs.View.{tree_of}
use Rattle.service_eval.specs.inner.Turns.{mach}
use Rattle.service_eval.specs.inner.Traces.{Traps}
use Rattle.service_eval.specs.inner.Ahead.{Stands}
use Rattle.service_eval.proofs.AheadLemmas.{body_stands, other_stands, test_stops}
use Rattle.service_eval.proofs.StepRows.{if_step}
use Rattle.service_eval.proofs.ahead.chosen_block.Goals as goal

pub returns-then-is_true : goal.returns-then-is_true
returns-then-is_true c =
    let at = c.args.stmt.now.at in
    let test = tree_of c.in-If.test in
    let body = steps_in c.as_slice.result.now in
    let other = else_in c.in-If.other in
    let found = rw c.in-Ok-Some.field-0-is at c.in-Ok-Some.ensures.finds in
    let is = ap (λ a. action_step a at) c.in-If.is ∙ if_step c.in-If.test c.in-If.body c.in-If.other at ∙ ap (λ b. If at test (steps_in b) other) (sym c.as_slice.ensures.value) in
    subst (λ (s : Step). Stands c.args.code c.args.contexts.now c.args.m.now s body) (sym is)
    (body_stands c.args.code c.args.contexts.now c.args.m.now at test body other c.in-Ok-Some.value found (sym c.is_true.ensures ∙ c.if-is_true.true))

pub returns-in-Ok-Some : goal.returns-in-Ok-Some
returns-in-Ok-Some c =
    let at = c.args.stmt.now.at in
    let test = tree_of c.in-If.test in
    let body = steps_in c.in-If.body.items in
    let other = else_in c.in-If.other in
    let found = rw c.in-Ok-Some.field-0-is at c.in-Ok-Some.ensures.finds in
    let is = ap (λ a. action_step a at) c.in-If.is ∙ if_step c.in-If.test c.in-If.body c.in-If.other at in
    subst (λ (s : Step). Stands c.args.code c.args.contexts.now c.args.m.now s (steps_in c.else_of.result.now)) (sym is)
    (subst (λ b. Stands c.args.code c.args.contexts.now c.args.m.now (If at test body other) b) (sym c.else_of.ensures)
    (other_stands c.args.code c.args.contexts.now c.args.m.now at test body other c.in-Ok-Some.value found (sym c.is_true.ensures ∙ c.if-is_true.false)))

pub returns-in-If : goal.returns-in-If
returns-in-If c =
    let at = c.args.stmt.now.at in
    let test = tree_of c.in-If.test in
    let body = steps_in c.in-If.body.items in
    let other = else_in c.in-If.other in
    let is = ap (λ a. action_step a at) c.in-If.is ∙ if_step c.in-If.test c.in-If.body c.in-If.other at in
    let M = mach c.args.code c.args.contexts.now c.args.m.now in
    subst (λ (s : Step). Traps (effect (call_act c.args.code.methods.now TICKS) TICKS c.args.m.now.path s M.state) c.in-Err.e M.state.world) (sym is)
    (test_stops c.args.code c.args.contexts.now c.args.m.now at test body other c.in-Err.e c.in-Err.ensures.finds)
