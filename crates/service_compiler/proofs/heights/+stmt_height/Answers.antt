use Rattle.std.proofs.Common.{◌≡◌, max, refl, ap, ◌∙◌, arith}
use Rattle.resolved_service.specs.declared.stmt.Action.TheVariants as action
use Rattle.resolved_service.specs.Steps.{action_step, step_of, steps_in}
use Rattle.resolved_service.specs.View.{tree_of}
use Rattle.code_scheme.specs.Heights.{tree_height, step_height, steps_height}
use Rattle.service_compiler.proofs.HeightLemmas.{highest_next}
use Rattle.service_compiler.proofs.TreeRows.{if_action, else_action, while_action, for_action}
use Rattle.service_compiler.proofs.heights.+stmt_height.Goals as goal

pub stmt_height-returns-in-Some : goal.stmt_height-returns-in-Some
stmt_height-returns-in-Some t c =
    let m = c.args.methods.now in
    let s = c.args.stmt.now in
    let test = tree_height m (tree_of c.in-If.test) in
    let body = steps_height m (steps_in c.in-If.body.items) in
    let other = steps_height m (steps_in c.in-Some.other.items) in
    let b : steps_height m (steps_in c.deref.result.now) ≡ body = ap (λ ss. steps_height m (steps_in ss)) c.deref.ensures.value in
    let o : steps_height m (steps_in c.deref-in-Some.result.now) ≡ other = ap (λ ss. steps_height m (steps_in ss)) c.deref-in-Some.ensures.value in
    let whole : step_height m (step_of s) ≡ max test (max body other) = ap (step_height m) (ap (λ a. action_step a s.at) (c.in-If.is ∙ ap (λ o. action.If c.in-If.test c.in-If.body o) c.in-Some.is) ∙ else_action c.in-If.test c.in-If.body c.in-Some.other s.at) in
    omega (arith, c.max.ensures, c.max-height.ensures, c.expr_height.ensures, c.stmts_height.ensures, c.stmts_height-in-Some.ensures, b, o, whole)

pub stmt_height-returns-in-None : goal.stmt_height-returns-in-None
stmt_height-returns-in-None t c =
    let m = c.args.methods.now in
    let s = c.args.stmt.now in
    let test = tree_height m (tree_of c.in-If.test) in
    let body = steps_height m (steps_in c.in-If.body.items) in
    let b : steps_height m (steps_in c.deref.result.now) ≡ body = ap (λ ss. steps_height m (steps_in ss)) c.deref.ensures.value in
    let whole : step_height m (step_of s) ≡ max test (max body 0) = ap (step_height m) (ap (λ a. action_step a s.at) (c.in-If.is ∙ ap (λ o. action.If c.in-If.test c.in-If.body o) c.in-None.is) ∙ if_action c.in-If.test c.in-If.body s.at) in
    omega (arith, c.max-height.ensures, c.expr_height.ensures, c.stmts_height.ensures, b, whole)

pub stmt_height-returns-in-While : goal.stmt_height-returns-in-While
stmt_height-returns-in-While t c =
    let m = c.args.methods.now in
    let s = c.args.stmt.now in
    let body = steps_height m (steps_in c.in-While.body.items) in
    let b : steps_height m (steps_in c.deref-in-While.result.now) ≡ body = ap (λ ss. steps_height m (steps_in ss)) c.deref-in-While.ensures.value in
    let whole : step_height m (step_of s) ≡ max (tree_height m (tree_of c.in-While.test)) body = ap (step_height m) (ap (λ a. action_step a s.at) c.in-While.is ∙ while_action c.in-While.test c.in-While.body s.at) in
    omega (arith, c.max-in-While.ensures, c.expr_height-in-While.ensures, c.stmts_height-in-While.ensures, b, whole)

pub stmt_height-returns-in-For : goal.stmt_height-returns-in-For
stmt_height-returns-in-For t c =
    let m = c.args.methods.now in
    let s = c.args.stmt.now in
    let from = tree_height m (tree_of c.in-For.from) in
    let to = tree_height m (tree_of c.in-For.to) in
    let body = steps_height m (steps_in c.in-For.body.items) in
    let b : steps_height m (steps_in c.deref-in-For.result.now) ≡ body = ap (λ ss. steps_height m (steps_in ss)) c.deref-in-For.ensures.value in
    let whole : step_height m (step_of s) ≡ max from (max to (max 2 body)) = ap (step_height m) (ap (λ a. action_step a s.at) c.in-For.is ∙ for_action c.in-For.field-0 c.in-For.from c.in-For.to c.in-For.body s.at) in
    omega (arith, c.max-in-For-2.ensures, c.max-in-For.ensures, c.max-bounds.ensures, c.expr_height-in-For.ensures, c.expr_height-in-For-2.ensures, c.stmts_height-in-For.ensures, b, whole)

pub stmts_height-stmts-preserved : goal.stmts_height-stmts-preserved
stmts_height-stmts-preserved t c =
    let m = c.args.methods.now in
    highest_next (λ s. step_height m (step_of s)) (λ ss. steps_height m (steps_in ss)) refl (λ x xs. refl) c.args.stmts.now c.stmts.stmt-index c.stmt-item.result c.stmts-test.true c.stmt-item.is
    c.stmts.height c.stmt_height.result c.max-height.result c.stmts.invariant c.stmt_height.ensures c.max-height.ensures
