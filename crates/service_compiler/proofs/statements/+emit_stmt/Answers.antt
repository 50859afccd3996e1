use Rattle.std.proofs.Common.{◌+◌, ◌∷◌, ◌++◌, [], length, refl, sym, ap, subst, ◌∙◌, arith}
use Rattle.std.specs.Prelude.{slice_set}
use Rattle.std.proofs.lemmas.List.{append-nil}
use Rattle.resolved_service.specs.declared.stmt.Action.TheVariants as action
use Rattle.resolved_service.specs.Steps.{If, While, no_else, otherwise, action_step, steps_in}
use Rattle.resolved_service.specs.View.{tree_of}
use Rattle.service_code.specs.declared.instr.Instr.TheVariants as i
use Rattle.code_scheme.specs.Scheme.{line, pop_code, test_then, turn_code, tree_code, steps_code}
use Rattle.code_scheme.specs.Texts.{tree_uses, steps_uses}
use Rattle.service_compiler.specs.Slots.{HaveSlots}
use Rattle.service_compiler.specs.inner.Drafts.{Draft, Emits, EmitsStep, Puts}
use Rattle.service_compiler.specs.inner.Fronts.{back_code, loop_code}
use Rattle.service_compiler.specs.inner.Sizes.{step_size, steps_size}
use Rattle.service_compiler.proofs.Drafts.{emits_then, emits_same, emits_put}
use Rattle.service_compiler.proofs.Emits.{stmts_next, put_step, put_local, put_field, whole_step, send_step, for_step}
use Rattle.service_compiler.proofs.Jumps.{if_emits, ended_emits, choice_emits, while_emits}
use Rattle.service_compiler.proofs.Notes.{on_ok}
use Rattle.service_compiler.proofs.SlotLemmas.{slots_at, size_at, if_slots, while_slots, loop_slots}
use Rattle.service_compiler.proofs.TreeRows.{while_action, for_action, if_action, else_action}
use Rattle.service_compiler.proofs.statements.+emit_stmt.Goals as goal

pub emit_if-returns : goal.emit_if-returns
emit_if-returns t c =
    emits_same (sym (append-nil (tree_uses (tree_of c.args.test.now) ++ steps_uses (steps_in c.args.body.now)))) (λ all n. refl)
    (if_emits c.args.at c.here-test_end.result c.here-end.result c.in_ok-emit_expr.ensures c.here-test_end.ensures c.in_ok-put.ensures c.in_ok-emit_stmts.ensures c.here-end.ensures c.patch.ensures)

pub emit_else-returns-then-surely_ends : goal.emit_else-returns-then-surely_ends
emit_else-returns-then-surely_ends t c =
    let m = c.args.methods.now in
    let at = c.args.at in
    let body = steps_in c.args.body.now in
    let other = otherwise (steps_in c.args.other.now) in
    emits_same refl (λ all n. let ct = tree_code m all n (tree_of c.args.test.now) in ap (λ b. test_then m all n at ct b (steps_code m all (n + length ct + 1) body) other) (sym c.if-surely_ends.true ∙ c.surely_ends.ensures))
    (ended_emits at c.here-test_end.result c.here-body_end.result c.in_ok-emit_expr.ensures c.here-test_end.ensures c.in_ok-put.ensures c.in_ok-emit_stmts.ensures c.here-body_end.ensures c.in_ok-emit_stmts-2.ensures c.patch.ensures)

pub emit_else-returns : goal.emit_else-returns
emit_else-returns t c =
    let m = c.args.methods.now in
    let at = c.args.at in
    let body = steps_in c.args.body.now in
    let other = otherwise (steps_in c.args.other.now) in
    emits_same refl (λ all n. let ct = tree_code m all n (tree_of c.args.test.now) in ap (λ b. test_then m all n at ct b (steps_code m all (n + length ct + 1) body) other) (sym c.if-surely_ends.false ∙ c.surely_ends.ensures))
    (choice_emits at c.here-test_end.result c.here-body_end.result c.here-other_start.result c.here-end.result
    c.in_ok-emit_expr.ensures c.here-test_end.ensures c.in_ok-put.ensures c.in_ok-emit_stmts.ensures c.here-body_end.ensures c.in_ok-put-2.ensures c.here-other_start.ensures c.in_ok-emit_stmts-3.ensures c.here-end.ensures
    (c.patch-3.ensures ∙ ap (λ (d : Draft). record d { lines = slice_set d.lines c.here-body_end.result (line (i.Jump c.here-end.result) at) }) c.patch-2.ensures))

pub emit_while-returns : goal.emit_while-returns
emit_while-returns t c =
    while_emits _ c.args.at c.here-start.result c.here-test_end.result c.here-end.result
    c.here-start.ensures c.in_ok-emit_expr.ensures c.here-test_end.ensures c.in_ok-put.ensures c.in_ok-put-2.ensures c.in_ok-emit_stmts.ensures
    (subst (λ b. Puts c.emit_stmts.new.code c.emit_back.new.code (back_code b c.here-start.result c.args.at)) c.surely_ends.ensures c.in_ok-emit_back.ensures)
    c.here-end.ensures c.patch.ensures

pub emit_loop-returns : goal.emit_loop-returns
emit_loop-returns t c =
    while_emits _ c.args.at c.here-first.result c.here-test_end.result c.here-end.result
    c.here-first.ensures c.in_ok-emit_test.ensures c.here-test_end.ensures c.in_ok-put.ensures c.in_ok-put-2.ensures c.in_ok-emit_turn.ensures
    (subst (λ b. Puts c.emit_turn.new.code c.emit_back.new.code (back_code b c.here-first.result c.args.at)) c.surely_ends.ensures c.in_ok-emit_back.ensures)
    c.here-end.ensures c.patch.ensures

pub emit_turn-returns-then-surely_ends : goal.emit_turn-returns-then-surely_ends
emit_turn-returns-then-surely_ends t c =
    emits_same refl (λ all n. ap (λ b. turn_code c.args.counter c.args.at b (steps_code c.args.methods.now all (n + 1 + 1) (steps_in c.args.body.now))) (sym c.if-surely_ends.true ∙ c.surely_ends.ensures))
    (emits_then c.in_ok-put.ensures (emits_then c.in_ok-put-2.ensures c.in_ok-emit_stmts.ensures))

pub emit_turn-returns : goal.emit_turn-returns
emit_turn-returns t c =
    on_ok _ _ c.emit_next.result (λ g.
    emits_same refl (λ all n. ap (λ b. turn_code c.args.counter c.args.at b (steps_code c.args.methods.now all (n + 1 + 1) (steps_in c.args.body.now))) (sym c.if-surely_ends.false ∙ c.surely_ends.ensures))
    (emits_then c.in_ok-put.ensures (emits_then c.in_ok-put-2.ensures (emits_put c.in_ok-emit_stmts.ensures g))))
    c.emit_next.ensures

pub emit_stmts-stmts-preserved : goal.emit_stmts-stmts-preserved
emit_stmts-stmts-preserved t c =
    stmts_next c.args.methods.now c.args.stmts.now c.stmts.stmt-index c.stmt-item.result c.stmts-test.true c.stmt-item.is c.stmts.invariant c.in_ok-emit_stmt.ensures

pub emit_stmt-returns-in-SetLocal : goal.emit_stmt-returns-in-SetLocal
emit_stmt-returns-in-SetLocal t c =
    on_ok _ _ c.put.result (λ g.
    put_step c.args.methods.now (ap (λ a. action_step a c.args.stmt.now.at) c.in-SetLocal.is) c.in_ok-emit_operands.ensures g refl (λ all n. refl))
    c.put.ensures

pub emit_stmt-returns-in-SetField : goal.emit_stmt-returns-in-SetField
emit_stmt-returns-in-SetField t c =
    on_ok _ _ c.put-in-SetField.result (λ g.
    put_step c.args.methods.now (ap (λ a. action_step a c.args.stmt.now.at) c.in-SetField.is) c.in_ok-emit_operands.ensures g refl (λ all n. refl))
    c.put-in-SetField.ensures

pub emit_stmt-returns-in-CutLocal : goal.emit_stmt-returns-in-CutLocal
emit_stmt-returns-in-CutLocal t c =
    on_ok _ _ c.put-in-CutLocal.result (λ g.
    put_step c.args.methods.now (ap (λ a. action_step a c.args.stmt.now.at) c.in-CutLocal.is) c.in_ok-emit_operands.ensures g refl (λ all n. refl))
    c.put-in-CutLocal.ensures

pub emit_stmt-returns-in-CutField : goal.emit_stmt-returns-in-CutField
emit_stmt-returns-in-CutField t c =
    on_ok _ _ c.put-in-CutField.result (λ g.
    put_step c.args.methods.now (ap (λ a. action_step a c.args.stmt.now.at) c.in-CutField.is) c.in_ok-emit_operands.ensures g refl (λ all n. refl))
    c.put-in-CutField.ensures

pub emit_stmt-returns-in-Require : goal.emit_stmt-returns-in-Require
emit_stmt-returns-in-Require t c =
    on_ok _ _ c.put-in-Require.result (λ g.
    put_step c.args.methods.now (ap (λ a. action_step a c.args.stmt.now.at) c.in-Require.is) c.in_ok-emit_operands.ensures g refl (λ all n. refl))
    c.put-in-Require.ensures

pub emit_stmt-returns-in-Spawn : goal.emit_stmt-returns-in-Spawn
emit_stmt-returns-in-Spawn t c =
    on_ok _ _ c.put-in-Spawn.result (λ g.
    put_step c.args.methods.now (ap (λ a. action_step a c.args.stmt.now.at) c.in-Spawn.is) c.in_ok-emit_operands.ensures g refl (λ all n. refl))
    c.put-in-Spawn.ensures

pub emit_stmt-returns-in-Return : goal.emit_stmt-returns-in-Return
emit_stmt-returns-in-Return t c =
    on_ok _ _ c.put-in-Return.result (λ g.
    put_step c.args.methods.now (ap (λ a. action_step a c.args.stmt.now.at) c.in-Return.is) c.in_ok-emit_operands.ensures g refl (λ all n. refl))
    c.put-in-Return.ensures

pub emit_stmt-returns-in-PutLocal : goal.emit_stmt-returns-in-PutLocal
emit_stmt-returns-in-PutLocal t c =
    on_ok _ _ c.put-in-PutLocal.result (λ g.
    put_local c.args.methods.now (ap (λ a. action_step a c.args.stmt.now.at) c.in-PutLocal.is) c.in_ok-emit_operands.ensures g)
    c.put-in-PutLocal.ensures

pub emit_stmt-returns-in-PutField : goal.emit_stmt-returns-in-PutField
emit_stmt-returns-in-PutField t c =
    on_ok _ _ c.put-in-PutField.result (λ g.
    put_field c.args.methods.now (ap (λ a. action_step a c.args.stmt.now.at) c.in-PutField.is) c.in_ok-emit_operands.ensures g)
    c.put-in-PutField.ensures

pub emit_stmt-returns-in-Send : goal.emit_stmt-returns-in-Send
emit_stmt-returns-in-Send t c =
    let at = c.args.stmt.now.at in
    on_ok _ _ c.put_use.result (λ g.
    send_step c.args.methods.now (ap (λ a. action_step a at) c.in-Send.is) c.in_ok-emit_operands.ensures (g (λ n. i.Send n) (ap i.Send c.text_number-number.ensures)))
    c.put_use.ensures

pub emit_stmt-returns-in-Do : goal.emit_stmt-returns-in-Do
emit_stmt-returns-in-Do t c =
    let at = c.args.stmt.now.at in
    on_ok _ _ c.emit_pop.result (λ g.
    put_step c.args.methods.now (ap (λ a. action_step a at) c.in-Do.is) c.in_ok-emit_operands.ensures
    (subst (λ b. Puts c.emit_operands.new.code c.emit_pop.new.code (pop_code b at)) c.leaves.ensures g) refl (λ all n. refl))
    c.emit_pop.ensures

pub emit_stmt-returns-in-Finish : goal.emit_stmt-returns-in-Finish
emit_stmt-returns-in-Finish t c =
    let at = c.args.stmt.now.at in
    on_ok _ _ c.put-in-Finish.result (λ g.
    put_step c.args.methods.now (ap (λ a. action_step a at) c.in-Finish.is) c.in_ok-emit_operands.ensures
    (subst (λ x. Puts c.emit_operands.new.code c.put-in-Finish.new.self (line x at ∷ [])) c.finish.ensures g) refl (λ all n. refl))
    c.put-in-Finish.ensures

pub emit_stmt-returns-in-None : goal.emit_stmt-returns-in-None
emit_stmt-returns-in-None t c =
    let m = c.args.methods.now in
    let at = c.args.stmt.now.at in
    let w = c.in-If in
    let is = ap (λ a. action_step a at) (w.is ∙ ap (λ o. action.If w.test w.body o) c.in-None.is) ∙ if_action w.test w.body at in
    on_ok _ _ c.emit_if.result (λ g.
    whole_step m is c.in_ok-emit_operands.ensures refl (λ all n. refl)
    (subst (λ ss. EmitsStep m c.emit_operands.new.code c.emit_if.new.code (If at (tree_of w.test) (steps_in ss) no_else)) c.deref.ensures.value g))
    c.emit_if.ensures

pub emit_stmt-returns-in-Some : goal.emit_stmt-returns-in-Some
emit_stmt-returns-in-Some t c =
    let m = c.args.methods.now in
    let at = c.args.stmt.now.at in
    let w = c.in-If in
    let other = c.in-Some.other in
    let is = ap (λ a. action_step a at) (w.is ∙ ap (λ o. action.If w.test w.body o) c.in-Some.is) ∙ else_action w.test w.body other at in
    on_ok _ _ c.emit_else.result (λ g.
    whole_step m is c.in_ok-emit_operands.ensures refl (λ all n. refl)
    (subst (λ ss. EmitsStep m c.emit_operands.new.code c.emit_else.new.code (If at (tree_of w.test) (steps_in w.body.items) (otherwise (steps_in ss)))) c.deref-in-Some-2.ensures.value
    (subst (λ ss. EmitsStep m c.emit_operands.new.code c.emit_else.new.code (If at (tree_of w.test) (steps_in ss) (otherwise (steps_in c.deref-in-Some-2.result.now)))) c.deref-in-Some.ensures.value g)))
    c.emit_else.ensures

pub emit_stmt-returns-in-While : goal.emit_stmt-returns-in-While
emit_stmt-returns-in-While t c =
    let m = c.args.methods.now in
    let at = c.args.stmt.now.at in
    let w = c.in-While in
    on_ok _ _ c.emit_while.result (λ g.
    whole_step m (ap (λ a. action_step a at) w.is ∙ while_action w.test w.body at) c.in_ok-emit_operands.ensures refl (λ all n. refl)
    (subst (λ ss. EmitsStep m c.emit_operands.new.code c.emit_while.new.code (While at (tree_of w.test) (steps_in ss))) c.deref-in-While.ensures.value g))
    c.emit_while.ensures

pub emit_stmt-returns-in-For : goal.emit_stmt-returns-in-For
emit_stmt-returns-in-For t c =
    let m = c.args.methods.now in
    let at = c.args.stmt.now.at in
    let w = c.in-For in
    on_ok _ _ c.emit_loop.result (λ g.
    for_step m (ap (λ a. action_step a at) w.is ∙ for_action w.counter _ _ w.body at) c.in_ok-emit_operands.ensures
    (subst (λ ss. Emits c.emit_operands.new.code c.emit_loop.new.code (steps_uses (steps_in ss)) (λ all n. loop_code m all n w.counter at (steps_in ss))) c.deref-in-For.ensures.value g))
    c.emit_loop.ensures

-- ---- the slots of loops, and smaller statements

pub emit_stmts-emit_stmt-requires : goal.emit_stmts-emit_stmt-requires
emit_stmts-emit_stmt-requires t c =
    let falls = c.decreases in
    let size = size_at c.args.stmts.now c.stmts.stmt-index c.stmt-item.result c.stmts-test.true c.stmt-item.is in
    (omega (arith, falls, size), slots_at c.args.stmts.now c.stmts.stmt-index c.stmt-item.result c.requires c.stmts-test.true c.stmt-item.is)

pub emit_stmt-emit_if-requires : goal.emit_stmt-emit_if-requires
emit_stmt-emit_if-requires t c =
    let falls = c.decreases in
    let w = c.in-If in
    let is = ap (λ a. action_step a c.args.stmt.now.at) (w.is ∙ ap (λ o. action.If w.test w.body o) c.in-None.is) ∙ if_action w.test w.body c.args.stmt.now.at in
    let slots = if_slots is c.requires in
    let same = ap (λ ss. steps_in ss) c.deref.ensures.value in
    (omega (arith, falls, ap step_size is, ap steps_size same), subst HaveSlots (sym same) slots.0)

pub emit_stmt-emit_else-requires : goal.emit_stmt-emit_else-requires
emit_stmt-emit_else-requires t c =
    let falls = c.decreases in
    let w = c.in-If in
    let other = c.in-Some.other in
    let is = ap (λ a. action_step a c.args.stmt.now.at) (w.is ∙ ap (λ o. action.If w.test w.body o) c.in-Some.is) ∙ else_action w.test w.body other c.args.stmt.now.at in
    let slots = if_slots is c.requires in
    let same = ap (λ ss. steps_in ss) c.deref-in-Some.ensures.value in
    let same_other = ap (λ ss. steps_in ss) c.deref-in-Some-2.ensures.value in
    (omega (arith, falls, ap step_size is, ap steps_size same, ap steps_size same_other), (subst HaveSlots (sym same) slots.0, subst HaveSlots (sym same_other) slots.1))

pub emit_stmt-emit_while-requires : goal.emit_stmt-emit_while-requires
emit_stmt-emit_while-requires t c =
    let falls = c.decreases in
    let w = c.in-While in
    let is = ap (λ a. action_step a c.args.stmt.now.at) w.is ∙ while_action w.test w.body c.args.stmt.now.at in
    let same = ap (λ ss. steps_in ss) c.deref-in-While.ensures.value in
    (omega (arith, falls, ap step_size is, ap steps_size same), subst HaveSlots (sym same) (while_slots is c.requires))

pub emit_stmt-emit_loop-requires : goal.emit_stmt-emit_loop-requires
emit_stmt-emit_loop-requires t c =
    let falls = c.decreases in
    let w = c.in-For in
    let is = ap (λ a. action_step a c.args.stmt.now.at) w.is ∙ for_action w.counter _ _ w.body c.args.stmt.now.at in
    let slots = loop_slots is c.requires in
    let same = ap (λ ss. steps_in ss) c.deref-in-For.ensures.value in
    (omega (arith, falls, ap step_size is, ap steps_size same), (slots.0, subst HaveSlots (sym same) slots.1))
