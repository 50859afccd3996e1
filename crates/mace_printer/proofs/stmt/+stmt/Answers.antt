use Rattle.std.proofs.Common.{ap, map, sym, arith, ◌∙◌}
use Rattle.std.specs.Option.{option_map}
use Rattle.mace_ast.specs.Exprs.{expr_tree}
use Rattle.mace_ast.specs.Stmts as st
use Rattle.mace_ast.specs.Stmts.{stmt_tree, action_tree, stmts_of, else_of}
use Rattle.mace_printer.specs.Canon.{braced_words, stmt_words}
use Rattle.mace_printer.specs.inner.Parts.{maybe_else}
use Rattle.mace_printer.proofs.Wrote.{next, same_next, same_words, nothing, all_of_turn, all_of_end}
use Rattle.mace_printer.proofs.Arms.{if_node, while_node, for_node, if_arm, while_arm, for_arm}
use Rattle.mace_printer.proofs.stmt.+stmt.Goals as goal

pub put_block-returns : goal.put_block-returns
put_block-returns t c = next _ _ _ _ _ c.in_ok-put_sign.ensures (next _ _ _ _ _ c.in_ok-put_stmts.ensures c.put_sign-2.ensures)

pub put_else-returns-in-None : goal.put_else-returns-in-None
put_else-returns-in-None t c = same_words _ (ap (λ o. maybe_else (option_map (λ b. map stmt_tree b.items) o)) (sym c.in-None.is)) (nothing _)

pub put_else-returns-in_ok-put_key-in-Some : goal.put_else-returns-in_ok-put_key-in-Some
put_else-returns-in_ok-put_key-in-Some t c = same_next _ _ _ (ap (λ o. maybe_else (option_map (λ b. map stmt_tree b.items) o)) (sym c.in-Some.is)) (next _ _ _ _ _ c.in_ok-put_key-in-Some.ensures (same_next _ _ _ (ap (λ l. braced_words (map stmt_tree l)) c.deref.ensures.value) c.put_block.ensures))

pub put_stmts-loop-stmt-init : goal.put_stmts-loop-stmt-init
put_stmts-loop-stmt-init t c = nothing _

pub put_stmts-loop-stmt-preserved : goal.put_stmts-loop-stmt-preserved
put_stmts-loop-stmt-preserved t c = all_of_turn stmt_words stmt_tree _ c.args.stmts.now c.loop-stmt.stmt-index c.stmt-item.result c.loop-stmt-test.true c.stmt-item.is c.loop-stmt.invariant c.in_ok-put_stmt.ensures

pub put_stmts-returns : goal.put_stmts-returns
put_stmts-returns t c = all_of_end stmt_words stmt_tree _ c.args.stmts.now c.loop-stmt.stmt-index (omega arith) c.loop-stmt.invariant

pub put_stmt-returns-in_ok-put_block-in-If : goal.put_stmt-returns-in_ok-put_block-in-If
put_stmt-returns-in_ok-put_block-in-If t c =
    let at = c.args.stmt.now.at in
    let test = expr_tree c.in-If.test in
    let other = option_map (λ b. map stmt_tree b.items) c.in-If.other in
    let node = ap (λ a. action_tree a at) c.in-If.is ∙ if_node c.in-If.test c.in-If.body c.in-If.other at ∙ ap (λ l. st.If at test (stmts_of (map stmt_tree l)) (else_of other)) (sym c.deref.ensures.value) in
    same_next _ _ _ (if_arm at test (map stmt_tree c.deref.result.now) other ∙ ap stmt_words (sym node)) (next _ _ _ _ _ c.in_ok-put_test-in-If.ensures (next _ _ _ _ _ c.in_ok-put_block-in-If.ensures c.put_else.ensures))

pub put_stmt-returns-in_ok-put_test-in-While : goal.put_stmt-returns-in_ok-put_test-in-While
put_stmt-returns-in_ok-put_test-in-While t c =
    let at = c.args.stmt.now.at in
    let test = expr_tree c.in-While.test in
    let node = ap (λ a. action_tree a at) c.in-While.is ∙ while_node c.in-While.test c.in-While.body at ∙ ap (λ l. st.While at test (stmts_of (map stmt_tree l))) (sym c.deref-in-While.ensures.value) in
    same_next _ _ _ (while_arm at test (map stmt_tree c.deref-in-While.result.now) ∙ ap stmt_words (sym node)) (next _ _ _ _ _ c.in_ok-put_test-in-While.ensures c.put_block-in-While.ensures)

pub put_stmt-returns-in_ok-put_range-in-For : goal.put_stmt-returns-in_ok-put_range-in-For
put_stmt-returns-in_ok-put_range-in-For t c =
    let at = c.args.stmt.now.at in
    let x = c.in-For.name in
    let low = expr_tree c.in-For.low in
    let high = expr_tree c.in-For.high in
    let node = ap (λ a. action_tree a at) c.in-For.is ∙ for_node x c.in-For.low c.in-For.high c.in-For.body at ∙ ap (λ l. st.For at x low high (stmts_of (map stmt_tree l))) (sym c.deref-in-For.ensures.value) in
    same_next _ _ _ (for_arm at x low high (map stmt_tree c.deref-in-For.result.now) ∙ ap stmt_words (sym node)) (next _ _ _ _ _ c.in_ok-put_range-in-For.ensures c.put_block-in-For.ensures)
