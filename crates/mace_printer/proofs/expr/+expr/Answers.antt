use Rattle.std.proofs.Common.{◌+◌, ap, map, sym, ◌∙◌, nat_lt}
use Rattle.mace_ast.specs.Exprs as e
use Rattle.mace_ast.specs.Exprs.{expr_tree, node_tree, exprs_of}
use Rattle.mace_grammar.specs.Levels.{wanted_looser}
use Rattle.mace_printer.specs.Canon.{sign, expr_words, whole_words}
use Rattle.mace_printer.proofs.Wrote.{next, same_next, same_words, nothing, listed_turn}
use Rattle.mace_printer.proofs.Arms.{call_node, child_call_node, binary_node, call_arm, child_arm, binary_arm}
use Rattle.mace_printer.proofs.expr.+expr.Goals as goal

pub put_index-returns : goal.put_index-returns
put_index-returns t c = next _ _ _ _ _ c.in_ok-put_sign.ensures (next _ _ _ _ _ c.in_ok-put_expr.ensures c.put_sign-2.ensures)

pub put_indexed-returns : goal.put_indexed-returns
put_indexed-returns t c = next _ _ _ _ _ c.in_ok-put_name.ensures c.put_index.ensures

pub put_above_indexed-returns : goal.put_above_indexed-returns
put_above_indexed-returns t c = next _ _ _ _ _ c.in_ok-put_above.ensures c.put_index.ensures

pub put_call-returns : goal.put_call-returns
put_call-returns t c = next _ _ _ _ _ c.in_ok-put_name.ensures (next _ _ _ _ _ c.in_ok-put_sign.ensures (next _ _ _ _ _ c.in_ok-put_args.ensures c.put_sign-2.ensures))

pub put_child_key-returns : goal.put_child_key-returns
put_child_key-returns t c = next _ _ _ _ _ c.in_ok-put_name.ensures (next _ _ _ _ _ c.in_ok-put_index.ensures c.put_sign.ensures)

pub put_unary-returns : goal.put_unary-returns
put_unary-returns t c = next _ _ _ _ _ (same_words _ (ap sign c.unary_sign_of.ensures) c.in_ok-put_sign.ensures) c.put_expr.ensures

pub put_left-returns : goal.put_left-returns
put_left-returns t c = next _ _ _ _ _ c.in_ok-put_if.ensures (next _ _ _ _ _ (same_words _ (ap (expr_words (expr_tree c.args.left.now)) c.left_level_of.ensures) c.in_ok-put_expr.ensures) (same_next _ _ _ (ap sign c.sign_of.ensures) c.put_sign.ensures))

pub put_right-returns : goal.put_right-returns
put_right-returns t c = next _ _ _ _ _ (same_words _ (ap (expr_words (expr_tree c.args.right.now)) (c.tighter.ensures.looser ∙ ap (λ l. l + 1) c.level_of.ensures)) c.in_ok-put_expr.ensures) c.put_if.ensures

pub put_args-loop-i-init : goal.put_args-loop-i-init
put_args-loop-i-init t c = nothing _

pub put_args-loop-i-preserved : goal.put_args-loop-i-preserved
put_args-loop-i-preserved t c = listed_turn whole_words expr_tree _ c.args.args.now c.loop-i.i c.index-args-i.result c.loop-i-test.true c.index-args-i.is c.loop-i.invariant c.in_ok-put_comma.ensures c.in_ok-put_expr.ensures

pub put_expr-returns-in-Call : goal.put_expr-returns-in-Call
put_expr-returns-in-Call t c =
    let at = c.args.expr.now.at in
    let f = c.in-Call.name in
    let ts = map expr_tree c.deref-in-Call.result.now in
    let node = ap (λ n. node_tree n at) c.in-Call.is ∙ call_node f c.in-Call.args at ∙ ap (λ l. e.Call at f (exprs_of (map expr_tree l))) (sym c.deref-in-Call.ensures.value) in
    same_next _ _ _ (call_arm at f ts (wanted_looser c.args.level) ∙ ap (λ x. expr_words x (wanted_looser c.args.level)) (sym node)) c.put_call.ensures

pub put_expr-returns-in_ok-put_child_key-in-ChildCall : goal.put_expr-returns-in_ok-put_child_key-in-ChildCall
put_expr-returns-in_ok-put_child_key-in-ChildCall t c =
    let at = c.args.expr.now.at in
    let d = c.in-ChildCall.class in
    let f = c.in-ChildCall.name in
    let p = expr_tree c.deref-in-ChildCall.result.now in
    let ts = map expr_tree c.deref-in-ChildCall-2.result.now in
    let node = ap (λ n. node_tree n at) c.in-ChildCall.is ∙ child_call_node d c.in-ChildCall.key f c.in-ChildCall.args at
    ∙ ap (λ x. e.ChildCall at d (expr_tree x) f (exprs_of (map expr_tree c.in-ChildCall.args.items))) (sym c.deref-in-ChildCall.ensures)
    ∙ ap (λ l. e.ChildCall at d p f (exprs_of (map expr_tree l))) (sym c.deref-in-ChildCall-2.ensures.value) in
    same_next _ _ _ (child_arm at d p f ts (wanted_looser c.args.level) ∙ ap (λ x. expr_words x (wanted_looser c.args.level)) (sym node)) (next _ _ _ _ _ c.in_ok-put_child_key-in-ChildCall.ensures c.put_call-in-ChildCall.ensures)

pub put_expr-returns-in_ok-put_left-in-Binary : goal.put_expr-returns-in_ok-put_left-in-Binary
put_expr-returns-in_ok-put_left-in-Binary t c =
    let at = c.args.expr.now.at in
    let o = c.in-Binary.op in
    let a = expr_tree c.deref-in-Binary.result.now in
    let b = expr_tree c.deref-in-Binary-2.result.now in
    let node = ap (λ n. node_tree n at) c.in-Binary.is ∙ binary_node o c.in-Binary.left c.in-Binary.right at
    ∙ ap (λ x. e.Binary at o (expr_tree x) (expr_tree c.in-Binary.right.value)) (sym c.deref-in-Binary.ensures)
    ∙ ap (λ x. e.Binary at o a (expr_tree x)) (sym c.deref-in-Binary-2.ensures) in
    same_next _ _ _ (binary_arm at o a b (wanted_looser c.args.level) _ (ap (λ x. nat_lt x (wanted_looser c.args.level)) (sym c.level_of.ensures) ∙ sym c.is_looser-paren.ensures) ∙ ap (λ x. expr_words x (wanted_looser c.args.level)) (sym node)) (next _ _ _ _ _ c.in_ok-put_left-in-Binary.ensures c.put_right.ensures)
