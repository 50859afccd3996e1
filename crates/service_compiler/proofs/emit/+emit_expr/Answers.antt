use Rattle.std.proofs.Common.{◌++◌, map, refl, ap, subst, ◌∙◌}
use Rattle.std.specs.Prelude.{slice_set}
use Rattle.std.proofs.lemmas.List.{append-nil}
use Rattle.resolved_service.specs.View.{node_tree, tree_of, trees_of}
use Rattle.service_code.specs.declared.instr.Instr.TheVariants as i
use Rattle.code_scheme.specs.Scheme.{line, tree_code}
use Rattle.code_scheme.specs.Texts.{tree_uses}
use Rattle.service_compiler.specs.inner.Drafts.{Draft, EmitsTree, EmitsTrees}
use Rattle.service_compiler.proofs.Drafts.{emits_then, emits_same, emits_put}
use Rattle.service_compiler.proofs.Emits.{tree_is, or_choice, exprs_next}
use Rattle.service_compiler.proofs.Jumps.{choice_emits}
use Rattle.service_compiler.proofs.Notes.{on_ok}
use Rattle.service_compiler.proofs.TreeRows.{op_node, call_node, child_node}
use Rattle.service_compiler.proofs.emit.+emit_expr.Goals as goal

pub emit_expr-returns-in-Const : goal.emit_expr-returns-in-Const
emit_expr-returns-in-Const t c =
    on_ok _ _ c.emit_literal.result (λ g. tree_is c.args.methods.now (ap (λ n. node_tree n c.args.expr.now.at) c.in-Const.is) g) c.emit_literal.ensures

pub emit_expr-returns-in-Local : goal.emit_expr-returns-in-Local
emit_expr-returns-in-Local t c =
    on_ok _ _ c.put.result (λ g. tree_is c.args.methods.now (ap (λ n. node_tree n c.args.expr.now.at) c.in-Local.is) g) c.put.ensures

pub emit_expr-returns-in-Field : goal.emit_expr-returns-in-Field
emit_expr-returns-in-Field t c =
    on_ok _ _ c.put-in-Field.result (λ g. tree_is c.args.methods.now (ap (λ n. node_tree n c.args.expr.now.at) c.in-Field.is) g) c.put-in-Field.ensures

pub emit_expr-returns-in-Above : goal.emit_expr-returns-in-Above
emit_expr-returns-in-Above t c =
    on_ok _ _ c.put-in-Above.result (λ g. tree_is c.args.methods.now (ap (λ n. node_tree n c.args.expr.now.at) c.in-Above.is) g) c.put-in-Above.ensures

pub emit_expr-returns-in_ok-emit_exprs-in-Op : goal.emit_expr-returns-in_ok-emit_exprs-in-Op
emit_expr-returns-in_ok-emit_exprs-in-Op t c =
    let m = c.args.methods.now in
    let at = c.args.expr.now.at in
    let args = subst (λ es. EmitsTrees m c.args.code.now c.emit_exprs.new.code (trees_of (map tree_of es))) c.deref.ensures.value c.in_ok-emit_exprs-in-Op.ensures in
    on_ok _ _ c.put-in-Op.result (λ g. tree_is m (ap (λ n. node_tree n at) c.in-Op.is ∙ op_node c.in-Op.row c.in-Op.args at) (emits_put args g)) c.put-in-Op.ensures

pub emit_expr-returns-in_ok-put-in-Call : goal.emit_expr-returns-in_ok-put-in-Call
emit_expr-returns-in_ok-put-in-Call t c =
    let m = c.args.methods.now in
    let at = c.args.expr.now.at in
    let args = subst (λ es. EmitsTrees m c.args.code.now c.emit_exprs-in-Call.new.code (trees_of (map tree_of es))) c.deref-in-Call.ensures.value c.in_ok-emit_exprs-in-Call.ensures in
    on_ok _ _ c.put-in-Call-2.result (λ g.
    tree_is m (ap (λ n. node_tree n at) c.in-Call.is ∙ call_node c.in-Call.method c.in-Call.args at) (emits_put args (emits_then c.in_ok-put-in-Call.ensures g)))
    c.put-in-Call-2.ensures

pub emit_expr-returns-in_ok-put-in-Child : goal.emit_expr-returns-in_ok-put-in-Child
emit_expr-returns-in_ok-put-in-Child t c =
    let m = c.args.methods.now in
    let at = c.args.expr.now.at in
    let c1 = c.emit_expr.new.code in
    let key = subst (λ e. EmitsTree m c.args.code.now c1 (tree_of e)) c.deref-in-Child.ensures c.in_ok-emit_expr-in-Child.ensures in
    let args = subst (λ es. EmitsTrees m c1 c.emit_exprs-in-Child.new.code (trees_of (map tree_of es))) c.deref-in-Child-2.ensures.value c.in_ok-emit_exprs-in-Child.ensures in
    on_ok _ _ c.put-in-Child-2.result (λ g.
    tree_is m (ap (λ n. node_tree n at) c.in-Child.is ∙ child_node c.in-Child.class c.in-Child.method c.in-Child.key c.in-Child.given at)
    (emits_then key (emits_put args (emits_then c.in_ok-put-in-Child.ensures g))))
    c.put-in-Child-2.ensures

pub emit_and-returns : goal.emit_and-returns
emit_and-returns t c =
    let left = tree_of c.args.left.now in
    let right = tree_of c.args.right.now in
    emits_same (append-nil (tree_uses left ++ tree_uses right)) (λ all n. refl)
    (choice_emits c.args.at c.here-test.result c.here-skip.result c.here-lost.result c.here-end.result
    c.in_ok-emit_expr.ensures c.here-test.ensures c.in_ok-put.ensures c.in_ok-emit_expr-2.ensures c.here-skip.ensures c.in_ok-put-2.ensures c.here-lost.ensures c.in_ok-put-3.ensures c.here-end.ensures
    (c.patch-2.ensures ∙ ap (λ (d : Draft). record d { lines = slice_set d.lines c.here-skip.result (line (i.Jump c.here-end.result) c.args.at) }) c.patch.ensures))

pub emit_or-returns : goal.emit_or-returns
emit_or-returns t c =
    let m = c.args.methods.now in
    let left = tree_of c.args.left.now in
    let right = tree_of c.args.right.now in
    emits_same (ap (λ u. u ++ tree_uses right) (append-nil (tree_uses left))) (λ all n. or_choice n c.args.at (tree_code m all n left) (λ k. tree_code m all k right))
    (choice_emits c.args.at c.here-test.result c.here-skip.result c.here-other.result c.here-end.result
    c.in_ok-emit_expr.ensures c.here-test.ensures c.in_ok-put.ensures c.in_ok-put-2.ensures c.here-skip.ensures c.in_ok-put-3.ensures c.here-other.ensures c.in_ok-emit_expr-2.ensures c.here-end.ensures
    (c.patch-2.ensures ∙ ap (λ (d : Draft). record d { lines = slice_set d.lines c.here-skip.result (line (i.Jump c.here-end.result) c.args.at) }) c.patch.ensures))

pub emit_exprs-exprs-preserved : goal.emit_exprs-exprs-preserved
emit_exprs-exprs-preserved t c =
    exprs_next c.args.methods.now c.args.exprs.now c.exprs.expr-index c.expr-item.result c.exprs-test.true c.expr-item.is c.exprs.invariant c.in_ok-emit_expr.ensures
