use Rattle.std.proofs.Common.{◌≡◌, suc, max, map, sym, ap, ◌∙◌, arith}
use Rattle.resolved_service.specs.View.{node_tree, tree_of, trees_of}
use Rattle.code_scheme.specs.Heights.{one_if, tree_height, trees_height}
use Rattle.code_scheme.specs.Scheme.{leaves_value}
use Rattle.service_compiler.proofs.HeightLemmas.{operands_next}
use Rattle.service_compiler.proofs.TreeRows.{op_node, call_node, child_node}
use Rattle.service_compiler.proofs.heights.+expr_height.Goals as goal

pub expr_height-returns-in-Op : goal.expr_height-returns-in-Op
expr_height-returns-in-Op t c =
    let m = c.args.methods.now in
    let e = c.args.expr.now in
    let ts = trees_of (map tree_of c.in-Op.args.items) in
    let args : trees_height m (trees_of (map tree_of c.deref.result.now)) ≡ trees_height m ts = ap (λ es. trees_height m (trees_of (map tree_of es))) c.deref.ensures.value in
    let whole : tree_height m (tree_of e) ≡ max (trees_height m ts) 1 = ap (tree_height m) (ap (λ n. node_tree n e.at) c.in-Op.is ∙ op_node c.in-Op.field-0 c.in-Op.args e.at) in
    omega (arith, c.max.ensures, c.exprs_height.ensures, args, whole)

pub expr_height-returns-in-Call : goal.expr_height-returns-in-Call
expr_height-returns-in-Call t c =
    let m = c.args.methods.now in
    let e = c.args.expr.now in
    let ts = trees_of (map tree_of c.in-Call.args.items) in
    let args : trees_height m (trees_of (map tree_of c.deref-in-Call.result.now)) ≡ trees_height m ts = ap (λ es. trees_height m (trees_of (map tree_of es))) c.deref-in-Call.ensures.value in
    let node = ap (λ n. node_tree n e.at) c.in-Call.is ∙ call_node c.in-Call.field-0 c.in-Call.args e.at in
    let whole : tree_height m (tree_of e) ≡ max (trees_height m ts) (one_if (leaves_value m (tree_of e))) = ap (tree_height m) node ∙ ap (λ t. max (trees_height m ts) (one_if (leaves_value m t))) (sym node) in
    omega (arith, c.max-in-Call.ensures, c.exprs_height-in-Call.ensures, args, c.height_left.ensures ∙ ap one_if c.leaves.ensures, whole)

pub expr_height-returns-in-Child : goal.expr_height-returns-in-Child
expr_height-returns-in-Child t c =
    let m = c.args.methods.now in
    let e = c.args.expr.now in
    let ts = trees_of (map tree_of c.in-Child.args.items) in
    let args : trees_height m (trees_of (map tree_of c.deref-in-Child.result.now)) ≡ trees_height m ts = ap (λ es. trees_height m (trees_of (map tree_of es))) c.deref-in-Child.ensures.value in
    let key : tree_height m (tree_of c.deref-in-Child-2.result.now) ≡ tree_height m (tree_of c.in-Child.key.value) = ap (λ k. tree_height m (tree_of k)) c.deref-in-Child-2.ensures in
    let node = ap (λ n. node_tree n e.at) c.in-Child.is ∙ child_node c.in-Child.field-0 c.in-Child.field-1 c.in-Child.key c.in-Child.args e.at in
    let whole : tree_height m (tree_of e) ≡ max (tree_height m (tree_of c.in-Child.key.value)) (max (suc (trees_height m ts)) (one_if (leaves_value m (tree_of e)))) =
    ap (tree_height m) node ∙ ap (λ t. max (tree_height m (tree_of c.in-Child.key.value)) (max (suc (trees_height m ts)) (one_if (leaves_value m t)))) (sym node) in
    omega (arith, c.max-in-Child-2.ensures, c.max-in-Child.ensures, c.saturating_add-given.ensures, c.exprs_height-in-Child.ensures, c.expr_height.ensures, args, key, c.height_left-in-Child.ensures ∙ ap one_if c.leaves-in-Child.ensures, whole)

pub exprs_height-exprs-preserved : goal.exprs_height-exprs-preserved
exprs_height-exprs-preserved t c =
    let m = c.args.methods.now in
    let next = operands_next m c.args.exprs.now c.exprs.expr-index c.expr-item.result c.exprs-test.true c.expr-item.is c.exprs.height c.exprs.below c.expr_height.result c.exprs.invariant.0 c.exprs.invariant.1 c.expr_height.ensures in
    (omega (arith, next, c.max-height.ensures, c.saturating_add.ensures, c.max-operand.ensures), omega (arith, c.saturating_add-below.ensures, c.exprs.invariant.1))
