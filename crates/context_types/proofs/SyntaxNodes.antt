-- Nodes of the syntax tree with boxes and lists in them, as contracts see them.
use Rattle.std.proofs.Common.{◌≡◌, ℕ, List, map, rules, Vec, Box, Global, sym, subst}
use Rattle.wave_base.specs.declared.span.Span.{Span}
use Rattle.mace_ast.specs.declared.expr.Expr.{Expr}
use Rattle.mace_ast.specs.declared.expr.UnaryOp.{UnaryOp}
use Rattle.mace_ast.specs.declared.expr.BinaryOp.{BinaryOp}
use Rattle.mace_ast.specs.declared.expr.Node.{the_lemmas}
use Rattle.mace_ast.specs.declared.expr.Node.TheVariants as node
use Rattle.mace_ast.specs.Exprs as e
use Rattle.mace_ast.specs.Exprs.{ExprTree, node_tree, expr_tree, exprs_of}
use Rattle.mace_ast.proofs.Rows.{row_trees-items}
use Rattle.std.specs.Prelude.{Result}
use Rattle.type_rules.specs.declared.error.TypeError.{TypeError}
use Rattle.type_rules.specs.Here.{Here}
use Rattle.context_types.specs.declared.exprs.Judged.{Judged}
use Rattle.context_types.proofs.Arms.{Answers}

pub index_node : (x : List ℕ) (key : Box Expr Global) (at : Span) → node_tree (node.Index x key) at ≡ e.Index at x (expr_tree key.value)
index_node x key at = search (rules, the_lemmas)

pub above_index_node : (c x : List ℕ) (key : Box Expr Global) (at : Span) → node_tree (node.AboveIndex c x key) at ≡ e.AboveIndex at c x (expr_tree key.value)
above_index_node c x key at = search (rules, the_lemmas)

pub call_node : (f : List ℕ) (args : Vec Expr Global) (at : Span) → node_tree (node.Call f args) at ≡ e.Call at f (exprs_of (map expr_tree args.items))
call_node f args at = search (rules, the_lemmas, row_trees-items)

pub child_call_node : (c : List ℕ) (key : Box Expr Global) (f : List ℕ) (args : Vec Expr Global) (at : Span)
    → node_tree (node.ChildCall c key f args) at ≡ e.ChildCall at c (expr_tree key.value) f (exprs_of (map expr_tree args.items))
child_call_node c key f args at = search (rules, the_lemmas, row_trees-items)

pub unary_node : (op : UnaryOp) (a : Box Expr Global) (at : Span) → node_tree (node.Unary op a) at ≡ e.Unary at op (expr_tree a.value)
unary_node op a at = search (rules, the_lemmas)

pub binary_node : (op : BinaryOp) (a b : Box Expr Global) (at : Span) → node_tree (node.Binary op a b) at ≡ e.Binary at op (expr_tree a.value) (expr_tree b.value)
binary_node op a b at = search (rules, the_lemmas)

pub answers_as : (h : Here) (a b : ExprTree) (r : Result Judged TypeError) → a ≡ b → Answers h b r → Answers h a r
answers_as h a b r same j = subst (λ x. Answers h x r) (sym same) j
