-- Resolved nodes and statements with lists in them, by the items of the lists.
use Rattle.std.proofs.Common.{◌≡◌, ℕ, map, refl, ap, rules, Vec, Box, Global, Some, None}
use Rattle.wave_base.specs.declared.path.Class.{Class}
use Rattle.wave_base.specs.declared.span.Span.{Span}
use Rattle.resolved_service.specs.declared.expr.Expr.{Expr}
use Rattle.resolved_service.specs.declared.expr.Node.TheVariants as node
use Rattle.resolved_service.specs.declared.expr.Node.{Row_of-Expr, end_of-Expr, more_of-Expr, items-the_row-Expr, the_lemmas}
use Rattle.resolved_service.specs.declared.stmt.Stmt.{Stmt}
use Rattle.resolved_service.specs.declared.stmt.Action as action_data
use Rattle.resolved_service.specs.declared.stmt.Action.TheVariants as action
use Rattle.resolved_service.specs.declared.stmt.Action.{Row_of-Stmt, end_of-Stmt, more_of-Stmt, items-the_row-Stmt}
use Rattle.resolved_service.specs.Steps as s
use Rattle.resolved_service.specs.Steps.{Steps, step, no_steps, Else, no_else, otherwise, action_step, row_steps, held_else, step_of, steps_of, steps_in}
use Rattle.resolved_service.specs.View as r
use Rattle.resolved_service.specs.View.{Trees, tree, node_tree, row_trees, tree_of, trees_of}

pub row_trees-items : (n : _) (k : Row_of-Expr n) → row_trees k ≡ trees_of (map tree_of (items-the_row-Expr n k))
row_trees-items _ end_of-Expr = refl
row_trees-items _ (more_of-Expr a x rest) = ap (λ ts. tree (node_tree x a) ts) (row_trees-items _ rest)

pub op_node : (row : ℕ) (args : Vec Expr Global) (at : Span) → node_tree (node.Op row args) at ≡ r.Op at row (trees_of (map tree_of args.items))
op_node row args at = search (rules, the_lemmas, row_trees-items)

pub call_node : (method : ℕ) (args : Vec Expr Global) (at : Span) → node_tree (node.Call method args) at ≡ r.Call at method (trees_of (map tree_of args.items))
call_node method args at = search (rules, the_lemmas, row_trees-items)

pub child_node : (class : Class) (method : ℕ) (key : Box Expr Global) (args : Vec Expr Global) (at : Span) → node_tree (node.Child class method key args) at ≡ r.Child at class.0 method (tree_of key.value) (trees_of (map tree_of args.items))
child_node class method key args at = search (rules, the_lemmas, row_trees-items)

pub and_node : (left right : Box Expr Global) (at : Span) → node_tree (node.And left right) at ≡ r.And at (tree_of left.value) (tree_of right.value)
and_node left right at = search (rules, the_lemmas, row_trees-items)

pub or_node : (left right : Box Expr Global) (at : Span) → node_tree (node.Or left right) at ≡ r.Or at (tree_of left.value) (tree_of right.value)
or_node left right at = search (rules, the_lemmas, row_trees-items)

pub row_steps-items : (n : _) (k : Row_of-Stmt n) → row_steps k ≡ steps_in (items-the_row-Stmt n k)
row_steps-items _ end_of-Stmt = refl
row_steps-items _ (more_of-Stmt at a rest) = ap (λ ss. step (action_step a at) ss) (row_steps-items _ rest)

pub while_action : (test : Expr) (body : Vec Stmt Global) (at : Span) → action_step (action.While test body) at ≡ s.While at (tree_of test) (steps_in body.items)
while_action test body at = search (rules, action_data.the_lemmas, row_steps-items)

pub for_action : (counter : ℕ) (from to : Expr) (body : Vec Stmt Global) (at : Span) → action_step (action.For counter from to body) at ≡ s.For at counter (tree_of from) (tree_of to) (steps_in body.items)
for_action counter from to body at = search (rules, action_data.the_lemmas, row_steps-items)

pub if_action : (test : Expr) (body : Vec Stmt Global) (at : Span) → action_step (action.If test body None) at ≡ s.If at (tree_of test) (steps_in body.items) no_else
if_action test body at = search (rules, action_data.the_lemmas, row_steps-items)

pub else_action : (test : Expr) (body other : Vec Stmt Global) (at : Span) → action_step (action.If test body (Some other)) at ≡ s.If at (tree_of test) (steps_in body.items) (otherwise (steps_in other.items))
else_action test body other at = search (rules, action_data.the_lemmas, row_steps-items)
