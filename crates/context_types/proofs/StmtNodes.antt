-- Statements with lists in them, as contracts see them: those of the syntax tree, and those with names resolved.
use Rattle.std.proofs.Common.{◌≡◌, ℕ, map, rules, refl, ap, Vec, Global, Option, Some, None}
use Rattle.std.specs.Option.{option_map}
use Rattle.wave_base.specs.declared.span.Span.{Span}
use Rattle.mace_ast.specs.declared.name.Name.{Name}
use Rattle.mace_ast.specs.declared.expr.Expr.{Expr}
use Rattle.mace_ast.specs.declared.stmt.Stmt.{Stmt}
use Rattle.mace_ast.specs.declared.stmt.Action as source
use Rattle.mace_ast.specs.declared.stmt.Action.TheVariants as action
use Rattle.mace_ast.specs.Exprs.{expr_tree}
use Rattle.mace_ast.specs.Stmts as s
use Rattle.mace_ast.specs.Stmts.{StmtTree, action_tree, stmt_tree, stmts_of, else_of}
use Rattle.mace_ast.proofs.Rows.{row_stmts-items}
use Rattle.resolved_service.specs.declared.expr.Expr as tree
use Rattle.resolved_service.specs.declared.stmt.Stmt as made
use Rattle.resolved_service.specs.declared.stmt.Action as effect
use Rattle.resolved_service.specs.declared.stmt.Action.TheVariants as done
use Rattle.resolved_service.specs.Steps as r
use Rattle.resolved_service.specs.Steps.{Step, action_step, row_steps, step_of, steps_of, steps_in, else_in}
use Rattle.resolved_service.specs.View.{tree_of}
use Rattle.type_rules.specs.Stmts.{start_of}

-- ---- the syntax tree

pub if_node : (test : Expr) (body : Vec Stmt Global) (other : Option (Vec Stmt Global)) (at : Span)
    → action_tree (action.If test body other) at ≡ s.If at (expr_tree test) (stmts_of (map stmt_tree body.items)) (else_of (option_map (λ b. map stmt_tree b.items) other))
if_node test body other at = search (rules, source.the_lemmas, row_stmts-items)

pub while_node : (test : Expr) (body : Vec Stmt Global) (at : Span) → action_tree (action.While test body) at ≡ s.While at (expr_tree test) (stmts_of (map stmt_tree body.items))
while_node test body at = search (rules, source.the_lemmas, row_stmts-items)

pub for_node : (name : Name) (low high : Expr) (body : Vec Stmt Global) (at : Span)
    → action_tree (action.For name low high body) at ≡ s.For at name (expr_tree low) (expr_tree high) (stmts_of (map stmt_tree body.items))
for_node name low high body at = search (rules, source.the_lemmas, row_stmts-items)

-- where a statement starts
action_starts : (a : source.Action) (at : Span) → start_of (action_tree a at) ≡ at
action_starts (action.Let n e) at = refl
action_starts (action.If' e s body other) at = refl
action_starts (action.While' e s body) at = refl
action_starts (action.For' n low high s body) at = refl
action_starts (action.Require e) at = refl
action_starts (action.Send t e) at = refl
action_starts (action.Spawn t es) at = refl
action_starts (action.Cut x k) at = refl
action_starts (action.Set x k e) at = refl
action_starts (action.Call f es) at = refl
action_starts (action.ChildCall c k f es) at = refl
action_starts (action.Return e) at = refl
action_starts (action.Finish e) at = refl

pub starts_at : (s : Stmt) → start_of (stmt_tree s) ≡ s.at
starts_at s = action_starts s.action s.at

-- ---- with names resolved

row_steps-items : (n : _) (k : effect.Row_of-Stmt n) → row_steps k ≡ steps_of (map step_of (effect.items-the_row-Stmt n k))
row_steps-items _ effect.end_of-Stmt = refl
row_steps-items _ (effect.more_of-Stmt at a rest) = ap (λ l. r.step (action_step a at) l) (row_steps-items _ rest)

pub if_step : (test : tree.Expr) (body : Vec made.Stmt Global) (other : Option (Vec made.Stmt Global)) (at : Span) → action_step (done.If test body other) at ≡ r.If at (tree_of test) (steps_in body.items) (else_in other)
if_step test body None at = search (rules, effect.the_lemmas, row_steps-items)
if_step test body (Some other) at = search (rules, effect.the_lemmas, row_steps-items)

pub while_step : (test : tree.Expr) (body : Vec made.Stmt Global) (at : Span) → action_step (done.While test body) at ≡ r.While at (tree_of test) (steps_in body.items)
while_step test body at = search (rules, effect.the_lemmas, row_steps-items)

pub for_step : (counter : ℕ) (low high : tree.Expr) (body : Vec made.Stmt Global) (at : Span) → action_step (done.For counter low high body) at ≡ r.For at counter (tree_of low) (tree_of high) (steps_in body.items)
for_step counter low high body at = search (rules, effect.the_lemmas, row_steps-items)
