-- Resolved statements with lists in them, by the items of the lists.
use Rattle.std.proofs.Common.{◌≡◌, ℕ, map, refl, ap, rules, Vec, Global, Option, Some, None}
use Rattle.wave_base.specs.declared.span.Span.{Span}
use Rattle.resolved_service.specs.declared.expr.Expr.{Expr}
use Rattle.resolved_service.specs.declared.stmt.Stmt.{Stmt}
use Rattle.resolved_service.specs.declared.stmt.Action.TheVariants as action
use Rattle.resolved_service.specs.declared.stmt.Action.{Row_of-Stmt, end_of-Stmt, more_of-Stmt, items-the_row-Stmt, the_lemmas}
use Rattle.resolved_service.specs.Steps as s
use Rattle.resolved_service.specs.Steps.{step, action_step, row_steps, steps_in, else_in}
use Rattle.resolved_service.specs.View.{tree_of, trees_of}

pub row_steps-items : (n : _) (k : Row_of-Stmt n) → row_steps k ≡ steps_in (items-the_row-Stmt n k)
row_steps-items _ end_of-Stmt = refl
row_steps-items _ (more_of-Stmt at a rest) = ap (λ ss. step (action_step a at) ss) (row_steps-items _ rest)

pub while_step : (test : Expr) (body : Vec Stmt Global) (at : Span) → action_step (action.While test body) at ≡ s.While at (tree_of test) (steps_in body.items)
while_step test body at = search (rules, the_lemmas, row_steps-items)

pub for_step : (counter : ℕ) (from to : Expr) (body : Vec Stmt Global) (at : Span) → action_step (action.For counter from to body) at ≡ s.For at counter (tree_of from) (tree_of to) (steps_in body.items)
for_step counter from to body at = search (rules, the_lemmas, row_steps-items)

pub if_step : (test : Expr) (body : Vec Stmt Global) (other : Option (Vec Stmt Global)) (at : Span) → action_step (action.If test body other) at ≡ s.If at (tree_of test) (steps_in body.items) (else_in other)
if_step test body None at = search (rules, the_lemmas, row_steps-items)
if_step test body (Some v) at = search (rules, the_lemmas, row_steps-items)

pub spawn_step : (event : ℕ) (args : Vec Expr Global) (at : Span) → action_step (action.Spawn event args) at ≡ s.Spawn at event (trees_of (map tree_of args.items))
spawn_step event args at = search (rules, the_lemmas, row_steps-items)
