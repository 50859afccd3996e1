-- Statements that surely end their function.
use Rattle.std.proofs.Common.{◌≡◌, ◌&&◌, ℕ, zero, suc, true, false, List, [], ◌∷◌, length, get_or, map, rules, refl, ap, ◌∙◌, Vec, Global, Some, arith}
use Rattle.wave_base.specs.declared.span.Span.{Span}
use Rattle.resolved_service.specs.declared.expr.Expr.{Expr}
use Rattle.resolved_service.specs.declared.stmt.Stmt.{Stmt}
use Rattle.resolved_service.specs.declared.stmt.Action as effect
use Rattle.resolved_service.specs.declared.stmt.Action.TheVariants as done
use Rattle.resolved_service.specs.Steps.{If, step, otherwise, action_step, row_steps, step_of, steps_of, steps_in, is_end, surely_ends}
use Rattle.resolved_service.specs.View.{tree_of}

row_steps-items : (n : _) (k : effect.Row_of-Stmt n) → row_steps k ≡ steps_of (map step_of (effect.items-the_row-Stmt n k))
row_steps-items _ effect.end_of-Stmt = refl
row_steps-items _ (effect.more_of-Stmt at a rest) = ap (λ l. step (action_step a at) l) (row_steps-items _ rest)

if_step : (test : Expr) (body other : Vec Stmt Global) (at : Span) → action_step (done.If test body (Some other)) at ≡ If at (tree_of test) (steps_in body.items) (otherwise (steps_in other.items))
if_step test body other at = search (rules, effect.the_lemmas, row_steps-items)

module _ (s : Stmt) (test : Expr) (body other : Vec Stmt Global) (is : s.action ≡ done.If test body (Some other)) where
  -- an `if` with both blocks
  if_ends : is_end (step_of s) ≡ (surely_ends (steps_in body.items) && surely_ends (steps_in other.items))
  if_ends = ap (λ a. is_end (action_step a s.at)) is ∙ ap is_end (if_step test body other s.at)

  -- where the first block ends, the second tells
  pub second_tells : surely_ends (steps_in body.items) ≡ true → is_end (step_of s) ≡ surely_ends (steps_in other.items)
  second_tells h = if_ends ∙ ap (λ b. b && surely_ends (steps_in other.items)) h

  pub first_goes_on : surely_ends (steps_in body.items) ≡ false → is_end (step_of s) ≡ false
  first_goes_on h = if_ends ∙ ap (λ b. b && surely_ends (steps_in other.items)) h

-- the last statement tells
pub last_tells : (ss : List Stmt) (n : ℕ) (s : Stmt) → length ss ≡ suc n → s ≡ get_or ss n s → is_end (step_of s) ≡ surely_ends (steps_in ss)
last_tells [] n s l at = absurd (omega arith)
last_tells (a ∷ []) zero s l at = ap (λ x. is_end (step_of x)) at
last_tells (a ∷ []) (suc n) s l at = absurd (omega arith)
last_tells (a ∷ b ∷ ss) zero s l at = absurd (omega arith)
last_tells (a ∷ b ∷ ss) (suc n) s l at = last_tells (b ∷ ss) n s (omega arith) at
