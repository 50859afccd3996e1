-- Resolved statements as contracts see them: no pointers.
use Rattle.std.specs.Prelude.{ℕ, Bool, true, false, ◌&&◌, List, [], ◌∷◌, map, Option, Some, None, Vec}
use Rattle.std.specs.Global.{Global}
use Rattle.std.specs.Option.{option_map}
use Rattle.wave_base.specs.declared.span.Span.{Span}
use Rattle.resolved_service.specs.View.{Tree, Trees, tree_of, trees_of}
use Rattle.resolved_service.specs.declared.stmt.Stmt.{Stmt}
use Rattle.resolved_service.specs.declared.stmt.Action.{Action, Row_of-Stmt, end_of-Stmt, more_of-Stmt, Held-Action-If-2, None', Some'}
use Rattle.resolved_service.specs.declared.stmt.Action.TheVariants as action

mutual
  pub data Step : Type 0 where
    SetLocal : (at : Span) (slot : ℕ) (value : Tree) → Step
    SetField : (at : Span) (field : ℕ) (value : Tree) → Step
    PutLocal : (at : Span) (slot : ℕ) (key value : Tree) → Step
    PutField : (at : Span) (field : ℕ) (key value : Tree) → Step
    CutLocal : (at : Span) (slot : ℕ) (key : Tree) → Step
    CutField : (at : Span) (field : ℕ) (key : Tree) → Step
    If : (at : Span) (test : Tree) (body : Steps) (other : Else) → Step
    While : (at : Span) (test : Tree) (body : Steps) → Step
    For : (at : Span) (counter : ℕ) (from to : Tree) (body : Steps) → Step
    Require : (at : Span) (test : Tree) → Step
    Send : (at : Span) (label : List ℕ) (value : Tree) → Step
    Spawn : (at : Span) (event : ℕ) (args : Trees) → Step
    Do : (at : Span) (call : Tree) → Step
    Return : (at : Span) (value : Option Tree) → Step
    Finish : (at : Span) (value : Option Tree) → Step

  pub data Steps : Type 0 where
    no_steps : Steps
    step : Step → Steps → Steps

  pub data Else : Type 0 where
    no_else : Else
    otherwise : Steps → Else

abbrev mutual
  pub action_step : Action → Span → Step
  action_step (action.SetLocal s e) at = SetLocal at s (tree_of e)
  action_step (action.SetField f e) at = SetField at f (tree_of e)
  action_step (action.PutLocal s k e) at = PutLocal at s (tree_of k) (tree_of e)
  action_step (action.PutField f k e) at = PutField at f (tree_of k) (tree_of e)
  action_step (action.CutLocal s k) at = CutLocal at s (tree_of k)
  action_step (action.CutField f k) at = CutField at f (tree_of k)
  action_step (action.If' e s a o) at = If at (tree_of e) (row_steps a) (held_else o)
  action_step (action.While' e s a) at = While at (tree_of e) (row_steps a)
  action_step (action.For' c from to s a) at = For at c (tree_of from) (tree_of to) (row_steps a)
  action_step (action.Require e) at = Require at (tree_of e)
  action_step (action.Send t e) at = Send at t (tree_of e)
  action_step (action.Spawn n es) at = Spawn at n (trees_of (map tree_of es.items))
  action_step (action.Do e) at = Do at (tree_of e)
  action_step (action.Return e) at = Return at (option_map tree_of e)
  action_step (action.Finish e) at = Finish at (option_map tree_of e)

  pub row_steps : {m : _} → Row_of-Stmt m → Steps
  row_steps end_of-Stmt = no_steps
  row_steps (more_of-Stmt at a rest) = step (action_step a at) (row_steps rest)

  pub held_else : Held-Action-If-2 → Else
  held_else None' = no_else
  held_else (Some' s r) = otherwise (row_steps r)

abbrev pub step_of : Stmt → Step
step_of s = action_step s.action s.at

abbrev pub steps_of : List Step → Steps
steps_of [] = no_steps
steps_of (s ∷ ss) = step s (steps_of ss)

abbrev pub steps_in : List Stmt → Steps
steps_in stmts = steps_of (map step_of stmts)

-- what stands behind `else`, if anything
abbrev pub else_in : Option (Vec Stmt Global) → Else
else_in None = no_else
else_in (Some stmts) = otherwise (steps_in stmts.items)

-- ---- whether nothing can come behind

abbrev mutual
  -- a `return`, a `finish`, or an `if` both of whose blocks surely end
  pub is_end : Step → Bool
  is_end (Return at value) = true
  is_end (Finish at value) = true
  is_end (If at test body (otherwise other)) = surely_ends body && surely_ends other
  is_end _ = false

  -- statements surely end where the last one does
  pub surely_ends : Steps → Bool
  surely_ends no_steps = false
  surely_ends (step s no_steps) = is_end s
  surely_ends (step s (step t ss)) = surely_ends (step t ss)
