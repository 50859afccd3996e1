-- What changes a variable, and the statements that do: a variable is a local of the function that runs, or a field of its context.
use Rattle.std.specs.Prelude.{◌≡◌, ℕ, List, [], ◌∷◌, Ok, Result, get_or, slice_set}
use Rattle.wave_base.specs.declared.path.Path.{Path}
use Rattle.wave_base.specs.declared.span.Span.{Span}
use Rattle.wave_base.specs.declared.value.Value.{Value}
use Rattle.value_ops.specs.Kinds.{Answer}
use Rattle.value_ops.specs.Operators.{apply_row}
use Rattle.resolved_service.specs.Meaning.{Act, ◌>>=◌, answer, get_local, set_local, get_field, put_field, row_put, row_cut}
use Rattle.resolved_service.specs.Steps.{Step, SetLocal, SetField, PutLocal, PutField, CutLocal, CutField}
use Rattle.resolved_service.specs.View.{tree_of}
use Rattle.resolved_service.specs.World.{nothing}
use Rattle.service_eval.specs.declared.assignments.Assignment.{Assignment}
use Rattle.service_eval.specs.declared.assignments.Assignment.TheVariants as assignment
use Rattle.service_eval.specs.declared.edits.Edit.{Edit}
use Rattle.service_eval.specs.declared.edits.Edit.TheVariants as edit
use Rattle.service_eval.specs.declared.stop.Stop.{Stop}
use Rattle.service_eval.specs.declared.work.Variable.{Variable}
use Rattle.service_eval.specs.declared.work.Variable.TheVariants as variable
use Rattle.service_eval.specs.inner.Turns.{Alters}

-- what a value becomes
abbrev pub edited_value : Edit → Value → Answer Value
edited_value (edit.Set new) before = Ok new
edited_value (edit.Put key new) before = apply_row row_put (before ∷ key ∷ new ∷ [])
edited_value (edit.Cut key) before = apply_row row_cut (before ∷ key ∷ [])

-- a variable of the context at a path is changed
abbrev pub changing : Path → Span → Variable → Edit → Act (Unit {0})
changing p at (variable.Local slot) what = do
  before ← get_local slot
  after ← answer (edited_value what before) at
  set_local slot after
changing p at (variable.Field f) what = do
  before ← get_field f p
  after ← answer (edited_value what before) at
  put_field f p after

-- one of some values is changed, and the others stay; one that is not there counts as a number
pub record Revises (what : Edit) (at : Span) (before : List Value) (i : ℕ) (result : Result (Unit {0}) Stop) (after : List Value) : Type 0 where
  pub value : Value
  pub alters : Alters (edited_value what (get_or before i nothing)) at (get_or before i nothing) result value
  pub list : after ≡ slice_set before i value

-- the statement at a place that changes a variable
abbrev pub step_in : Span → Assignment → Step
step_in at (assignment.Set (variable.Local slot) e) = SetLocal at slot (tree_of e.now)
step_in at (assignment.Set (variable.Field f) e) = SetField at f (tree_of e.now)
step_in at (assignment.Put (variable.Local slot) key e) = PutLocal at slot (tree_of key.now) (tree_of e.now)
step_in at (assignment.Put (variable.Field f) key e) = PutField at f (tree_of key.now) (tree_of e.now)
step_in at (assignment.Cut (variable.Local slot) key) = CutLocal at slot (tree_of key.now)
step_in at (assignment.Cut (variable.Field f) key) = CutField at f (tree_of key.now)

-- a statement that changes no variable
abbrev pub IsOther : Step → Type 0
IsOther (SetLocal at slot e) = ⊥
IsOther (SetField at f e) = ⊥
IsOther (PutLocal at slot key e) = ⊥
IsOther (PutField at f key e) = ⊥
IsOther (CutLocal at slot key) = ⊥
IsOther (CutField at f key) = ⊥
IsOther _ = Unit {0}
