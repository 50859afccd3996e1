-- Where memory may be wanting while a value is looked up, and while a variable is changed.
use Rattle.std.specs.Prelude.{◌≡◌, ◌⊎◌, ℕ, None, Result, Err, get_or}
use Rattle.wave_base.specs.declared.limits.TheConstants.{TICKS}
use Rattle.wave_base.specs.declared.value.Value.{Value}
use Rattle.wave_base.specs.declared.value.Value.TheVariants.{Int, Map}
use Rattle.wave_base.specs.Tables.{value_at}
use Rattle.wave_base.specs.Values.{kind_of, TakesMemory}
use Rattle.value_ops.specs.Operators.{gives_of}
use Rattle.context_tree.specs.Contexts.{Contexts, tree_of as shown}
use Rattle.resolved_service.specs.Meaning.{Outcome, Done, value, call_act}
use Rattle.resolved_service.specs.Steps.{Step, SetLocal, SetField, PutLocal, PutField, CutLocal, CutField}
use Rattle.resolved_service.specs.View.{Tree, Op, And, Or, Trees, no_trees, tree}
use Rattle.resolved_service.specs.World.{nothing}
use Rattle.service_eval.specs.declared.code.Code.{Code}
use Rattle.service_eval.specs.declared.edits.Edit.{Edit}
use Rattle.service_eval.specs.declared.edits.Edit.TheVariants.{Put}
use Rattle.service_eval.specs.declared.machine.Machine.{Machine}
use Rattle.service_eval.specs.declared.stop.Stop.{Stop}
use Rattle.service_eval.specs.declared.stop.Stop.TheVariants.{OutOfMemory}
use Rattle.service_eval.specs.declared.work.Variable.{Variable}
use Rattle.service_eval.specs.declared.work.Variable.TheVariants as variable
use Rattle.service_eval.specs.inner.Items as i
use Rattle.service_eval.specs.inner.Machines.{own, state_of}

-- what is said where memory was wanting
abbrev pub WhereWanting : {A : Type 0} → Result A Stop → Type 0 → Type 0
WhereWanting (Err (OutOfMemory _)) P = P
WhereWanting _ P = Unit {0}

abbrev mutual
  -- the expression is, or has below it, an operator that gives a text or a map
  pub MayWant : Tree → Type 0
  MayWant (Op at row args) = TakesMemory (gives_of row) ⊎ AnyMayWant args
  MayWant (And at left right) = MayWant left ⊎ MayWant right
  MayWant (Or at left right) = MayWant left ⊎ MayWant right
  MayWant _ = ⊥

  -- one of them is, or has
  pub AnyMayWant : Trees → Type 0
  AnyMayWant no_trees = ⊥
  AnyMayWant (tree t ts) = MayWant t ⊎ AnyMayWant ts

-- what is found is a text or a map
abbrev pub IsLarge : Outcome Value → Type 0
IsLarge (Done v st) = TakesMemory (kind_of v)
IsLarge _ = ⊥

-- the expression makes a text or a map, or has one for its value, which is copied
abbrev pub MayWantToFind : Code → Contexts → Machine → Tree → Type 0
MayWantToFind code contexts m t =
    MayWant t ⊎ IsLarge (value (call_act code.methods.now TICKS) m.path t (state_of (shown code.shape.now contexts) m))

-- a map has not this key
abbrev pub IsNewKey : Value → Value → Type 0
IsNewKey (Map pairs) (Int key) = value_at pairs key ≡ None
IsNewKey _ _ = ⊥

-- a change of a value puts a new key into a map, and no other change wants memory
abbrev pub PutsNewKey : Edit → Value → Type 0
PutsNewKey (Put key new) before = IsNewKey before key
PutsNewKey _ before = ⊥

-- what a variable has: a local of the function that runs, or a field of its context
abbrev pub value_of : Code → Contexts → Machine → Variable → Value
value_of code contexts m (variable.Local slot) = get_or m.locals.items slot nothing
value_of code contexts m (variable.Field f) = get_or ((shown code.shape.now contexts).fields m.path) f nothing

-- what is found is a new key of a map
abbrev pub FindsNewKey : Value → Outcome Value → Type 0
FindsNewKey map (Done key st) = IsNewKey map key
FindsNewKey map _ = ⊥

-- a pair for a variable: its key or its value may want memory, or a new key does
abbrev pub MayWantToPut : Code → Contexts → Machine → Variable → Tree → Tree → Type 0
MayWantToPut code contexts m v key new =
    MayWantToFind code contexts m key
    ⊎ MayWantToFind code contexts m new
    ⊎ FindsNewKey (value_of code contexts m v) (value (call_act code.methods.now TICKS) m.path key (state_of (shown code.shape.now contexts) m))

-- a statement that changes a variable, and meets no call
abbrev pub MayWantAtOnce : Code → Contexts → Machine → Step → Type 0
MayWantAtOnce code contexts m (SetLocal at slot e) = MayWantToFind code contexts m e
MayWantAtOnce code contexts m (SetField at f e) = MayWantToFind code contexts m e
MayWantAtOnce code contexts m (PutLocal at slot key e) = MayWantToPut code contexts m (variable.Local slot) key e
MayWantAtOnce code contexts m (PutField at f key e) = MayWantToPut code contexts m (variable.Field f) key e
MayWantAtOnce code contexts m (CutLocal at slot key) = MayWantToFind code contexts m key
MayWantAtOnce code contexts m (CutField at f key) = MayWantToFind code contexts m key
MayWantAtOnce code contexts m _ = ⊥

-- the rest of a statement whose expressions have their values
abbrev pub MayWantAtEnd : Code → Contexts → Machine → ℕ → i.End → Type 0
MayWantAtEnd code contexts m base (i.PutLocal slot) = IsNewKey (value_of code contexts m (variable.Local slot)) (own 0 base m.values.items)
MayWantAtEnd code contexts m base (i.PutField f) = IsNewKey (value_of code contexts m (variable.Field f)) (own 0 base m.values.items)
MayWantAtEnd code contexts m base (i.Branch body other) = Unit {0}
MayWantAtEnd code contexts m base (i.Send label) = Unit {0}
MayWantAtEnd code contexts m base (i.Spawn event) = Unit {0}
MayWantAtEnd code contexts m base i.Returns = Unit {0}
MayWantAtEnd code contexts m base _ = ⊥
