-- The texts of a program: each that an instruction uses, once, in the order of first uses in code order.
use Rattle.std.specs.Prelude.{ℕ, zero, suc, List, [], ◌∷◌, ◌++◌, if◌then◌else◌, Option, Some, None}
use Rattle.std.specs.List.{list_any}
use Rattle.wave_base.specs.declared.value.Value.{Value}
use Rattle.wave_base.specs.declared.value.Value.TheVariants as v
use Rattle.wave_base.specs.Names.{same_bytes}
use Rattle.resolved_service.specs.declared.service.Event.{Event}
use Rattle.resolved_service.specs.declared.service.Last.{Last}
use Rattle.resolved_service.specs.declared.service.Method.{Method}
use Rattle.resolved_service.specs.declared.service.Phase.{Phase}
use Rattle.resolved_service.specs.declared.service.Resolved.{Resolved}
use Rattle.resolved_service.specs.Steps.{Step, SetLocal, SetField, PutLocal, PutField, CutLocal, CutField, If, While, For, Require, Send, Spawn, Do, Return, Finish, Steps, no_steps, step, Else, no_else, otherwise, steps_in}
use Rattle.resolved_service.specs.View.{Tree, Const, Local, Field, Above, Op, And, Or, Call, Child, Trees, no_trees, tree, tree_of}

abbrev pub Text : Type 0
Text = List ℕ

-- a text at its first use
abbrev pub with_text : List Text → Text → List Text
with_text texts t = if list_any (same_bytes t) texts then texts else texts ++ t ∷ []

abbrev pub with_texts : List Text → List Text → List Text
with_texts texts [] = texts
with_texts texts (t ∷ ts) = with_texts (with_text texts t) ts

-- the number of a text: its place among the texts, and past their end where it isn't there
abbrev pub place_of_text : List Text → Text → ℕ
place_of_text [] t = zero
place_of_text (u ∷ us) t = if same_bytes t u then zero else suc (place_of_text us t)

-- ---- the texts that the code uses, in code order

abbrev pub value_uses : Value → List Text
value_uses (v.Str t) = t ∷ []
value_uses _ = []

abbrev mutual
  pub tree_uses : Tree → List Text
  tree_uses (Const at literal) = value_uses literal
  tree_uses (Local at slot) = []
  tree_uses (Field at f) = []
  tree_uses (Above at level f) = []
  tree_uses (Op at row args) = trees_uses args
  tree_uses (And at a b) = tree_uses a ++ tree_uses b
  tree_uses (Or at a b) = tree_uses a ++ tree_uses b
  tree_uses (Call at method args) = trees_uses args
  tree_uses (Child at class method key args) = tree_uses key ++ trees_uses args

  pub trees_uses : Trees → List Text
  trees_uses no_trees = []
  trees_uses (tree t ts) = tree_uses t ++ trees_uses ts

abbrev pub maybe_uses : Option Tree → List Text
maybe_uses None = []
maybe_uses (Some e) = tree_uses e

abbrev mutual
  pub step_uses : Step → List Text
  step_uses (SetLocal at slot e) = tree_uses e
  step_uses (SetField at f e) = tree_uses e
  step_uses (PutLocal at slot key e) = tree_uses key ++ tree_uses e
  step_uses (PutField at f key e) = tree_uses key ++ tree_uses e
  step_uses (CutLocal at slot key) = tree_uses key
  step_uses (CutField at f key) = tree_uses key
  step_uses (If at test body other) = tree_uses test ++ steps_uses body ++ else_uses other
  step_uses (While at test body) = tree_uses test ++ steps_uses body
  step_uses (For at counter from to body) = tree_uses from ++ tree_uses to ++ steps_uses body
  step_uses (Require at e) = tree_uses e
  step_uses (Send at label e) = tree_uses e ++ label ∷ []
  step_uses (Spawn at event args) = trees_uses args
  step_uses (Do at e) = tree_uses e
  step_uses (Return at e) = maybe_uses e
  step_uses (Finish at e) = maybe_uses e

  pub steps_uses : Steps → List Text
  steps_uses no_steps = []
  steps_uses (step s ss) = step_uses s ++ steps_uses ss

  pub else_uses : Else → List Text
  else_uses no_else = []
  else_uses (otherwise ss) = steps_uses ss

abbrev pub last_uses : Option Last → List Text
last_uses None = []
last_uses (Some last) = tree_uses (tree_of last.value)

abbrev pub method_uses : Method → List Text
method_uses m = steps_uses (steps_in m.body) ++ last_uses m.last

abbrev pub phases_uses : List Phase → List Text
phases_uses [] = []
phases_uses (f ∷ fs) = tree_uses (tree_of f.key) ++ steps_uses (steps_in f.body) ++ phases_uses fs

abbrev pub event_uses : Event → List Text
event_uses e = steps_uses (steps_in e.here) ++ phases_uses e.phases ++ last_uses e.last

abbrev pub methods_uses : List Method → List Text
methods_uses [] = []
methods_uses (m ∷ ms) = method_uses m ++ methods_uses ms

abbrev pub events_uses : List Event → List Text
events_uses [] = []
events_uses (e ∷ es) = event_uses e ++ events_uses es

-- the texts of a service
unfoldable pub service_texts : Resolved → List Text
service_texts service = with_texts [] (methods_uses service.methods ++ events_uses service.events)
