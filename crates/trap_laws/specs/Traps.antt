-- The traps that can come of a service, each with its place: of an operator, a call, a loop, a change of a map, a `require`, a `send`, a
-- `spawn`, and a way down.
use Rattle.std.specs.Prelude.{◌≡◌, ◌≢◌, ◌⊎◌, ℕ, List, [], ◌∷◌, ◌++◌, map, Option, Some, None, slice_get, Contains}
use Rattle.wave_base.specs.declared.call.Call.{Call}
use Rattle.wave_base.specs.declared.outcome.Outcome.TheVariants as out
use Rattle.wave_base.specs.declared.span.Span.{Span}
use Rattle.wave_base.specs.declared.trap.Trap.{Trap}
use Rattle.wave_base.specs.declared.trap.TrapKind.{TrapKind}
use Rattle.wave_base.specs.declared.trap.TrapKind.TheVariants as k
use Rattle.wave_base.specs.declared.value.Value.{Value}
use Rattle.wave_base.specs.Tree as t
use Rattle.resolved_service.specs.declared.service.Event.{Event}
use Rattle.resolved_service.specs.declared.service.Last.{Last}
use Rattle.resolved_service.specs.declared.service.Method.{Method}
use Rattle.resolved_service.specs.declared.service.Phase.{Phase}
use Rattle.resolved_service.specs.declared.service.Resolved.{Resolved}
use Rattle.resolved_service.specs.Jobs.{call_meaning}
use Rattle.resolved_service.specs.Meaning.{nowhere}
use Rattle.resolved_service.specs.Steps.{Step, SetLocal, SetField, PutLocal, PutField, CutLocal, CutField, If, While, For, Require, Send, Spawn, Do, Return, Finish, Steps, no_steps, step, Else, no_else, otherwise, steps_in}
use Rattle.resolved_service.specs.View.{Tree, Const, Local, Field, Above, Op, And, Or, Call as CallOwn, Child, Trees, no_trees, tree, tree_of}

-- all that operators raise
abbrev pub of_operators : List TrapKind
of_operators = k.Overflow ∷ k.DivZero ∷ k.Absent ∷ k.Full ∷ k.TooLong ∷ []

-- traps of these kinds at one place
abbrev pub traps_at : Span → List TrapKind → List Trap
traps_at at kinds = map (λ kind. record { kind = kind; at = at }) kinds

abbrev mutual
  pub tree_traps : Tree → List Trap
  tree_traps (Const at literal) = []
  tree_traps (Local at slot) = []
  tree_traps (Field at f) = []
  tree_traps (Above at level f) = []
  tree_traps (Op at row args) = traps_at at of_operators ++ trees_traps args
  tree_traps (And at left right) = tree_traps left ++ tree_traps right
  tree_traps (Or at left right) = tree_traps left ++ tree_traps right
  tree_traps (CallOwn at method args) = traps_at at (k.Ticks ∷ []) ++ trees_traps args
  tree_traps (Child at class method key args) = traps_at at (k.Ticks ∷ k.Reach ∷ []) ++ tree_traps key ++ trees_traps args

  pub trees_traps : Trees → List Trap
  trees_traps no_trees = []
  trees_traps (tree t ts) = tree_traps t ++ trees_traps ts

abbrev pub maybe_traps : Option Tree → List Trap
maybe_traps None = []
maybe_traps (Some e) = tree_traps e

abbrev mutual
  pub step_traps : Step → List Trap
  step_traps (SetLocal at slot e) = tree_traps e
  step_traps (SetField at f e) = tree_traps e
  step_traps (PutLocal at slot key e) = traps_at at of_operators ++ tree_traps key ++ tree_traps e
  step_traps (PutField at f key e) = traps_at at of_operators ++ tree_traps key ++ tree_traps e
  step_traps (CutLocal at slot key) = traps_at at of_operators ++ tree_traps key
  step_traps (CutField at f key) = traps_at at of_operators ++ tree_traps key
  step_traps (If at test body other) = tree_traps test ++ steps_traps body ++ else_traps other
  step_traps (While at test body) = traps_at at (k.Ticks ∷ []) ++ tree_traps test ++ steps_traps body
  step_traps (For at counter from to body) = traps_at at (k.Ticks ∷ of_operators) ++ tree_traps from ++ tree_traps to ++ steps_traps body
  step_traps (Require at test) = traps_at at (k.Require ∷ []) ++ tree_traps test
  step_traps (Send at label e) = traps_at at (k.Sends ∷ []) ++ tree_traps e
  step_traps (Spawn at event args) = traps_at at (k.Generation ∷ k.Spawns ∷ []) ++ trees_traps args
  step_traps (Do at e) = tree_traps e
  step_traps (Return at e) = maybe_traps e
  step_traps (Finish at e) = maybe_traps e

  pub steps_traps : Steps → List Trap
  steps_traps no_steps = []
  steps_traps (step s ss) = step_traps s ++ steps_traps ss

  pub else_traps : Else → List Trap
  else_traps no_else = []
  else_traps (otherwise ss) = steps_traps ss

abbrev pub last_traps : Option Last → List Trap
last_traps None = []
last_traps (Some last) = tree_traps (tree_of last.value)

abbrev pub method_traps : Method → List Trap
method_traps m = steps_traps (steps_in m.body) ++ last_traps m.last

abbrev pub phases_traps : List Phase → List Trap
phases_traps [] = []
phases_traps (f ∷ fs) = traps_at f.at (k.Reach ∷ []) ++ tree_traps (tree_of f.key) ++ steps_traps (steps_in f.body) ++ phases_traps fs

abbrev pub event_traps : Event → List Trap
event_traps e = steps_traps (steps_in e.here) ++ phases_traps e.phases ++ last_traps e.last

module _ (service : Resolved) where
  -- a trap of the event of this number, or of a method
  abbrev pub ComesOf : ℕ → Trap → Type 0
  ComesOf number trap =
      ((e : Event) × (slice_get service.events number ≡ Some e) × Contains (event_traps e) trap) ⊎
      ((k : ℕ) × (m : Method) × (slice_get service.methods k ≡ Some m) × Contains (method_traps m) trap)

  abbrev pub TrapsBy : t.Tree (List Value) → Call → Trap → Type 0
  TrapsBy before call trap = (call_meaning service before call).ran.result.outcome ≡ out.Trapped trap

  -- Traps stand in the text. Where a call traps, something of its event or of a method stands there that raises such a trap.
  abbrev pub TrapsStand : Type 0
  TrapsStand = (before : t.Tree (List Value)) (call : Call) (trap : Trap) → TrapsBy before call trap → ComesOf call.event trap

  -- No trap stands nowhere, unless something of the service does.
  abbrev pub NoneStandsNowhere : Type 0
  NoneStandsNowhere = ((number : ℕ) (trap : Trap) → ComesOf number trap → trap.at ≢ nowhere) →
      (before : t.Tree (List Value)) (call : Call) (trap : Trap) → TrapsBy before call trap → trap.at ≢ nowhere
