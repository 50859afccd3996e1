-- A service is bounded where its literals are: the values that its expressions write out, and the labels of what it sends.
use Rattle.std.specs.Prelude.{Option, Some, None, All}
use Rattle.wave_base.specs.Text.{IsText}
use Rattle.resolved_service.specs.declared.service.Event.{Event}
use Rattle.resolved_service.specs.declared.service.Last.{Last}
use Rattle.resolved_service.specs.declared.service.Method.{Method}
use Rattle.resolved_service.specs.declared.service.Phase.{Phase}
use Rattle.resolved_service.specs.declared.service.Resolved.{Resolved}
use Rattle.resolved_service.specs.Steps.{Step, SetLocal, SetField, PutLocal, PutField, CutLocal, CutField, If, While, For, Require, Send, Spawn, Do, Return, Finish, Steps, no_steps, step, Else, no_else, otherwise, steps_in}
use Rattle.resolved_service.specs.View.{Tree, Const, Local, Field, Above, Op, And, Or, Call, Child, Trees, no_trees, tree, tree_of}
use Rattle.snapshot_text.specs.Shots.{IsValue}

abbrev mutual
  pub BoundedTree : Tree → Type 0
  BoundedTree (Const at literal) = IsValue literal
  BoundedTree (Local at slot) = Unit {0}
  BoundedTree (Field at f) = Unit {0}
  BoundedTree (Above at level f) = Unit {0}
  BoundedTree (Op at row args) = BoundedTrees args
  BoundedTree (And at left right) = BoundedTree left × BoundedTree right
  BoundedTree (Or at left right) = BoundedTree left × BoundedTree right
  BoundedTree (Call at method args) = BoundedTrees args
  BoundedTree (Child at class method key args) = BoundedTree key × BoundedTrees args

  pub BoundedTrees : Trees → Type 0
  BoundedTrees no_trees = Unit {0}
  BoundedTrees (tree t ts) = BoundedTree t × BoundedTrees ts

abbrev pub BoundedMaybe : Option Tree → Type 0
BoundedMaybe None = Unit {0}
BoundedMaybe (Some e) = BoundedTree e

abbrev mutual
  pub BoundedStep : Step → Type 0
  BoundedStep (SetLocal at slot e) = BoundedTree e
  BoundedStep (SetField at f e) = BoundedTree e
  BoundedStep (PutLocal at slot key e) = BoundedTree key × BoundedTree e
  BoundedStep (PutField at f key e) = BoundedTree key × BoundedTree e
  BoundedStep (CutLocal at slot key) = BoundedTree key
  BoundedStep (CutField at f key) = BoundedTree key
  BoundedStep (If at test body other) = BoundedTree test × BoundedSteps body × BoundedElse other
  BoundedStep (While at test body) = BoundedTree test × BoundedSteps body
  BoundedStep (For at counter from to body) = BoundedTree from × BoundedTree to × BoundedSteps body
  BoundedStep (Require at test) = BoundedTree test
  BoundedStep (Send at label e) = IsText label × BoundedTree e
  BoundedStep (Spawn at event args) = BoundedTrees args
  BoundedStep (Do at e) = BoundedTree e
  BoundedStep (Return at e) = BoundedMaybe e
  BoundedStep (Finish at e) = BoundedMaybe e

  pub BoundedSteps : Steps → Type 0
  BoundedSteps no_steps = Unit {0}
  BoundedSteps (step s ss) = BoundedStep s × BoundedSteps ss

  pub BoundedElse : Else → Type 0
  BoundedElse no_else = Unit {0}
  BoundedElse (otherwise ss) = BoundedSteps ss

abbrev pub BoundedLast : Option Last → Type 0
BoundedLast None = Unit {0}
BoundedLast (Some last) = BoundedTree (tree_of last.value)

pub record BoundedMethod (m : Method) : Type 0 where
  pub body : BoundedSteps (steps_in m.body)
  pub last : BoundedLast m.last

pub record BoundedPhase (f : Phase) : Type 0 where
  pub key : BoundedTree (tree_of f.key)
  pub body : BoundedSteps (steps_in f.body)

pub record BoundedEvent (e : Event) : Type 0 where
  pub here : BoundedSteps (steps_in e.here)
  pub phases : All BoundedPhase e.phases
  pub last : BoundedLast e.last

pub record BoundedService (service : Resolved) : Type 0 where
  pub methods : All BoundedMethod service.methods
  pub events : All BoundedEvent service.events
