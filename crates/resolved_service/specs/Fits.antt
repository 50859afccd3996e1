-- What a resolved service is known to have where it was checked: callees and children that are there, and few locals. Kinds are no matter
-- here.
use Rattle.std.specs.Prelude.{◌≡◌, ◌<◌, ◌≤◌, ℕ, zero, suc, true, List, [], ◌∷◌, length, Option, Some, None, slice_get, All}
use Rattle.wave_base.specs.declared.limits.TheConstants.{LOCALS}
use Rattle.wave_base.specs.declared.shape.Shape.{Shape}
use Rattle.wave_base.specs.Shapes.{declared_fields, is_child_class}
use Rattle.resolved_service.specs.declared.service.Event.{Event}
use Rattle.resolved_service.specs.declared.service.Last.{Last}
use Rattle.resolved_service.specs.declared.service.Method.{Method}
use Rattle.resolved_service.specs.declared.service.Phase.{Phase}
use Rattle.resolved_service.specs.declared.service.Resolved.{Resolved}
use Rattle.resolved_service.specs.Steps.{Step, SetLocal, SetField, PutLocal, PutField, CutLocal, CutField, If, While, For, Require, Send, Spawn, Do, Return, Finish, Steps, no_steps, step, Else, no_else, otherwise, steps_in}
use Rattle.resolved_service.specs.View.{Tree, Const, Local, Field, Above, Op, And, Or, Call, Child, Trees, no_trees, tree, tree_of}

abbrev pub count_of : Trees → ℕ
count_of no_trees = zero
count_of (tree t ts) = suc (count_of ts)

-- a method that is there, of this class, with so many parameters
pub record IsMethod (methods : List Method) (class number count : ℕ) : Type 0 where
  pub method : Method
  pub is_there : slice_get methods number ≡ Some method
  pub class_is : method.class.0 ≡ class
  pub params : length method.params ≡ count

-- a class whose contexts are children of this one's
abbrev pub IsChildClass : Shape → ℕ → ℕ → Type 0
IsChildClass shape class child = is_child_class shape class child ≡ true

-- a field of this class
abbrev pub IsField : Shape → ℕ → ℕ → Type 0
IsField shape class field = field < length (declared_fields shape class)

module _ (shape : Shape) (methods : List Method) where
  module _ (class : ℕ) where
    abbrev mutual
      pub FitsTree : Tree → Type 0
      FitsTree (Const at v) = Unit {0}
      FitsTree (Local at slot) = Unit {0}
      FitsTree (Field at f) = IsField shape class f
      FitsTree (Above at level f) = Unit {0}
      FitsTree (Op at row args) = FitsTrees args
      FitsTree (And at a b) = FitsTree a × FitsTree b
      FitsTree (Or at a b) = FitsTree a × FitsTree b
      FitsTree (Call at m args) = IsMethod methods class m (count_of args) × FitsTrees args
      FitsTree (Child at c m key args) = IsChildClass shape class c × IsMethod methods c m (count_of args) × FitsTree key × FitsTrees args

      pub FitsTrees : Trees → Type 0
      FitsTrees no_trees = Unit {0}
      FitsTrees (tree t ts) = FitsTree t × FitsTrees ts

    abbrev pub FitsMaybe : Option Tree → Type 0
    FitsMaybe None = Unit {0}
    FitsMaybe (Some e) = FitsTree e

    abbrev mutual
      pub FitsStep : Step → Type 0
      FitsStep (SetLocal at slot e) = FitsTree e
      FitsStep (SetField at f e) = IsField shape class f × FitsTree e
      FitsStep (PutLocal at slot k e) = FitsTree k × FitsTree e
      FitsStep (PutField at f k e) = IsField shape class f × FitsTree k × FitsTree e
      FitsStep (CutLocal at slot k) = FitsTree k
      FitsStep (CutField at f k) = IsField shape class f × FitsTree k
      FitsStep (If at test body other) = FitsTree test × FitsSteps body × FitsElse other
      FitsStep (While at test body) = FitsTree test × FitsSteps body
      FitsStep (For at counter from to body) = FitsTree from × FitsTree to × FitsSteps body
      FitsStep (Require at e) = FitsTree e
      FitsStep (Send at label e) = FitsTree e
      FitsStep (Spawn at event args) = FitsTrees args
      FitsStep (Do at e) = FitsTree e
      FitsStep (Return at e) = FitsMaybe e
      FitsStep (Finish at e) = FitsMaybe e

      pub FitsSteps : Steps → Type 0
      FitsSteps no_steps = Unit {0}
      FitsSteps (step s ss) = FitsStep s × FitsSteps ss

      pub FitsElse : Else → Type 0
      FitsElse no_else = Unit {0}
      FitsElse (otherwise ss) = FitsSteps ss

    abbrev pub FitsLast : Option Last → Type 0
    FitsLast None = Unit {0}
    FitsLast (Some last) = FitsTree (tree_of last.value)

  -- a method fits its class
  pub record FitsMethod (m : Method) : Type 0 where
    pub few_locals : length m.locals ≤ LOCALS
    pub body : FitsSteps m.class.0 (steps_in m.body)
    pub last : FitsLast m.class.0 m.last

  -- phases that go on from a class: each into a child class of the one before, and the reply belongs to the last
  abbrev pub FitsPhases : ℕ → List Phase → Option Last → Type 0
  FitsPhases class [] last = FitsLast class last
  FitsPhases class (f ∷ fs) last =
      IsChildClass shape class f.class.0 × FitsTree class (tree_of f.key) × FitsSteps f.class.0 (steps_in f.body) × FitsPhases f.class.0 fs last

  -- an event fits the root
  pub record FitsEvent (e : Event) : Type 0 where
    pub few_locals : length e.locals ≤ LOCALS
    pub here : FitsSteps 0 (steps_in e.here)
    pub phases : FitsPhases 0 e.phases e.last

pub record FitsService (shape : Shape) (service : Resolved) : Type 0 where
  pub methods : All (FitsMethod shape service.methods) service.methods
  pub events : All (FitsEvent shape service.methods) service.events
