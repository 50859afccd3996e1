-- What a checked service is known to have: each expression its kind, and each callee, child, field, local and event is there.
use Rattle.std.specs.Prelude.{◌≡◌, ◌<◌, ◌⊎◌, ℕ, ◌+◌, Bool, true, false, List, [], ◌∷◌, ◌++◌, length, Option, Some, None, slice_get}
use Rattle.wave_base.specs.declared.operators.TheConstants.{OPERATORS}
use Rattle.wave_base.specs.declared.shape.EventInfo.{EventInfo}
use Rattle.wave_base.specs.declared.shape.Shape.{Shape}
use Rattle.wave_base.specs.declared.value.Kind.{Kind}
use Rattle.wave_base.specs.declared.value.Kind.TheVariants as k
use Rattle.wave_base.specs.declared.value.Value.{Value}
use Rattle.wave_base.specs.declared.value.Value.TheVariants as v
use Rattle.wave_base.specs.Shapes.{IsShape, kinds_of_class, is_child_class}
use Rattle.wave_base.specs.Values.{kind_of}
use Rattle.value_ops.specs.Operators.{takes_of, gives_of}
use Rattle.resolved_service.specs.declared.service.Event.{Event}
use Rattle.resolved_service.specs.declared.service.Last.{Last}
use Rattle.resolved_service.specs.declared.service.Method.{Method}
use Rattle.resolved_service.specs.declared.service.Phase.{Phase}
use Rattle.resolved_service.specs.declared.service.Resolved.{Resolved}
use Rattle.resolved_service.specs.Steps.{Step, SetLocal, SetField, PutLocal, PutField, CutLocal, CutField, If, While, For, Require, Send, Spawn, Do, Return, Finish, Steps, no_steps, step, Else, no_else, otherwise, steps_in, is_end, surely_ends}
use Rattle.resolved_service.specs.View.{Tree, Const, Local, Field, Above, Op, And, Or, Call, Child, Trees, no_trees, tree, tree_of}
use Rattle.service_verify.specs.Rules.{levels_above}

-- of maps the empty one alone is written
abbrev pub IsLiteral : Value → Type 0
IsLiteral (v.Map m) = m ≡ []
IsLiteral _ = Unit {0}

-- a method that is there, of this class, with these parameters and this result
pub record IsMethod (methods : List Method) (class number : ℕ) (result : Option Kind) : Type 0 where
  pub method : Method
  pub is_there : slice_get methods number ≡ Some method
  pub class_is : method.class.0 ≡ class
  pub result_is : method.result ≡ result

-- a class whose contexts are children of this one's
abbrev pub IsChild : Shape → ℕ → ℕ → Type 0
IsChild shape class child = is_child_class shape class child ≡ true

-- what a statement stands in: a method or an event, and the kind that it gives, if any
pub data Within : Type 0 where
  InMethod InEvent : Option Kind → Within

-- statements behind one that surely ends, or not: none, where it does
abbrev pub NoneBehind : Bool → Steps → Type 0
NoneBehind true (step s ss) = ⊥
NoneBehind _ _ = Unit {0}

-- in a function that may call the methods of lower numbers than this one as its own
module _ (shape : Shape) (methods : List Method) (limit : ℕ) (locals : List Kind) where
  module _ (class : ℕ) where
    abbrev mutual
      pub HasKind : Tree → Kind → Type 0
      HasKind (Const at literal) kind = (kind_of literal ≡ kind) × IsLiteral literal
      HasKind (Local at slot) kind = slice_get locals slot ≡ Some kind
      HasKind (Field at f) kind = slice_get (kinds_of_class shape class) f ≡ Some kind
      HasKind (Above at level f) kind = (c : ℕ) × (slice_get (levels_above shape class) level ≡ Some c) × (slice_get (kinds_of_class shape c) f ≡ Some kind)
      HasKind (Op at row args) kind = (row < OPERATORS) × (gives_of row ≡ kind) × HaveKinds args (takes_of row)
      HasKind (And at a b) kind = (k.Bool ≡ kind) × HasKind a k.Bool × HasKind b k.Bool
      HasKind (Or at a b) kind = (k.Bool ≡ kind) × HasKind a k.Bool × HasKind b k.Bool
      HasKind (Call at m args) kind = (m < limit) × ((is : IsMethod methods class m (Some kind)) × HaveKinds args is.method.params)
      HasKind (Child at c m key args) kind = IsChild shape class c × HasKind key k.Int × ((is : IsMethod methods c m (Some kind)) × HaveKinds args is.method.params)

      pub HaveKinds : Trees → List Kind → Type 0
      HaveKinds no_trees [] = Unit {0}
      HaveKinds no_trees (kind ∷ kinds) = ⊥
      HaveKinds (tree t ts) [] = ⊥
      HaveKinds (tree t ts) (kind ∷ kinds) = HasKind t kind × HaveKinds ts kinds

    -- a call of a method without a result
    abbrev pub IsSilent : Tree → Type 0
    IsSilent (Call at m args) = (m < limit) × ((is : IsMethod methods class m None) × HaveKinds args is.method.params)
    IsSilent (Child at c m key args) = IsChild shape class c × HasKind key k.Int × ((is : IsMethod methods c m None) × HaveKinds args is.method.params)
    IsSilent _ = ⊥

    -- a value is given where one is due, and there alone
    abbrev pub Gives : Option Kind → Option Tree → Type 0
    Gives None None = Unit {0}
    Gives (Some kind) (Some e) = HasKind e kind
    Gives _ _ = ⊥

    abbrev pub IsTypedReturn : Within → Option Tree → Type 0
    IsTypedReturn (InMethod result) e = Gives result e
    IsTypedReturn (InEvent reply) e = ⊥

    abbrev pub IsTypedFinish : Within → Option Tree → Type 0
    IsTypedFinish (InMethod result) e = ⊥
    IsTypedFinish (InEvent reply) e = Gives reply e

    module _ (within : Within) where
      abbrev mutual
        pub IsTypedStep : Step → Type 0
        IsTypedStep (SetLocal at slot e) = (kind : Kind) × (slice_get locals slot ≡ Some kind) × HasKind e kind
        IsTypedStep (SetField at f e) = (kind : Kind) × (slice_get (kinds_of_class shape class) f ≡ Some kind) × HasKind e kind
        IsTypedStep (PutLocal at slot key e) = (slice_get locals slot ≡ Some k.Map) × HasKind key k.Int × HasKind e k.Int
        IsTypedStep (PutField at f key e) = (slice_get (kinds_of_class shape class) f ≡ Some k.Map) × HasKind key k.Int × HasKind e k.Int
        IsTypedStep (CutLocal at slot key) = (slice_get locals slot ≡ Some k.Map) × HasKind key k.Int
        IsTypedStep (CutField at f key) = (slice_get (kinds_of_class shape class) f ≡ Some k.Map) × HasKind key k.Int
        IsTypedStep (If at test body other) = HasKind test k.Bool × AreTyped body × IsTypedElse other
        IsTypedStep (While at test body) = HasKind test k.Bool × AreTyped body
        IsTypedStep (For at counter from to body) =
            (slice_get locals counter ≡ Some k.Int) × (slice_get locals (counter + 1) ≡ Some k.Int) × (slice_get locals (counter + 2) ≡ Some k.Int)
            × HasKind from k.Int × HasKind to k.Int × AreTyped body
        IsTypedStep (Require at test) = HasKind test k.Bool
        IsTypedStep (Send at label e) = (kind : Kind) × HasKind e kind
        IsTypedStep (Spawn at event args) = (info : EventInfo) × (slice_get shape.events event ≡ Some info) × HaveKinds args info.params
        IsTypedStep (Do at e) = ((kind : Kind) × HasKind e kind) ⊎ IsSilent e
        IsTypedStep (Return at e) = IsTypedReturn within e
        IsTypedStep (Finish at e) = IsTypedFinish within e

        pub AreTyped : Steps → Type 0
        AreTyped no_steps = Unit {0}
        AreTyped (step s ss) = IsTypedStep s × AreTyped ss × NoneBehind (is_end s) ss

        pub IsTypedElse : Else → Type 0
        IsTypedElse no_else = Unit {0}
        IsTypedElse (otherwise ss) = AreTyped ss

    -- behind statements that surely end no value stands, and none is due; else one stands where one is due, and there alone
    abbrev pub IsTypedLast : Bool → Option Kind → Option Last → Type 0
    IsTypedLast ended None None = Unit {0}
    IsTypedLast true (Some kind) None = Unit {0}
    IsTypedLast false (Some kind) (Some last) = HasKind (tree_of last.value) kind
    IsTypedLast _ _ _ = ⊥

  -- phases that go on from a class, behind one that surely ends, or not; and the reply, which belongs to the last
  abbrev pub AreTypedPhases : ℕ → Bool → List Phase → Option Kind → Option Last → Type 0
  AreTypedPhases class ended [] reply last = IsTypedLast class ended reply last
  AreTypedPhases class true (f ∷ fs) reply last = ⊥
  AreTypedPhases class false (f ∷ fs) reply last =
      IsChild shape class f.class.0 × HasKind class (tree_of f.key) k.Int × AreTyped f.class.0 (InEvent reply) (steps_in f.body)
      × AreTypedPhases f.class.0 (surely_ends (steps_in f.body)) fs reply last

-- a method with this number: it calls methods of lower numbers as its own
pub record IsTypedMethod (shape : Shape) (methods : List Method) (number : ℕ) (m : Method) : Type 0 where
  pub class : m.class.0 < length shape.classes
  pub locals : (more : List Kind) × (m.locals ≡ m.params ++ more)
  pub body : AreTyped shape methods number m.locals m.class.0 (InMethod m.result) (steps_in m.body)
  pub last : IsTypedLast shape methods number m.locals m.class.0 (surely_ends (steps_in m.body)) m.result m.last

-- an event, which the shape tells more of
pub record IsTypedEvent (shape : Shape) (methods : List Method) (info : EventInfo) (e : Event) : Type 0 where
  pub locals : (more : List Kind) × (e.locals ≡ info.params ++ more)
  pub here : AreTyped shape methods (length methods) e.locals 0 (InEvent info.reply) (steps_in e.here)
  pub phases : AreTypedPhases shape methods (length methods) e.locals 0 (surely_ends (steps_in e.here)) e.phases info.reply e.last

pub record IsTyped (shape : Shape) (service : Resolved) : Type 0 where
  pub shape_is : IsShape shape
  pub methods : (n : ℕ) (m : Method) → slice_get service.methods n ≡ Some m → IsTypedMethod shape service.methods n m
  pub count : length service.events ≡ length shape.events
  pub events : (n : ℕ) (info : EventInfo) (e : Event) → slice_get shape.events n ≡ Some info → slice_get service.events n ≡ Some e → IsTypedEvent shape service.methods info e
