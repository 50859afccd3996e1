-- The greatest height of a function's stack.
use Rattle.std.specs.Prelude.{ℕ, suc, max, Bool, true, false, List, [], ◌∷◌, Option, Some, None}
use Rattle.resolved_service.specs.declared.service.Event.{Event}
use Rattle.resolved_service.specs.declared.service.Last.{Last}
use Rattle.resolved_service.specs.declared.service.Method.{Method}
use Rattle.resolved_service.specs.declared.service.Phase.{Phase}
use Rattle.resolved_service.specs.Steps.{Step, SetLocal, SetField, PutLocal, PutField, CutLocal, CutField, If, While, For, Require, Send, Spawn, Do, Return, Finish, Steps, no_steps, step, Else, no_else, otherwise, steps_in}
use Rattle.resolved_service.specs.View.{Tree, Const, Local, Field, Above, Op, And, Or, Call, Child, Trees, no_trees, tree, tree_of}
use Rattle.code_scheme.specs.Scheme.{leaves_value}

abbrev pub one_if : Bool → ℕ
one_if true = 1
one_if false = 0

-- above where it begins: operands lie on one another, and the value takes the place of the first
module _ (methods : List Method) where
  abbrev mutual
    pub tree_height : Tree → ℕ
    tree_height (Const at literal) = 1
    tree_height (Local at slot) = 1
    tree_height (Field at f) = 1
    tree_height (Above at level f) = 1
    tree_height (Op at row args) = max (trees_height args) 1
    tree_height (And at a b) = max (tree_height a) (max (tree_height b) 1)
    tree_height (Or at a b) = max (tree_height a) (max (tree_height b) 1)
    tree_height (Call at method args) = max (trees_height args) (one_if (leaves_value methods (Call at method args)))
    tree_height (Child at class method key args) = max (tree_height key) (max (suc (trees_height args)) (one_if (leaves_value methods (Child at class method key args))))

    pub trees_height : Trees → ℕ
    trees_height no_trees = 0
    trees_height (tree t ts) = max (tree_height t) (suc (trees_height ts))

  abbrev pub maybe_height : Option Tree → ℕ
  maybe_height None = 0
  maybe_height (Some e) = tree_height e

  abbrev mutual
    pub step_height : Step → ℕ
    step_height (SetLocal at slot e) = tree_height e
    step_height (SetField at f e) = tree_height e
    step_height (PutLocal at slot key e) = max (tree_height key) (suc (tree_height e))
    step_height (PutField at f key e) = max (tree_height key) (suc (tree_height e))
    step_height (CutLocal at slot key) = tree_height key
    step_height (CutField at f key) = tree_height key
    step_height (If at test body other) = max (tree_height test) (max (steps_height body) (else_height other))
    step_height (While at test body) = max (tree_height test) (steps_height body)
    step_height (For at counter from to body) = max (tree_height from) (max (tree_height to) (max 2 (steps_height body)))
    step_height (Require at e) = tree_height e
    step_height (Send at label e) = tree_height e
    step_height (Spawn at event args) = trees_height args
    step_height (Do at e) = tree_height e
    step_height (Return at e) = maybe_height e
    step_height (Finish at e) = maybe_height e

    pub steps_height : Steps → ℕ
    steps_height no_steps = 0
    steps_height (step s ss) = max (step_height s) (steps_height ss)

    pub else_height : Else → ℕ
    else_height no_else = 0
    else_height (otherwise ss) = steps_height ss

  abbrev pub last_height : Option Last → ℕ
  last_height None = 0
  last_height (Some last) = tree_height (tree_of last.value)

  unfoldable pub method_height : Method → ℕ
  method_height m = max (steps_height (steps_in m.body)) (last_height m.last)

  abbrev pub phases_height : List Phase → ℕ
  phases_height [] = 0
  phases_height (f ∷ fs) = max (tree_height (tree_of f.key)) (max (steps_height (steps_in f.body)) (phases_height fs))

  unfoldable pub event_height : Event → ℕ
  event_height e = max (steps_height (steps_in e.here)) (max (phases_height e.phases) (last_height e.last))
