-- How much is left to do: each turn leaves less of it. What loops and calls may do goes by the ticks that are left.
use Rattle.std.specs.Prelude.{ℕ, ◌+◌, ◌*◌, List, [], ◌∷◌, Option, Some, None}
use Rattle.resolved_service.specs.declared.service.Last.{Last}
use Rattle.resolved_service.specs.declared.service.Method.{Method}
use Rattle.resolved_service.specs.Steps as s
use Rattle.resolved_service.specs.Steps.{Step, Steps, no_steps, step, Else, no_else, otherwise, steps_in}
use Rattle.resolved_service.specs.View as r
use Rattle.resolved_service.specs.View.{Tree, Trees, no_trees, tree, tree_of}
use Rattle.service_eval.specs.inner.Items.{Branch, Item, Eval, Evals, AndThen, OrElse, Block, Begin, Finish, Turns, Check, Counts, Again}
use Rattle.service_eval.specs.inner.Machines.{Mach}

-- an expression: more than its parts and what is done with their values
abbrev mutual
  pub tree_weight : Tree → ℕ
  tree_weight (r.Op at row args) = 3 + trees_weight args
  tree_weight (r.And at a b) = 2 + (tree_weight a + tree_weight b)
  tree_weight (r.Or at a b) = 2 + (tree_weight a + tree_weight b)
  tree_weight (r.Call at m args) = 3 + trees_weight args
  tree_weight (r.Child at c m key args) = 3 + (tree_weight key + trees_weight args)
  tree_weight _ = 1

  pub trees_weight : Trees → ℕ
  trees_weight no_trees = 0
  trees_weight (tree t ts) = 1 + (tree_weight t + trees_weight ts)

abbrev pub maybe_weight : Option Tree → ℕ
maybe_weight None = 0
maybe_weight (Some e) = tree_weight e

-- a loop whose test has its value: each turn takes a tick, and has the body and the next test
abbrev pub turns_weight : (ticks test body : ℕ) → ℕ
turns_weight ticks test body = 1 + ticks * (3 + (test + body))

module _ (ticks : ℕ) where
  abbrev mutual
    -- a statement: more than its expressions and what is done with their values
    pub step_weight : Step → ℕ
    step_weight (s.SetLocal at slot e) = 2 + tree_weight e
    step_weight (s.SetField at f e) = 2 + tree_weight e
    step_weight (s.PutLocal at slot k e) = 2 + (tree_weight k + tree_weight e)
    step_weight (s.PutField at f k e) = 2 + (tree_weight k + tree_weight e)
    step_weight (s.CutLocal at slot k) = 2 + tree_weight k
    step_weight (s.CutField at f k) = 2 + tree_weight k
    step_weight (s.If at test body other) = 4 + (tree_weight test + (steps_weight body + else_weight other))
    step_weight (s.While at test body) = 2 + (tree_weight test + turns_weight ticks (tree_weight test) (steps_weight body))
    step_weight (s.For at counter from to body) = 3 + (tree_weight from + (tree_weight to + turns_weight ticks 0 (steps_weight body)))
    step_weight (s.Require at e) = 2 + tree_weight e
    step_weight (s.Send at label e) = 2 + tree_weight e
    step_weight (s.Spawn at event args) = 3 + trees_weight args
    step_weight (s.Do at e) = 2 + tree_weight e
    step_weight (s.Return at value) = 2 + maybe_weight value
    step_weight (s.Finish at value) = 2 + maybe_weight value

    pub steps_weight : Steps → ℕ
    steps_weight no_steps = 0
    steps_weight (step first others) = 1 + (step_weight first + steps_weight others)

    pub else_weight : Else → ℕ
    else_weight no_else = 0
    else_weight (otherwise steps) = steps_weight steps

  abbrev pub item_weight : Item → ℕ
  item_weight (Eval t) = tree_weight t
  item_weight (Evals ts) = 1 + trees_weight ts
  item_weight (AndThen right base) = 1 + tree_weight right
  item_weight (OrElse right base) = 1 + tree_weight right
  item_weight (Block steps) = 1 + steps_weight steps
  item_weight (Begin first) = step_weight first
  item_weight (Finish at (Branch body other) base) = 3 + (steps_weight body + steps_weight other)
  item_weight (Turns at test body) = 1 + (tree_weight test + turns_weight ticks (tree_weight test) (steps_weight body))
  item_weight (Check at test body base) = turns_weight ticks (tree_weight test) (steps_weight body)
  item_weight (Counts at counter body) = turns_weight ticks 0 (steps_weight body)
  item_weight (Again at counter body) = 1 + turns_weight ticks 0 (steps_weight body)
  item_weight _ = 1

  abbrev pub items_weight : List Item → ℕ
  items_weight [] = 0
  items_weight (item ∷ items) = item_weight item + items_weight items

  abbrev pub last_weight : Option Last → ℕ
  last_weight None = 0
  last_weight (Some last) = tree_weight (tree_of last.value)

  -- a call of one of the methods, whichever: its statements, its value and its return
  abbrev pub methods_weight : List Method → ℕ
  methods_weight [] = 0
  methods_weight (m ∷ methods) = 2 + (steps_weight (steps_in m.body) + last_weight m.last) + methods_weight methods

-- each tick may be that of a call
unfoldable pub load : List Method → Mach → ℕ
load methods m = m.state.world.ticks * methods_weight m.state.world.ticks methods + items_weight m.state.world.ticks m.items
