-- What is left to do gets less.
use Rattle.std.proofs.Common.{◌≡◌, ℕ, zero, suc, ◌+◌, ◌*◌, ◌≤◌, ◌<◌, List, [], ◌∷◌, Some, sym, subst, arith}
use Rattle.std.specs.Prelude.{slice_get}
use Rattle.std.proofs.lemmas.Nat.{mul-le}
use Rattle.resolved_service.specs.declared.service.Method.{Method}
use Rattle.resolved_service.specs.Steps as s
use Rattle.resolved_service.specs.Steps.{Step, Steps, no_steps, step, Else, no_else, otherwise, steps_in}
use Rattle.resolved_service.specs.View as r
use Rattle.resolved_service.specs.View.{Tree, Trees, no_trees, tree, tree_of}
use Rattle.service_eval.specs.inner.Items as i
use Rattle.service_eval.specs.inner.Items.{Item, Eval, Evals, Apply, AndThen, OrElse, Invoke, Child, Block, Begin, Finish, Turns, Check, Counts, Again, Return, End, Branch}
use Rattle.service_eval.specs.inner.Machines.{Mach}
use Rattle.service_eval.specs.inner.Weight.{tree_weight, turns_weight, step_weight, steps_weight, else_weight, item_weight, items_weight, last_weight, methods_weight, load}

pub tree_weighs : (t : Tree) → 0 < tree_weight t
tree_weighs (r.Const at v) = omega arith
tree_weighs (r.Local at slot) = omega arith
tree_weighs (r.Field at f) = omega arith
tree_weighs (r.Above at level f) = omega arith
tree_weighs (r.Op at row args) = omega arith
tree_weighs (r.And at a b) = omega arith
tree_weighs (r.Or at a b) = omega arith
tree_weighs (r.Call at m args) = omega arith
tree_weighs (r.Child at c m key args) = omega arith

-- with fewer ticks all weighs less
module _ (few ticks : ℕ) (fewer : few ≤ ticks) where
  turns_less : (test : ℕ) (body more : ℕ) → body ≤ more → turns_weight few test body ≤ turns_weight ticks test more
  turns_less test body more h = omega (arith, mul-le few (3 + (test + body)) ticks (3 + (test + more)) fewer (omega arith))

  mutual
    pub step_less : (first : Step) → step_weight few first ≤ step_weight ticks first
    step_less (s.SetLocal at slot e) = omega arith
    step_less (s.SetField at f e) = omega arith
    step_less (s.PutLocal at slot k e) = omega arith
    step_less (s.PutField at f k e) = omega arith
    step_less (s.CutLocal at slot k) = omega arith
    step_less (s.CutField at f k) = omega arith
    step_less (s.If at test body other) = omega (arith, steps_less body, else_less other)
    step_less (s.While at test body) = omega (arith, turns_less (tree_weight test) (steps_weight few body) (steps_weight ticks body) (steps_less body))
    step_less (s.For at counter from to body) = omega (arith, turns_less 0 (steps_weight few body) (steps_weight ticks body) (steps_less body))
    step_less (s.Require at e) = omega arith
    step_less (s.Send at label e) = omega arith
    step_less (s.Spawn at event args) = omega arith
    step_less (s.Do at e) = omega arith
    step_less (s.Return at value) = omega arith
    step_less (s.Finish at value) = omega arith

    pub steps_less : (steps : Steps) → steps_weight few steps ≤ steps_weight ticks steps
    steps_less no_steps = omega arith
    steps_less (step first others) = omega (arith, step_less first, steps_less others)

    pub else_less : (other : Else) → else_weight few other ≤ else_weight ticks other
    else_less no_else = omega arith
    else_less (otherwise steps) = steps_less steps

  end_less : (at : _) (what : End) (base : ℕ) → item_weight few (Finish at what base) ≤ item_weight ticks (Finish at what base)
  end_less at (Branch body other) base = omega (arith, steps_less body, steps_less other)
  end_less at (i.SetLocal slot) base = omega arith
  end_less at (i.SetField f) base = omega arith
  end_less at (i.PutLocal slot) base = omega arith
  end_less at (i.PutField f) base = omega arith
  end_less at (i.CutLocal slot) base = omega arith
  end_less at (i.CutField f) base = omega arith
  end_less at i.Require base = omega arith
  end_less at (i.Send label) base = omega arith
  end_less at (i.Spawn event) base = omega arith
  end_less at i.Drop base = omega arith
  end_less at i.Returns base = omega arith
  end_less at i.Finishes base = omega arith

  item_less : (item : Item) → item_weight few item ≤ item_weight ticks item
  item_less (Eval t) = omega arith
  item_less (Evals ts) = omega arith
  item_less (Apply at row base) = omega arith
  item_less (AndThen right base) = omega arith
  item_less (OrElse right base) = omega arith
  item_less (Invoke at method base) = omega arith
  item_less (Child at class method base) = omega arith
  item_less (Block steps) = omega (arith, steps_less steps)
  item_less (Begin first) = step_less first
  item_less (Finish at what base) = end_less at what base
  item_less (Turns at test body) = omega (arith, turns_less (tree_weight test) (steps_weight few body) (steps_weight ticks body) (steps_less body))
  item_less (Check at test body base) = turns_less (tree_weight test) (steps_weight few body) (steps_weight ticks body) (steps_less body)
  item_less (Counts at counter body) = turns_less 0 (steps_weight few body) (steps_weight ticks body) (steps_less body)
  item_less (Again at counter body) = omega (arith, turns_less 0 (steps_weight few body) (steps_weight ticks body) (steps_less body))
  item_less (Return locals values up) = omega arith

  pub items_less : (items : List Item) → items_weight few items ≤ items_weight ticks items
  items_less [] = omega arith
  items_less (item ∷ items) = omega (arith, item_less item, items_less items)

  pub methods_less : (methods : List Method) → methods_weight few methods ≤ methods_weight ticks methods
  methods_less [] = omega arith
  methods_less (m ∷ methods) = omega (arith, steps_less (steps_in m.body), methods_less methods)

-- the same methods, with as many ticks or fewer: less is left to do where the items weigh less
pub lighter : (methods : List Method) (before after : Mach) → after.state.world.ticks ≤ before.state.world.ticks → items_weight before.state.world.ticks after.items < items_weight before.state.world.ticks before.items → load methods after < load methods before
unfolding load
lighter methods before after fewer less =
    let few = after.state.world.ticks in
    let ticks = before.state.world.ticks in
    omega (arith, mul-le few (methods_weight few methods) ticks (methods_weight ticks methods) fewer (methods_less few ticks fewer methods), items_less few ticks fewer after.items, less)

pub no_heavier : (methods : List Method) (before after : Mach) → after.state.world.ticks ≤ before.state.world.ticks → items_weight before.state.world.ticks after.items ≤ items_weight before.state.world.ticks before.items → load methods after ≤ load methods before
unfolding load
no_heavier methods before after fewer less =
    let few = after.state.world.ticks in
    let ticks = before.state.world.ticks in
    omega (arith, mul-le few (methods_weight few methods) ticks (methods_weight ticks methods) fewer (methods_less few ticks fewer methods), items_less few ticks fewer after.items, less)

-- a tick was taken: for it a method's items may come
pub lighter_ticked : (methods : List Method) (before after : Mach) (few : ℕ) → before.state.world.ticks ≡ suc few → after.state.world.ticks ≡ few → items_weight few after.items < methods_weight few methods + items_weight (suc few) before.items → load methods after < load methods before
unfolding load
lighter_ticked methods before after few is became less =
    subst (λ t. load methods after < t * methods_weight t methods + items_weight t before.items) (sym is)
    (subst (λ t. t * methods_weight t methods + items_weight t after.items < suc few * methods_weight (suc few) methods + items_weight (suc few) before.items) (sym became)
    (let W = methods_weight few methods in
    let more = mul-le (suc few) W (suc few) (methods_weight (suc few) methods) (omega arith) (methods_less few (suc few) (omega arith) methods) in
    let one : suc few * W ≡ W + few * W = omega arith in
    omega (arith, more, one, less)))

-- what a call of a method comes to weighs no more than all
pub method_weighs : (ticks : ℕ) (methods : List Method) (number : ℕ) (m : Method) → slice_get methods number ≡ Some m → 2 + (steps_weight ticks (steps_in m.body) + last_weight ticks m.last) ≤ methods_weight ticks methods
method_weighs ticks [] number m is = cc
method_weighs ticks (x ∷ methods) zero m is =
    let same : x ≡ m = cc in
    subst (λ (m : Method). 2 + (steps_weight ticks (steps_in m.body) + last_weight ticks m.last) ≤ methods_weight ticks (x ∷ methods)) same (omega arith)
method_weighs ticks (x ∷ methods) (suc number) m is = omega (arith, method_weighs ticks methods number m is)

-- a turn of a loop, for a tick
pub turn_weighs : (few : ℕ) (test : ℕ) (body : Steps) → 2 + (steps_weight few body + (test + turns_weight few test (steps_weight few body))) < turns_weight (suc few) test (steps_weight (suc few) body)
turn_weighs few test body =
    let b = steps_weight few body in
    let more = mul-le (suc few) (3 + (test + b)) (suc few) (3 + (test + steps_weight (suc few) body)) (omega arith) (omega (arith, steps_less few (suc few) (omega arith) body)) in
    let one : suc few * (3 + (test + b)) ≡ (3 + (test + b)) + few * (3 + (test + b)) = omega arith in
    omega (arith, more, one)
