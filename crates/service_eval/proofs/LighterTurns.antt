-- What each turn leaves to do weighs less than what it did.
use Rattle.std.proofs.Common.{◌≡◌, ℕ, suc, ◌+◌, ◌≤◌, ◌<◌, Bool, List, [], ◌∷◌, Option, Some, None, refl, ap, arith}
use Rattle.std.specs.Prelude.{slice_get}
use Rattle.wave_base.specs.declared.path.Path.{Path}
use Rattle.wave_base.specs.declared.span.Span.{Span}
use Rattle.wave_base.specs.declared.value.Value.{Value}
use Rattle.resolved_service.specs.declared.service.Last.{Last}
use Rattle.resolved_service.specs.declared.service.Method.{Method}
use Rattle.resolved_service.specs.Meaning.{State}
use Rattle.resolved_service.specs.Steps as s
use Rattle.resolved_service.specs.Steps.{Step, Steps, step, Else}
use Rattle.resolved_service.specs.View.{Tree, Trees, no_trees, tree, Op, And, Or, Call as CallOf, Child as ChildOf}
use Rattle.service_eval.specs.declared.work.Caller.{Caller}
use Rattle.service_eval.specs.inner.Items as i
use Rattle.service_eval.specs.inner.Items.{Item, Eval, Evals, Apply, AndThen, OrElse, Invoke, Child, Block, Begin, Finish, Turns, Check, Counts, Again, Return, End, Branch, else_steps, return_of, to_return}
use Rattle.service_eval.specs.inner.Machines.{Mach, on_top, with_value, cut_to, in_state, back_to, method_start, with_last}
use Rattle.service_eval.specs.inner.Weight.{tree_weight, step_weight, item_weight, items_weight, last_weight, methods_weight, load}
use Rattle.service_eval.proofs.ElseLemmas.{else_weighs}
use Rattle.service_eval.proofs.WeightLemmas.{tree_weighs, items_less, lighter, no_heavier, lighter_ticked, method_weighs, turn_weighs}

end_weighs : (ticks : ℕ) (at : Span) (what : End) (base : ℕ) → 0 < item_weight ticks (Finish at what base)
end_weighs ticks at (Branch body other) base = omega arith
end_weighs ticks at (i.SetLocal slot) base = omega arith
end_weighs ticks at (i.SetField f) base = omega arith
end_weighs ticks at (i.PutLocal slot) base = omega arith
end_weighs ticks at (i.PutField f) base = omega arith
end_weighs ticks at (i.CutLocal slot) base = omega arith
end_weighs ticks at (i.CutField f) base = omega arith
end_weighs ticks at i.Require base = omega arith
end_weighs ticks at (i.Send label) base = omega arith
end_weighs ticks at (i.Spawn event) base = omega arith
end_weighs ticks at i.Drop base = omega arith
end_weighs ticks at i.Returns base = omega arith
end_weighs ticks at i.Finishes base = omega arith

-- what is left behind a method that ends early
pub return_weighs : (ticks : ℕ) (items : List Item) → items_weight ticks (to_return items) ≤ items_weight ticks items
return_weighs ticks [] = omega arith
return_weighs ticks (Return locals below up ∷ items) = omega arith
return_weighs ticks (Eval t ∷ items) = omega (arith, return_weighs ticks items)
return_weighs ticks (Evals ts ∷ items) = omega (arith, return_weighs ticks items)
return_weighs ticks (Apply at row base ∷ items) = omega (arith, return_weighs ticks items)
return_weighs ticks (AndThen right base ∷ items) = omega (arith, return_weighs ticks items)
return_weighs ticks (OrElse right base ∷ items) = omega (arith, return_weighs ticks items)
return_weighs ticks (Invoke at method base ∷ items) = omega (arith, return_weighs ticks items)
return_weighs ticks (Child at class method base ∷ items) = omega (arith, return_weighs ticks items)
return_weighs ticks (Block steps ∷ items) = omega (arith, return_weighs ticks items)
return_weighs ticks (Begin first ∷ items) = omega (arith, return_weighs ticks items)
return_weighs ticks (Finish at what base ∷ items) = omega (arith, return_weighs ticks items)
return_weighs ticks (Turns at test body ∷ items) = omega (arith, return_weighs ticks items)
return_weighs ticks (Check at test body base ∷ items) = omega (arith, return_weighs ticks items)
return_weighs ticks (Counts at counter body ∷ items) = omega (arith, return_weighs ticks items)
return_weighs ticks (Again at counter body ∷ items) = omega (arith, return_weighs ticks items)

module _ (methods : List Method) (m : Mach) where
  abbrev left : Mach → ℕ
  left m = load methods m

  -- ---- expressions

  pub and_lighter : (at : Span) (a b : Tree) (base : ℕ) → left (on_top (Eval a) (on_top (AndThen b base) m)) < left (on_top (Eval (And at a b)) m)
  and_lighter at a b base = lighter methods (on_top (Eval (And at a b)) m) (on_top (Eval a) (on_top (AndThen b base) m)) (omega arith) (omega arith)

  pub or_lighter : (at : Span) (a b : Tree) (base : ℕ) → left (on_top (Eval a) (on_top (OrElse b base) m)) < left (on_top (Eval (Or at a b)) m)
  or_lighter at a b base = lighter methods (on_top (Eval (Or at a b)) m) (on_top (Eval a) (on_top (OrElse b base) m)) (omega arith) (omega arith)

  pub op_lighter : (at : Span) (row : ℕ) (ts : Trees) (base : ℕ) → left (on_top (Evals ts) (on_top (Apply at row base) m)) < left (on_top (Eval (Op at row ts)) m)
  op_lighter at row ts base = lighter methods (on_top (Eval (Op at row ts)) m) (on_top (Evals ts) (on_top (Apply at row base) m)) (omega arith) (omega arith)

  pub call_lighter : (at : Span) (method : ℕ) (ts : Trees) (base : ℕ) → left (on_top (Evals ts) (on_top (Invoke at method base) m)) < left (on_top (Eval (CallOf at method ts)) m)
  call_lighter at method ts base = lighter methods (on_top (Eval (CallOf at method ts)) m) (on_top (Evals ts) (on_top (Invoke at method base) m)) (omega arith) (omega arith)

  pub child_lighter : (at : Span) (class method : ℕ) (key : Tree) (ts : Trees) (base : ℕ) → left (on_top (Eval key) (on_top (Evals ts) (on_top (Child at class method base) m))) < left (on_top (Eval (ChildOf at class method key ts)) m)
  child_lighter at class method key ts base = lighter methods (on_top (Eval (ChildOf at class method key ts)) m) (on_top (Eval key) (on_top (Evals ts) (on_top (Child at class method base) m))) (omega arith) (omega arith)

  pub first_lighter : (t : Tree) (ts : Trees) → left (on_top (Eval t) (on_top (Evals ts) m)) < left (on_top (Evals (tree t ts)) m)
  first_lighter t ts = lighter methods (on_top (Evals (tree t ts)) m) (on_top (Eval t) (on_top (Evals ts) m)) (omega arith) (omega arith)

  pub none_lighter : left m < left (on_top (Evals no_trees) m)
  none_lighter = lighter methods (on_top (Evals no_trees) m) m (omega arith) (omega arith)

  pub found_lighter : (t : Tree) (v : Value) → left (with_value v m) < left (on_top (Eval t) m)
  found_lighter t v = lighter methods (on_top (Eval t) m) (with_value v m) (omega arith) (omega (arith, tree_weighs t))

  pub applied_lighter : (at : Span) (row base : ℕ) (v : Value) → left (with_value v (cut_to base m)) < left (on_top (Apply at row base) m)
  applied_lighter at row base v = lighter methods (on_top (Apply at row base) m) (with_value v (cut_to base m)) (omega arith) (omega arith)

  pub and_chosen : (right : Tree) (base : ℕ) → left (on_top (Eval right) (cut_to base m)) < left (on_top (AndThen right base) m)
  and_chosen right base = lighter methods (on_top (AndThen right base) m) (on_top (Eval right) (cut_to base m)) (omega arith) (omega arith)

  pub or_chosen : (right : Tree) (base : ℕ) → left (on_top (Eval right) (cut_to base m)) < left (on_top (OrElse right base) m)
  or_chosen right base = lighter methods (on_top (OrElse right base) m) (on_top (Eval right) (cut_to base m)) (omega arith) (omega arith)

  pub and_given : (right : Tree) (base : ℕ) (v : Value) → left (with_value v (cut_to base m)) < left (on_top (AndThen right base) m)
  and_given right base v = lighter methods (on_top (AndThen right base) m) (with_value v (cut_to base m)) (omega arith) (omega arith)

  pub or_given : (right : Tree) (base : ℕ) (v : Value) → left (with_value v (cut_to base m)) < left (on_top (OrElse right base) m)
  or_given right base v = lighter methods (on_top (OrElse right base) m) (with_value v (cut_to base m)) (omega arith) (omega arith)

  -- ---- statements

  pub block_done : (steps : Steps) → left m < left (on_top (Block steps) m)
  block_done steps = lighter methods (on_top (Block steps) m) m (omega arith) (omega arith)

  pub last_lighter : (first : Step) (others : Steps) → left (on_top (Begin first) m) < left (on_top (Block (step first others)) m)
  last_lighter first others = lighter methods (on_top (Block (step first others)) m) (on_top (Begin first) m) (omega arith) (omega arith)

  pub parts_lighter : (first : Step) (others : Steps) → left (on_top (Begin first) (on_top (Block others) m)) ≤ left (on_top (Block (step first others)) m)
  parts_lighter first others = no_heavier methods (on_top (Block (step first others)) m) (on_top (Begin first) (on_top (Block others) m)) (omega arith) (omega arith)

  pub once_lighter : (first : Step) (others : Steps) (st : State) → st.world.ticks ≤ m.state.world.ticks → left (on_top (Block others) (in_state st m)) ≤ left (on_top (Block (step first others)) m)
  once_lighter first others st fewer = no_heavier methods (on_top (Block (step first others)) m) (on_top (Block others) (in_state st m)) fewer (omega arith)

  pub finished_lighter : (at : Span) (what : End) (base : ℕ) (st : State) → st.world.ticks ≤ m.state.world.ticks → left (in_state st (cut_to base m)) < left (on_top (Finish at what base) m)
  finished_lighter at what base st fewer = lighter methods (on_top (Finish at what base) m) (in_state st (cut_to base m)) fewer (omega (arith, end_weighs m.state.world.ticks at what base))

  pub true_lighter : (at : Span) (body other : Steps) (base : ℕ) → left (on_top (Block body) (cut_to base m)) < left (on_top (Finish at (Branch body other) base) m)
  true_lighter at body other base = lighter methods (on_top (Finish at (Branch body other) base) m) (on_top (Block body) (cut_to base m)) (omega arith) (omega arith)

  pub false_lighter : (at : Span) (body other : Steps) (base : ℕ) → left (on_top (Block other) (cut_to base m)) < left (on_top (Finish at (Branch body other) base) m)
  false_lighter at body other base = lighter methods (on_top (Finish at (Branch body other) base) m) (on_top (Block other) (cut_to base m)) (omega arith) (omega arith)

  pub if_lighter : (at : Span) (test : Tree) (body : Steps) (other : Else) (base : ℕ) → left (on_top (Eval test) (on_top (Finish at (Branch body (else_steps other)) base) m)) < left (on_top (Begin (s.If at test body other)) m)
  if_lighter at test body other base =
      lighter methods (on_top (Begin (s.If at test body other)) m) (on_top (Eval test) (on_top (Finish at (Branch body (else_steps other)) base) m)) (omega arith) (omega (arith, else_weighs m.state.world.ticks other))

  pub one_lighter : (first : Step) (e : Tree) (at : Span) (what : End) (base : ℕ) → ((ticks : ℕ) → step_weight ticks first ≡ 2 + tree_weight e) → ((ticks : ℕ) → item_weight ticks (Finish at what base) ≡ 1) → left (on_top (Eval e) (on_top (Finish at what base) m)) < left (on_top (Begin first) m)
  one_lighter first e at what base is one =
      lighter methods (on_top (Begin first) m) (on_top (Eval e) (on_top (Finish at what base) m)) (omega arith) (omega (arith, is m.state.world.ticks, one m.state.world.ticks))

  pub two_lighter : (first : Step) (a b : Tree) (at : Span) (what : End) (base : ℕ) → ((ticks : ℕ) → step_weight ticks first ≡ 2 + (tree_weight a + tree_weight b)) → ((ticks : ℕ) → item_weight ticks (Finish at what base) ≡ 1) → left (on_top (Eval a) (on_top (Eval b) (on_top (Finish at what base) m))) < left (on_top (Begin first) m)
  two_lighter first a b at what base is one =
      lighter methods (on_top (Begin first) m) (on_top (Eval a) (on_top (Eval b) (on_top (Finish at what base) m))) (omega arith) (omega (arith, is m.state.world.ticks, one m.state.world.ticks))

  pub spawn_lighter : (at : Span) (event : ℕ) (ts : Trees) (base : ℕ) → left (on_top (Evals ts) (on_top (Finish at (i.Spawn event) base) m)) < left (on_top (Begin (s.Spawn at event ts)) m)
  spawn_lighter at event ts base = lighter methods (on_top (Begin (s.Spawn at event ts)) m) (on_top (Evals ts) (on_top (Finish at (i.Spawn event) base) m)) (omega arith) (omega arith)

  pub return_lighter : (at : Span) → left m ≤ left (on_top (Begin (s.Return at None)) m)
  return_lighter at = no_heavier methods (on_top (Begin (s.Return at None)) m) m (omega arith) (omega arith)

  pub while_lighter : (at : Span) (test : Tree) (body : Steps) → left (on_top (Turns at test body) m) < left (on_top (Begin (s.While at test body)) m)
  while_lighter at test body = lighter methods (on_top (Begin (s.While at test body)) m) (on_top (Turns at test body) m) (omega arith) (omega arith)

  pub for_lighter : (at : Span) (counter : ℕ) (from to : Tree) (body : Steps) (base : ℕ) → left (on_top (Eval from) (on_top (Finish at (i.SetLocal counter) base) (on_top (Eval to) (on_top (Finish at (i.SetLocal (counter + 1)) base) (on_top (Counts at counter body) m))))) < left (on_top (Begin (s.For at counter from to body)) m)
  for_lighter at counter from to body base =
      lighter methods (on_top (Begin (s.For at counter from to body)) m) (on_top (Eval from) (on_top (Finish at (i.SetLocal counter) base) (on_top (Eval to) (on_top (Finish at (i.SetLocal (counter + 1)) base) (on_top (Counts at counter body) m))))) (omega arith) (omega arith)

  -- ---- loops

  pub turns_lighter : (at : Span) (test : Tree) (body : Steps) (base : ℕ) → left (on_top (Eval test) (on_top (Check at test body base) m)) < left (on_top (Turns at test body) m)
  turns_lighter at test body base = lighter methods (on_top (Turns at test body) m) (on_top (Eval test) (on_top (Check at test body base) m)) (omega arith) (omega arith)

  pub check_lighter : (at : Span) (test : Tree) (body : Steps) (base : ℕ) → left (cut_to base m) < left (on_top (Check at test body base) m)
  check_lighter at test body base = lighter methods (on_top (Check at test body base) m) (cut_to base m) (omega arith) (omega arith)

  pub counts_lighter : (at : Span) (counter : ℕ) (body : Steps) → left m < left (on_top (Counts at counter body) m)
  counts_lighter at counter body = lighter methods (on_top (Counts at counter body) m) m (omega arith) (omega arith)

  pub again_lighter : (at : Span) (counter : ℕ) (body : Steps) (locals : List Value) → left (on_top (Counts at counter body) (in_state (record { locals = locals; world = m.state.world }) m)) < left (on_top (Again at counter body) m)
  again_lighter at counter body locals = lighter methods (on_top (Again at counter body) m) (on_top (Counts at counter body) (in_state (record { locals = locals; world = m.state.world }) m)) (omega arith) (omega arith)

  -- ---- a tick is taken

  module _ (st : State) (vs : List Value) (ticks : m.state.world.ticks ≡ suc st.world.ticks) where
    abbrev few : ℕ
    few = st.world.ticks

    abbrev ticked : Mach
    ticked = record m { values = vs; state = st }

    pub check_ticked : (at : Span) (test : Tree) (body : Steps) (base : ℕ) → left (on_top (Block body) (on_top (Turns at test body) ticked)) < left (on_top (Check at test body base) m)
    check_ticked at test body base =
        lighter_ticked methods (on_top (Check at test body base) m) (on_top (Block body) (on_top (Turns at test body) ticked)) few ticks refl
        (omega (arith, turn_weighs few (tree_weight test) body, items_less few (suc few) (omega arith) m.items))

    pub counts_ticked : (at : Span) (counter : ℕ) (body : Steps) → left (on_top (Block body) (on_top (Again at counter body) ticked)) < left (on_top (Counts at counter body) m)
    counts_ticked at counter body =
        lighter_ticked methods (on_top (Counts at counter body) m) (on_top (Block body) (on_top (Again at counter body) ticked)) few ticks refl
        (omega (arith, turn_weighs few 0 body, items_less few (suc few) (omega arith) m.items))

    last_is : (last : Option Last) (items : List Item) → items_weight few (with_last last items) ≡ last_weight few last + items_weight few items
    last_is None items = omega arith
    last_is (Some last) items = refl

    module _ (path : Path) (number : ℕ) (method : Method) (given : List Value) (up : Bool) (is : slice_get methods number ≡ Some method) where
      abbrev called : Mach
      called = method_start method given up (record m { path = path; values = vs; state = st })

      called_weighs : items_weight few called.items < methods_weight few methods + (1 + items_weight (suc few) m.items)
      called_weighs =
          omega (arith, last_is method.last (Return st.locals vs up ∷ m.items), method_weighs few methods number method is, items_less few (suc few) (omega arith) m.items)

      pub invoke_ticked : (at : Span) (base : ℕ) → left called < left (on_top (Invoke at number base) m)
      invoke_ticked at base = lighter_ticked methods (on_top (Invoke at number base) m) called few ticks refl called_weighs

      pub child_ticked : (at : Span) (class base : ℕ) → left called < left (on_top (Child at class number base) m)
      child_ticked at class base = lighter_ticked methods (on_top (Child at class number base) m) called few ticks refl called_weighs

  -- ---- a call returns

  pub back_lighter : (c : Caller) (v : Value) → left (back_to c v m) < left (on_top (return_of c) m)
  back_lighter c v = lighter methods (on_top (return_of c) m) (back_to c v m) (omega arith) (omega arith)

  pub left_lighter : (c : Caller) (v : Value) (items : List Item) → to_return m.items ≡ return_of c ∷ items → left (back_to c v (record m { items = items })) < left m
  left_lighter c v items is =
      lighter methods m (back_to c v (record m { items = items })) (omega arith)
      (omega (arith, return_weighs m.state.world.ticks m.items, ap (items_weight m.state.world.ticks) is))
