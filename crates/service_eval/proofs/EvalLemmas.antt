-- Expressions: their parts first, and then what is done with them.
use Rattle.std.proofs.Common.{◌≡◌, ℕ, suc, true, false, List, [], ◌∷◌, ◌++◌, length, take, drop, Option, Ok, Err, refl, sym, ap, ◌∙◌, append_assoc}
use Rattle.std.proofs.lemmas.List.{append-nil}
use Rattle.wave_base.specs.declared.limits.TheConstants.{TICKS}
use Rattle.wave_base.specs.declared.path.Path.{Path}
use Rattle.wave_base.specs.declared.span.Span.{Span}
use Rattle.wave_base.specs.declared.value.Value.{Value}
use Rattle.wave_base.specs.declared.value.Value.TheVariants.{Bool as Truth}
use Rattle.value_ops.specs.Operators.{apply_row}
use Rattle.resolved_service.specs.declared.service.Method.{Method}
use Rattle.resolved_service.specs.Meaning.{State, Outcome, Done, Trapped, Left, Act, and_then, ◌>>=◌, ◌>>◌, give, answer, tick, enter_at, back, choose, worth, value, values, call_act}
use Rattle.resolved_service.specs.View.{Tree, Trees, no_trees, tree, Op, And, Or, Call as CallOf, Child as ChildOf}
use Rattle.resolved_service.specs.World.{World, is_true, child}
use Rattle.service_eval.specs.declared.stop.Stop.{Stop}
use Rattle.service_eval.specs.declared.stop.Stop.TheVariants as stop
use Rattle.service_eval.specs.inner.Answers.{Gives}
use Rattle.service_eval.specs.inner.Traces.{Traps, Fails}
use Rattle.service_eval.specs.inner.Items.{Eval, Evals, Apply, AndThen, OrElse, Invoke, Child}
use Rattle.service_eval.specs.inner.Machines.{Mach, Rest, on_top, with_value, cut_to, own, act, come_of, comes_to}
use Rattle.service_eval.proofs.Outcomes.{assoc, regroup, feeds, traps_then, fails_through, below, upon, first_upon, rest_upon}

module _ (methods : List Method) (m : Mach) where
  abbrev vs : List Value
  vs = m.values

  abbrev k : ℕ → Path → List Value → Act (Option Value)
  k = call_act methods TICKS

  abbrev go : Outcome (List Value) → Outcome Rest
  go = come_of methods m.items m.path

  abbrev push : Value → Act (List Value)
  push v = give (m.values ++ v ∷ [])

  -- a value that is found
  pub found_value : (t : Tree) (v : Value) → value (call_act methods TICKS) m.path t m.state ≡ Done v m.state → comes_to methods (on_top (Eval t) m) ≡ comes_to methods (with_value v m)
  found_value t v h = ap (λ o. come_of methods m.items m.path (and_then o (λ v. give (m.values ++ v ∷ [])))) h

  pub found_fails : (t : Tree) (e : Stop) (w : World) → Traps (value (call_act methods TICKS) m.path t m.state) e w → Fails (comes_to methods (on_top (Eval t) m)) e w
  found_fails t e w h = fails_through methods m.items m.path _ e w (traps_then (value k m.path t m.state) push e w h)

  pub op_parts : (at : Span) (row : ℕ) (ts : Trees) → comes_to methods (on_top (Eval (Op at row ts)) m) ≡ comes_to methods (on_top (Evals ts) (on_top (Apply at row (length m.values)) m))
  op_parts at row ts =
      ap go
      (assoc (values k m.path ts m.state) (λ ops. answer (apply_row row ops) at) push
      ∙ feeds (values k m.path ts m.state) (λ ops st. and_then (answer (apply_row row ops) at st) push) (λ more. vs ++ more) (act methods m.path (Apply at row (length vs)))
      (λ ops st i. and_then (answer (apply_row row (sym (upon vs ops) i)) at st) (λ v. give (sym (below vs ops) i ++ v ∷ []))))

  pub no_values : comes_to methods (on_top (Evals no_trees) m) ≡ comes_to methods m
  no_values = ap (λ xs. come_of methods m.items m.path (Done xs m.state)) (append-nil vs)

  cons_values : (v : Value) (o : Outcome (List Value)) → and_then (and_then o (λ others. give (v ∷ others))) (λ more. give (m.values ++ more)) ≡ and_then o (λ more. give ((m.values ++ v ∷ []) ++ more))
  cons_values v (Done xs st) = ap (λ ys. Done ys st) (sym (append_assoc vs (v ∷ []) xs))
  cons_values v (Trapped t at w) = refl
  cons_values v (Left l st) = refl

  pub first_value : (t : Tree) (ts : Trees) → comes_to methods (on_top (Evals (tree t ts)) m) ≡ comes_to methods (on_top (Eval t) (on_top (Evals ts) m))
  first_value t ts =
      ap go
      (assoc (value k m.path t m.state) (λ first. values k m.path ts >>= (λ others. give (first ∷ others))) (λ more. give (vs ++ more))
      ∙ feeds (value k m.path t m.state) (λ v st. and_then (and_then (values k m.path ts st) (λ others. give (v ∷ others))) (λ more. give (vs ++ more))) (λ v. vs ++ v ∷ []) (act methods m.path (Evals ts))
      (λ v st. cons_values v (values k m.path ts st)))

  module _ (at : Span) (row base : ℕ) where
    pub applied : (v : Value) → apply_row row (drop base m.values) ≡ Ok v → comes_to methods (on_top (Apply at row base) m) ≡ comes_to methods (with_value v (cut_to base m))
    applied v h = ap (λ a. come_of methods m.items m.path (and_then (answer a at m.state) (λ v. give (take base m.values ++ v ∷ [])))) h

    pub not_applied : (e : Stop) → Gives (apply_row row (drop base m.values)) at (Err e) → Fails (comes_to methods (on_top (Apply at row base) m)) e m.state.world
    not_applied (stop.OutOfMemory _) h = tt
    not_applied (stop.Ended r) h = absurd h
    not_applied (stop.Trapped t) h =
        fails_through methods m.items m.path (and_then (answer (apply_row row (drop base vs)) at m.state) (λ v. give (take base vs ++ v ∷ []))) (stop.Trapped t) m.state.world
        (ap (λ a. and_then (answer a at m.state) (λ v. give (take base vs ++ v ∷ []))) h.0 ∙ ap (λ x. Trapped t.kind x m.state.world) (sym h.1))

  pub and_parts : (at : Span) (a b : Tree) → comes_to methods (on_top (Eval (And at a b)) m) ≡ comes_to methods (on_top (Eval a) (on_top (AndThen b (length m.values)) m))
  and_parts at a b =
      ap go
      (assoc (value k m.path a m.state) (λ x. choose (is_true x) (value k m.path b) (give (Truth false))) push
      ∙ feeds (value k m.path a m.state) (λ x st. and_then (choose (is_true x) (value k m.path b) (give (Truth false)) st) push) (λ x. vs ++ x ∷ []) (act methods m.path (AndThen b (length vs)))
      (λ x st i. and_then (choose (is_true (sym (first_upon vs [] x) i)) (value k m.path b) (give (Truth false)) st) (λ v. give (sym (below vs (x ∷ [])) i ++ v ∷ []))))

  pub or_parts : (at : Span) (a b : Tree) → comes_to methods (on_top (Eval (Or at a b)) m) ≡ comes_to methods (on_top (Eval a) (on_top (OrElse b (length m.values)) m))
  or_parts at a b =
      ap go
      (assoc (value k m.path a m.state) (λ x. choose (is_true x) (give (Truth true)) (value k m.path b)) push
      ∙ feeds (value k m.path a m.state) (λ x st. and_then (choose (is_true x) (give (Truth true)) (value k m.path b) st) push) (λ x. vs ++ x ∷ []) (act methods m.path (OrElse b (length vs)))
      (λ x st i. and_then (choose (is_true (sym (first_upon vs [] x) i)) (give (Truth true)) (value k m.path b) st) (λ v. give (sym (below vs (x ∷ [])) i ++ v ∷ []))))

  module _ (right : Tree) (base : ℕ) where
    pub and_true : is_true (own 0 base m.values) ≡ true → comes_to methods (on_top (AndThen right base) m) ≡ comes_to methods (on_top (Eval right) (cut_to base m))
    and_true h = ap (λ b. come_of methods m.items m.path (and_then (choose b (value (call_act methods TICKS) m.path right) (give (Truth false)) m.state) (λ v. give (take base m.values ++ v ∷ [])))) h

    pub and_false : is_true (own 0 base m.values) ≡ false → comes_to methods (on_top (AndThen right base) m) ≡ comes_to methods (with_value (Truth false) (cut_to base m))
    and_false h = ap (λ b. come_of methods m.items m.path (and_then (choose b (value (call_act methods TICKS) m.path right) (give (Truth false)) m.state) (λ v. give (take base m.values ++ v ∷ [])))) h

    pub or_true : is_true (own 0 base m.values) ≡ true → comes_to methods (on_top (OrElse right base) m) ≡ comes_to methods (with_value (Truth true) (cut_to base m))
    or_true h = ap (λ b. come_of methods m.items m.path (and_then (choose b (give (Truth true)) (value (call_act methods TICKS) m.path right) m.state) (λ v. give (take base m.values ++ v ∷ [])))) h

    pub or_false : is_true (own 0 base m.values) ≡ false → comes_to methods (on_top (OrElse right base) m) ≡ comes_to methods (on_top (Eval right) (cut_to base m))
    or_false h = ap (λ b. come_of methods m.items m.path (and_then (choose b (give (Truth true)) (value (call_act methods TICKS) m.path right) m.state) (λ v. give (take base m.values ++ v ∷ [])))) h

  pub call_parts : (at : Span) (method : ℕ) (args : Trees) → comes_to methods (on_top (Eval (CallOf at method args)) m) ≡ comes_to methods (on_top (Evals args) (on_top (Invoke at method (length m.values)) m))
  call_parts at method args =
      ap go
      (assoc (values k m.path args m.state) (λ given. tick at >> (k method m.path given >>= (λ r. give (worth r)))) push
      ∙ feeds (values k m.path args m.state) (λ given st. and_then ((tick at >> (k method m.path given >>= (λ r. give (worth r)))) st) push) (λ more. vs ++ more) (act methods m.path (Invoke at method (length vs)))
      (λ given st.
      assoc (tick at st) (λ u. k method m.path given >>= (λ r. give (worth r))) push
      ∙ regroup (tick at st) (λ u st. and_then (and_then (k method m.path given st) (λ r. give (worth r))) push) (λ u. k method m.path (drop (length vs) (vs ++ given)) >>= (λ r. give (take (length vs) (vs ++ given) ++ worth r ∷ [])))
      (λ u st. assoc (k method m.path given st) (λ r. give (worth r)) push ∙ (λ i. and_then (k method m.path (sym (upon vs given) i) st) (λ r. give (sym (below vs given) i ++ worth r ∷ []))))))

  module _ (at : Span) (class method : ℕ) where
    -- a call of a child with its key and arguments, the call's value being put upon others
    abbrev child_call : Value → List Value → List Value → Act (List Value)
    child_call x given under =
        tick at >> (enter_at (child m.path class x) at >> (call_act methods TICKS method (child m.path class x) given >>= (λ r. back >> give (under ++ worth r ∷ []))))

    abbrev child_value : Value → List Value → Act Value
    child_value x given =
        tick at >> (enter_at (child m.path class x) at >> (call_act methods TICKS method (child m.path class x) given >>= (λ r. back >> give (worth r))))

    put_down : (x : Value) (given : List Value) (st : State) → and_then (child_value x given st) (λ v. give (m.values ++ v ∷ [])) ≡ child_call x given m.values st
    put_down x given st =
        let q = child m.path class x in
        assoc (tick at st) (λ u. enter_at q at >> (k method q given >>= (λ r. back >> give (worth r)))) push
        ∙ regroup (tick at st) (λ u st. and_then ((enter_at q at >> (k method q given >>= (λ r. back >> give (worth r)))) st) push) (λ u. enter_at q at >> (k method q given >>= (λ r. back >> give (vs ++ worth r ∷ []))))
        (λ u st. assoc (enter_at q at st) (λ u. k method q given >>= (λ r. back >> give (worth r))) push
        ∙ regroup (enter_at q at st) (λ u st. and_then ((k method q given >>= (λ r. back >> give (worth r))) st) push) (λ u. k method q given >>= (λ r. back >> give (vs ++ worth r ∷ [])))
        (λ u st. assoc (k method q given st) (λ r. back >> give (worth r)) push
        ∙ regroup (k method q given st) (λ r st. and_then ((back >> give (worth r)) st) push) (λ r. back >> give (vs ++ worth r ∷ [])) (λ r st. refl)))

    taken_up : (x : Value) (given : List Value) (st : State) → child_call x given m.values st ≡ act methods m.path (Child at class method (length m.values)) ((m.values ++ x ∷ []) ++ given) st
    taken_up x given st =
        let e : (m.values ++ x ∷ []) ++ given ≡ m.values ++ x ∷ given = append_assoc m.values (x ∷ []) given in
        let a : own 0 (length m.values) ((m.values ++ x ∷ []) ++ given) ≡ x = ap (own 0 (length m.values)) e ∙ first_upon m.values given x in
        let b : drop (suc (length m.values)) ((m.values ++ x ∷ []) ++ given) ≡ given = ap (drop (suc (length m.values))) e ∙ rest_upon m.values given x in
        let d : take (length m.values) ((m.values ++ x ∷ []) ++ given) ≡ m.values = ap (take (length m.values)) e ∙ below m.values (x ∷ given) in
        λ i. child_call (sym a i) (sym b i) (sym d i) st

  pub child_parts : (at : Span) (class method : ℕ) (key : Tree) (args : Trees) → comes_to methods (on_top (Eval (ChildOf at class method key args)) m) ≡ comes_to methods (on_top (Eval key) (on_top (Evals args) (on_top (Child at class method (length m.values)) m)))
  child_parts at class method key args =
      ap go
      (assoc (value k m.path key m.state) (λ x. values k m.path args >>= child_value at class method x) push
      ∙ feeds (value k m.path key m.state) (λ x st. and_then ((values k m.path args >>= child_value at class method x) st) push) (λ x. vs ++ x ∷ []) (λ ws st. and_then (act methods m.path (Evals args) ws st) (act methods m.path (Child at class method (length vs))))
      (λ x st.
      assoc (values k m.path args st) (child_value at class method x) push
      ∙ feeds (values k m.path args st) (λ given st. and_then (child_value at class method x given st) push) (λ more. (vs ++ x ∷ []) ++ more) (act methods m.path (Child at class method (length vs)))
      (λ given st. put_down at class method x given st ∙ taken_up at class method x given st))
      ∙ sym (assoc (and_then (value k m.path key m.state) push) (act methods m.path (Evals args)) (act methods m.path (Child at class method (length vs)))))
