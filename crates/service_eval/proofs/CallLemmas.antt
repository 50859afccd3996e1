-- Calls: a method runs with locals of its own, and what it gives is put upon what lay there.
use Rattle.std.proofs.Common.{◌≡◌, ℕ, suc, ◌≤◌, Bool, true, false, List, [], ◌∷◌, ◌++◌, take, drop, Option, Some, None, Ok, Err, refl, sym, ap, subst, ◌∙◌, arith}
use Rattle.std.specs.Prelude.{slice_get}
use Rattle.wave_base.specs.declared.limits.TheConstants.{TICKS}
use Rattle.wave_base.specs.declared.path.Path.{Path}
use Rattle.wave_base.specs.declared.span.Span.{Span}
use Rattle.wave_base.specs.declared.value.Value.{Value}
use Rattle.value_ops.specs.Kinds.{Answer}
use Rattle.resolved_service.specs.declared.service.Last.{Last}
use Rattle.resolved_service.specs.declared.service.Method.{Method}
use Rattle.resolved_service.specs.Meaning.{State, Returned, Finished, Outcome, Done, Trapped, Left, Act, and_then, ◌>>=◌, ◌>>◌, give, with_world, enter_at, back, value, effects, last_value, with_locals, with_blanks, run_method, call_act, worth}
use Rattle.resolved_service.specs.Steps.{steps_in}
use Rattle.resolved_service.specs.View.{tree_of}
use Rattle.resolved_service.specs.World.{World, key_of, child, after_change, ticking, entering}
use Rattle.service_eval.specs.declared.stop.Stop.{Stop}
use Rattle.service_eval.specs.declared.stop.Stop.TheVariants as stop
use Rattle.service_eval.specs.inner.Items.{Eval, Invoke, Child, Block, Return}
use Rattle.service_eval.specs.inner.Machines.{Mach, Rest, on_top, cut_to, in_world, own, act, path_after, after_return, come_of, comes_to, with_last, method_start}
use Rattle.service_eval.specs.inner.Traces.{Changes, Traps, Fails}
use Rattle.service_eval.proofs.CallTurns.{ticked}
use Rattle.service_eval.proofs.ItemLikeness.{come_like}
use Rattle.service_eval.proofs.Likeness.{Same, counted, Like, weaker, then_like, give_like, run_like}
use Rattle.service_eval.proofs.Outcomes.{assoc, regroup, fails_through}
use Rattle.service_eval.proofs.PathLemmas.{parent_of-child}

abbrev listed : Option Value → List Value
listed None = []
listed (Some v) = v ∷ []

returns_is : (locals under : List Value) (x : Outcome (Option Value)) → and_then (with_locals locals x) (λ r. give (under ++ worth r ∷ [])) ≡ after_return locals under (and_then x (λ r. give (listed r)))
returns_is locals under (Done None st) = refl
returns_is locals under (Done (Some v) st) = refl
returns_is locals under (Trapped k at w) = refl
returns_is locals under (Left (Returned r) st) = refl
returns_is locals under (Left (Finished r) st) = refl

module _ (methods : List Method) (method : Method) (given : List Value) (up : Bool) (m : Mach) where
  abbrev k : ℕ → Path → List Value → Act (Option Value)
  k = call_act methods TICKS

  abbrev inner : State
  inner = record { locals = with_blanks given method.locals; world = m.state.world }

  abbrev body : Outcome (Unit {0})
  body = effects (call_act methods TICKS) TICKS m.path (steps_in method.body) (record { locals = with_blanks given method.locals; world = m.state.world })

  abbrev whole : Option Last → Outcome (Option Value)
  whole last = and_then body (λ _. last_value (call_act methods TICKS) TICKS m.path last)

  abbrev after : Outcome (List Value) → Outcome Rest
  after o = come_of methods m.items (path_after up m.path) (after_return m.state.locals m.values o)

  runs_last : (last : Option Last) → come_of methods (Block (steps_in method.body) ∷ with_last last (Return m.state.locals m.values up ∷ m.items)) m.path (Done [] inner) ≡ after (and_then (whole last) (λ r. give (listed r)))
  runs_last None = ap after (sym (assoc body (λ _. give None) (λ r. give (listed r))))
  runs_last (Some last) =
      ap after
      (assoc body (λ _. give []) (act methods m.path (Eval (tree_of last.value)))
      ∙ regroup body (λ _. value k m.path (tree_of last.value) >>= (λ v. give (v ∷ []))) (λ _ st. and_then (and_then (value k m.path (tree_of last.value) st) (λ x. give (Some x))) (λ r. give (listed r)))
      (λ u st. sym (assoc (value k m.path (tree_of last.value) st) (λ x. give (Some x)) (λ r. give (listed r))))
      ∙ sym (assoc body (λ _. last_value k TICKS m.path (Some last)) (λ r. give (listed r))))

  -- a method that was started comes to what the call comes to, however often the place was changed before
  pub starts : (number changes : ℕ) (f : Option Value → Act (List Value)) → ((r : Option Value) → Like TICKS (f r) (give (m.values ++ worth r ∷ []))) → suc m.state.world.ticks ≤ TICKS → slice_get methods number ≡ Some method → come_of methods m.items (path_after up m.path) (and_then (call_act methods TICKS number m.path given (counted changes m.state)) f) ≡ comes_to methods (method_start method given up m)
  starts number changes f gives few is =
      let j = m.state.world.ticks in
      let run = run_method (call_act methods TICKS) TICKS in
      come_like methods m.items (path_after up m.path) _ _
      (then_like TICKS (call_act methods TICKS number m.path given (counted changes m.state)) (run (Some method) m.path given m.state) f (λ r. give (m.values ++ worth r ∷ []))
      (weaker j TICKS _ _ (omega (arith, few)) (subst (λ o. Same j (call_act methods TICKS number m.path given (counted changes m.state)) (run o m.path given m.state)) is (run_like methods TICKS j few number m.path given (counted changes m.state) m.state.world.changes (omega arith)))) gives)
      ∙ ap (come_of methods m.items (path_after up m.path)) (returns_is m.state.locals m.values (whole method.last))
      ∙ sym (runs_last method.last)

-- a tick was left before it was taken
before_tick : (w v : World) → ticking w ≡ Ok v → w.ticks ≤ TICKS → suc v.ticks ≤ TICKS
before_tick w v e few = let t = ticked w v e in omega (arith, t.0, few)

module _ (methods : List Method) (m : Mach) (at : Span) (few : m.state.world.ticks ≤ TICKS) where
  pub invoked : (method : Method) (number base : ℕ) (w : World) → ticking m.state.world ≡ Ok w → slice_get methods number ≡ Some method → comes_to methods (on_top (Invoke at number base) m) ≡ comes_to methods (method_start method (drop base m.values) false (cut_to base (in_world w m)))
  invoked method number base w ticks is =
      ap (λ a. come_of methods m.items m.path (and_then (with_world a at m.state) (λ _. call_act methods TICKS number m.path (drop base m.values) >>= (λ r. give (take base m.values ++ worth r ∷ []))))) ticks
      ∙ starts methods method (drop base m.values) false (cut_to base (in_world w m)) number w.changes (λ r. give (take base m.values ++ worth r ∷ [])) (λ r. give_like TICKS (take base m.values ++ worth r ∷ [])) (before_tick m.state.world w ticks few) is

  pub child_invoked : (method : Method) (class number base : ℕ) (w v : World) → ticking m.state.world ≡ Ok w → entering (child m.path class (own 0 base m.values)) w ≡ Ok (after_change v) → v.ticks ≡ w.ticks → slice_get methods number ≡ Some method → comes_to methods (on_top (Child at class number base) m) ≡ comes_to methods (method_start method (drop (suc base) m.values) true (record (cut_to base (in_world v m)) { path = child m.path class (own 0 base m.values) }))
  child_invoked method class number base w v ticks enters same is =
      let q = child m.path class (own 0 base m.values) in
      let call = call_act methods TICKS number q (drop (suc base) m.values) >>= (λ r. back >> give (take base m.values ++ worth r ∷ [])) in
      ap (λ a. come_of methods m.items m.path (and_then (with_world a at m.state) (λ _. enter_at q at >> call))) ticks
      ∙ ap (λ a. come_of methods m.items m.path (and_then (with_world a at (record { locals = m.state.locals; world = w })) (λ _. call))) enters
      ∙ ap (λ p. come_of methods m.items p (call (record { locals = m.state.locals; world = after_change v }))) (sym (parent_of-child m.path (record { class = record { 0 = class }; key = key_of (own 0 base m.values) })))
      ∙ starts methods method (drop (suc base) m.values) true (record (cut_to base (in_world v m)) { path = q }) number (suc v.changes) (λ r. back >> give (take base m.values ++ worth r ∷ [])) (λ r st c h. (refl, h)) (let h = before_tick m.state.world w ticks few in omega (arith, h, same)) is

-- a change of the world that traps
pub world_fails : {B : Type 0} (a : Answer World) (at : Span) (st : State) (f : Unit {0} → Act B) (e : Stop) (w : World) → Changes a at st.world (Err e) w → Traps (and_then (with_world a at st) f) e w
world_fails a at st f (stop.OutOfMemory _) w h = tt
world_fails a at st f (stop.Ended r) w h = h
world_fails a at st f (stop.Trapped t) w h = ap (λ a. and_then (with_world a at st) f) h.0 ∙ (λ i. Trapped t.kind (sym h.1 i) (sym h.2 i))

module _ (methods : List Method) (m : Mach) (at : Span) where
  pub no_tick : (number base : ℕ) (e : Stop) (w : World) → Changes (ticking m.state.world) at m.state.world (Err e) w → Fails (comes_to methods (on_top (Invoke at number base) m)) e w
  no_tick number base e w h = fails_through methods m.items m.path _ e w (world_fails (ticking m.state.world) at m.state _ e w h)

  pub no_child_tick : (class number base : ℕ) (e : Stop) (w : World) → Changes (ticking m.state.world) at m.state.world (Err e) w → Fails (comes_to methods (on_top (Child at class number base) m)) e w
  no_child_tick class number base e w h = fails_through methods m.items m.path _ e w (world_fails (ticking m.state.world) at m.state _ e w h)

  pub not_entered : (class number base : ℕ) (e : Stop) (w v : World) → ticking m.state.world ≡ Ok w → Changes (entering (child m.path class (own 0 base m.values)) w) at w (Err e) v → Fails (comes_to methods (on_top (Child at class number base) m)) e v
  not_entered class number base e w v ticks h =
      let q = child m.path class (own 0 base m.values) in
      let call = call_act methods TICKS number q (drop (suc base) m.values) >>= (λ r. back >> give (take base m.values ++ worth r ∷ [])) in
      fails_through methods m.items m.path _ e v
      (subst (λ a. Traps (and_then (with_world a at m.state) (λ _. enter_at q at >> call)) e v) (sym ticks) (world_fails (entering q w) at (record { locals = m.state.locals; world = w }) (λ _. call) e v h))
