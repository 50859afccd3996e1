-- What statements do with the values of their expressions, and the turns of loops.
use Rattle.std.proofs.Common.{◌≡◌, ℕ, pos, ◌+◌, ◌≤◌, true, false, List, [], ◌∷◌, ◌++◌, length, take, drop, get_or, Option, Ok, Err, refl, sym, ap, subst, ◌∙◌, slice_set, arith}
use Rattle.wave_base.specs.declared.limits.TheConstants.{TICKS}
use Rattle.wave_base.specs.declared.path.Path.{Path}
use Rattle.wave_base.specs.declared.span.Span.{Span}
use Rattle.wave_base.specs.declared.value.Value.{Value}
use Rattle.wave_base.specs.declared.value.Value.TheVariants.{Int}
use Rattle.value_ops.specs.Kinds.{Answer}
use Rattle.value_ops.specs.Operators.{apply_row}
use Rattle.resolved_service.specs.declared.service.Method.{Method}
use Rattle.resolved_service.specs.Meaning.{State, Outcome, Done, Trapped, Left, Act, and_then, ◌>>◌, give, answer, with_world, tick, choose, set_local, for_test, for_body, while_turns, value, effects, row_lt, row_add, call_act}
use Rattle.resolved_service.specs.Steps.{Steps}
use Rattle.resolved_service.specs.View.{Tree}
use Rattle.resolved_service.specs.World.{World, nothing, is_true, ticking}
use Rattle.service_eval.specs.declared.stop.Stop.{Stop}
use Rattle.service_eval.specs.declared.stop.Stop.TheVariants as stop
use Rattle.service_eval.specs.inner.Answers.{Gives}
use Rattle.service_eval.specs.inner.Items.{End, Branch, Eval, Block, Finish, Turns, Check, Counts, Again}
use Rattle.service_eval.specs.inner.Machines.{Mach, on_top, cut_to, in_world, in_state, own, act, finish, turn_on, next, come_of, comes_to}
use Rattle.service_eval.specs.inner.Traces.{Changes, Traps, Fails}
use Rattle.service_eval.proofs.CallLemmas.{world_fails}
use Rattle.service_eval.proofs.ItemLikeness.{come_like}
use Rattle.service_eval.proofs.Likeness.{then_like, give_like, while_turn, for_turn}
use Rattle.service_eval.proofs.Outcomes.{assoc, feeds, traps_then, fails_through, below, first_upon}

-- an answer, and what it gives at a place
pub gives_fails : {B : Type 0} (a : Answer Value) (at : Span) (st : State) (f : Value → Act B) (e : Stop) → Gives a at (Err e) → Traps (and_then (answer a at st) f) e st.world
gives_fails a at st f (stop.OutOfMemory _) h = tt
gives_fails a at st f (stop.Ended r) h = h
gives_fails a at st f (stop.Trapped t) h = ap (λ a. and_then (answer a at st) f) h.0 ∙ ap (λ x. Trapped t.kind x st.world) (sym h.1)

module _ (methods : List Method) (m : Mach) (at : Span) (base : ℕ) where
  abbrev does : End → Outcome (Unit {0})
  does what = finish (call_act methods TICKS) TICKS m.path at (drop base m.values) what m.state

  pub finished : (what : End) (st : State) → finish (call_act methods TICKS) TICKS m.path at (drop base m.values) what m.state ≡ Done tt st → comes_to methods (on_top (Finish at what base) m) ≡ comes_to methods (in_state st (cut_to base m))
  finished what st h = ap (λ o. come_of methods m.items m.path (and_then o (λ _. give (take base m.values)))) h

  pub not_finished : (what : End) (e : Stop) (w : World) → Traps (finish (call_act methods TICKS) TICKS m.path at (drop base m.values) what m.state) e w → Fails (comes_to methods (on_top (Finish at what base) m)) e w
  not_finished what e w h = fails_through methods m.items m.path _ e w (traps_then (does what) (λ _. give (take base m.values)) e w h)

  pub branch_true : (body other : Steps) → is_true (own 0 base m.values) ≡ true → comes_to methods (on_top (Finish at (Branch body other) base) m) ≡ comes_to methods (on_top (Block body) (cut_to base m))
  branch_true body other h = ap (λ b. come_of methods m.items m.path (and_then (choose b (effects (call_act methods TICKS) TICKS m.path body) (effects (call_act methods TICKS) TICKS m.path other) m.state) (λ _. give (take base m.values)))) h

  pub branch_false : (body other : Steps) → is_true (own 0 base m.values) ≡ false → comes_to methods (on_top (Finish at (Branch body other) base) m) ≡ comes_to methods (on_top (Block other) (cut_to base m))
  branch_false body other h = ap (λ b. come_of methods m.items m.path (and_then (choose b (effects (call_act methods TICKS) TICKS m.path body) (effects (call_act methods TICKS) TICKS m.path other) m.state) (λ _. give (take base m.values)))) h

-- loops: by the test's value
module _ (at : Span) (inner : Act (Unit {0})) (test : Act Value) where
  turn_false : (t : Value) (st : State) → is_true t ≡ false → turn_on test inner at t st ≡ Done tt st
  turn_false t st h = ap (λ b. choose b (tick at >> (inner >> while_turns TICKS test inner at)) (give tt) st) h

  turn_more : (t : Value) (st : State) → is_true t ≡ true → turn_on test inner at t st ≡ and_then (tick at st) (λ _. inner >> while_turns TICKS test inner at)
  turn_more t st h = ap (λ b. choose b (tick at >> (inner >> while_turns TICKS test inner at)) (give tt) st) h

  turn_ticks : (t : Value) (st : State) (f : Unit {0} → Act (List Value)) (e : Stop) (w : World) → is_true t ≡ true → Changes (ticking st.world) at st.world (Err e) w → Traps (and_then (turn_on test inner at t st) f) e w
  turn_ticks t st f e w h c =
      subst (λ b. Traps (and_then (choose b (tick at >> (inner >> while_turns TICKS test inner at)) (give tt) st) f) e w) (sym h)
      (traps_then (and_then (tick at st) (λ _. inner >> while_turns TICKS test inner at)) f e w (world_fails (ticking st.world) at st (λ _. inner >> while_turns TICKS test inner at) e w c))

module _ (methods : List Method) (m : Mach) (at : Span) (body : Steps) where
  abbrev k : ℕ → Path → List Value → Act (Option Value)
  k = call_act methods TICKS

  abbrev inner : Act (Unit {0})
  inner = effects (call_act methods TICKS) TICKS m.path body

  pub turns_parts : (test : Tree) → m.state.world.ticks ≤ TICKS → comes_to methods (on_top (Turns at test body) m) ≡ comes_to methods (on_top (Eval test) (on_top (Check at test body (length m.values)) m))
  turns_parts test few =
      come_like methods m.items m.path _ _
      (then_like TICKS (while_turns TICKS (value k m.path test) inner at m.state) (and_then (value k m.path test m.state) (turn_on (value k m.path test) inner at)) (λ _. give m.values) (λ _. give m.values)
      (while_turn methods TICKS m.path test body at TICKS (omega arith) m.state m.state.world.changes few) (λ _. give_like TICKS m.values))
      ∙ ap (come_of methods m.items m.path)
      (assoc (value k m.path test m.state) (turn_on (value k m.path test) inner at) (λ _. give m.values)
      ∙ feeds (value k m.path test m.state) (λ t st. and_then (turn_on (value k m.path test) inner at t st) (λ _. give m.values)) (λ t. m.values ++ t ∷ []) (act methods m.path (Check at test body (length m.values)))
      (λ t st i. and_then (turn_on (value k m.path test) inner at (sym (first_upon m.values [] t) i) st) (λ _. give (sym (below m.values (t ∷ [])) i))))

  module _ (test : Tree) (base : ℕ) where
    pub check_false : is_true (own 0 base m.values) ≡ false → comes_to methods (on_top (Check at test body base) m) ≡ comes_to methods (cut_to base m)
    check_false h = ap (λ o. come_of methods m.items m.path (and_then o (λ _. give (take base m.values)))) (turn_false at inner (value k m.path test) (own 0 base m.values) m.state h)

    pub check_fails : (e : Stop) (w : World) → is_true (own 0 base m.values) ≡ true → Changes (ticking m.state.world) at m.state.world (Err e) w → Fails (comes_to methods (on_top (Check at test body base) m)) e w
    check_fails e w h c = fails_through methods m.items m.path _ e w (turn_ticks at inner (value k m.path test) (own 0 base m.values) m.state (λ _. give (take base m.values)) e w h c)

    pub check_more : (w : World) → is_true (own 0 base m.values) ≡ true → ticking m.state.world ≡ Ok w → comes_to methods (on_top (Check at test body base) m) ≡ comes_to methods (on_top (Block body) (on_top (Turns at test body) (in_world w (cut_to base m))))
    check_more w h t =
        ap (λ o. come_of methods m.items m.path (and_then o (λ _. give (take base m.values)))) (turn_more at inner (value k m.path test) (own 0 base m.values) m.state h)
        ∙ ap (λ a. come_of methods m.items m.path (and_then (and_then (with_world a at m.state) (λ _. inner >> while_turns TICKS (value k m.path test) inner at)) (λ _. give (take base m.values)))) t
        ∙ ap (come_of methods m.items m.path) (assoc (inner (record { locals = m.state.locals; world = w })) (λ _. while_turns TICKS (value k m.path test) inner at) (λ _. give (take base m.values))
        ∙ sym (assoc (inner (record { locals = m.state.locals; world = w })) (λ _. give (take base m.values)) (act methods m.path (Turns at test body))))

-- the counter of a loop goes on after the body
again_then : (o : Outcome (Unit {0})) (f w : Act (Unit {0})) (vs : List Value) → and_then (and_then (and_then o (λ _. f)) (λ _. w)) (λ _. give vs) ≡ and_then (and_then o (λ _. give vs)) (λ vs. f >> (w >> give vs))
again_then (Done u st) f w vs = assoc (f st) (λ _. w) (λ _. give vs)
again_then (Trapped t at v) f w vs = refl
again_then (Left l st) f w vs = refl

module _ (methods : List Method) (m : Mach) (at : Span) (counter : ℕ) where
  abbrev test_row : Answer Value
  test_row = apply_row row_lt (get_or m.state.locals counter nothing ∷ get_or m.state.locals (counter + 1) nothing ∷ [])

  module _ (body : Steps) where
    abbrev turn : Act (Unit {0})
    turn = for_body counter at (effects (call_act methods TICKS) TICKS m.path body)

    abbrev others : Act (Unit {0})
    others = while_turns TICKS (for_test counter at) (for_body counter at (effects (call_act methods TICKS) TICKS m.path body)) at

    pub again_is : (v : Value) → apply_row row_add (get_or m.state.locals counter nothing ∷ Int (pos 1) ∷ []) ≡ Ok v → comes_to methods (on_top (Again at counter body) m) ≡ comes_to methods (on_top (Counts at counter body) (in_state (record { locals = slice_set m.state.locals counter v; world = m.state.world }) m))
    again_is v h = ap (λ a. come_of methods m.items m.path (and_then (and_then (answer a at m.state) (set_local counter)) (λ _. others >> give m.values))) h

    pub again_fails : (e : Stop) → Gives (apply_row row_add (get_or m.state.locals counter nothing ∷ Int (pos 1) ∷ [])) at (Err e) → Fails (comes_to methods (on_top (Again at counter body) m)) e m.state.world
    again_fails e h = fails_through methods m.items m.path _ e m.state.world (traps_then _ (λ _. others >> give m.values) e m.state.world (gives_fails _ at m.state (set_local counter) e h))

    module _ (few : m.state.world.ticks ≤ TICKS) where
      counts_is : comes_to methods (on_top (Counts at counter body) m) ≡ come_of methods m.items m.path (and_then (and_then (answer test_row at m.state) (turn_on (for_test counter at) turn at)) (λ _. give m.values))
      counts_is =
          come_like methods m.items m.path _ _
          (then_like TICKS (others m.state) (and_then (answer test_row at m.state) (turn_on (for_test counter at) turn at)) (λ _. give m.values) (λ _. give m.values)
          (for_turn methods TICKS m.path counter body at TICKS (omega arith) m.state m.state.world.changes few) (λ _. give_like TICKS m.values))

      pub counts_wrong : (e : Stop) → Gives test_row at (Err e) → Fails (comes_to methods (on_top (Counts at counter body) m)) e m.state.world
      counts_wrong e h =
          subst (λ o. Fails o e m.state.world) (sym counts_is)
          (fails_through methods m.items m.path _ e m.state.world (traps_then _ (λ _. give m.values) e m.state.world (gives_fails test_row at m.state (turn_on (for_test counter at) turn at) e h)))

      module _ (v : Value) (found : test_row ≡ Ok v) where
        counts_on : comes_to methods (on_top (Counts at counter body) m) ≡ come_of methods m.items m.path (and_then (turn_on (for_test counter at) turn at v m.state) (λ _. give m.values))
        counts_on = counts_is ∙ ap (λ a. come_of methods m.items m.path (and_then (and_then (answer a at m.state) (turn_on (for_test counter at) turn at)) (λ _. give m.values))) found

        pub counts_false : is_true v ≡ false → comes_to methods (on_top (Counts at counter body) m) ≡ comes_to methods m
        counts_false h = counts_on ∙ ap (λ o. come_of methods m.items m.path (and_then o (λ _. give m.values))) (turn_false at turn (for_test counter at) v m.state h)

        pub counts_fails : (e : Stop) (w : World) → is_true v ≡ true → Changes (ticking m.state.world) at m.state.world (Err e) w → Fails (comes_to methods (on_top (Counts at counter body) m)) e w
        counts_fails e w h c =
            subst (λ o. Fails o e w) (sym counts_on) (fails_through methods m.items m.path _ e w (turn_ticks at turn (for_test counter at) v m.state (λ _. give m.values) e w h c))

        pub counts_more : (w : World) → is_true v ≡ true → ticking m.state.world ≡ Ok w → comes_to methods (on_top (Counts at counter body) m) ≡ comes_to methods (on_top (Block body) (on_top (Again at counter body) (in_state (record { locals = slice_set m.state.locals (counter + 2) (get_or m.state.locals counter nothing); world = w }) m)))
        counts_more w h t =
            counts_on
            ∙ ap (λ o. come_of methods m.items m.path (and_then o (λ _. give m.values))) (turn_more at turn (for_test counter at) v m.state h)
            ∙ ap (λ a. come_of methods m.items m.path (and_then (and_then (with_world a at m.state) (λ _. turn >> while_turns TICKS (for_test counter at) turn at)) (λ _. give m.values))) t
            ∙ ap (come_of methods m.items m.path)
            (again_then (effects (call_act methods TICKS) TICKS m.path body (record { locals = slice_set m.state.locals (counter + 2) (get_or m.state.locals counter nothing); world = w })) (next counter at) (while_turns TICKS (for_test counter at) turn at) m.values)
