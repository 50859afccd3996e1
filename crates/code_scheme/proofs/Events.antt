-- Calls at every number of ticks, and then an event whole.
use Rattle.std.proofs.Common.{◌≡◌, ℕ, zero, suc, ◌+◌, ◌-◌, ◌≤◌, List, [], ◌∷◌, ◌++◌, length, Bool, true, false, Option, Some, None, refl, sym, ap, subst, arith}
use Rattle.std.specs.Prelude.{slice_get, option_to_list}
use Rattle.wave_base.specs.declared.path.Path.{Path}
use Rattle.wave_base.specs.declared.span.Span.{Span}
use Rattle.wave_base.specs.declared.value.Kind.{Kind}
use Rattle.wave_base.specs.declared.value.Kind.TheVariants as k
use Rattle.wave_base.specs.declared.value.Value.{Value}
use Rattle.resolved_service.specs.declared.service.Last.{Last}
use Rattle.resolved_service.specs.declared.service.Method.{Method}
use Rattle.resolved_service.specs.declared.service.Phase.{Phase}
use Rattle.resolved_service.specs.Jobs.{outcome_of_reply}
use Rattle.resolved_service.specs.Meaning as m
use Rattle.resolved_service.specs.Meaning.{State, Leave, Outcome, Done, Trapped, Left, Act, and_then, give, enter_at, release, value, effects, last_value, with_blanks, with_locals, run_method, call_act, phases_run, ◌>>◌}
use Rattle.resolved_service.specs.Steps.{steps_in, surely_ends}
use Rattle.resolved_service.specs.View.{tree_of}
use Rattle.resolved_service.specs.World.{child, releasing}
use Rattle.service_code.specs.declared.instr.Instr.TheVariants as i
use Rattle.service_code.specs.declared.program.Program.{Program}
use Rattle.service_verify.specs.Fit.{IsFit}
use Rattle.service_verify.specs.Points.{IsVerified}
use Rattle.service_verify.specs.Standing.{IsCaller}
use Rattle.service_verify.specs.Steps.{Move, with_result, code_of, places_of}
use Rattle.service_verify.specs.Tours.{Tour}
use Rattle.code_scheme.specs.Programs.{method_function}
use Rattle.code_scheme.specs.Scheme.{Line, line, tree_code, steps_code, return_code, reply_code, method_code, phases_code}
use Rattle.code_scheme.specs.Typed.{InMethod, InEvent, AreTyped, IsTypedLast, AreTypedPhases, IsTypedMethod}
use Rattle.code_scheme.proofs.Follow.{Here, IsOver, trap_result, At, IsCode, Leads, Follows, on_to, place_is, bind, ends, done}
use Rattle.code_scheme.proofs.Finding.{Low, callee_of}
use Rattle.code_scheme.proofs.ChildCalls.{go_runs, return_runs, reply_runs, end_runs}
use Rattle.code_scheme.proofs.Instructions.{Onward}
use Rattle.code_scheme.proofs.Places.{next, HasAt, has_front, has_back, has_all}
use Rattle.code_scheme.proofs.Values.{Answers, Returned, AreMade, Back, CallsFollow, OnTop, value_runs}
use Rattle.code_scheme.proofs.Effects.{effects_run}
use Rattle.code_scheme.proofs.Leaving.{AtReturn, Leaving, leaving_lower, Performs, performs, bind_on, never_ends, never_effects}

gives_back : (result : Option Kind) (r : Option Value) (s : List Value) → Answers result r → (go : Option Value → Move) → with_result result (option_to_list r ++ s) go ≡ go r
gives_back None None s h go = refl
gives_back None (Some x) s h go = absurd h
gives_back (Some kind) None s h go = absurd h
gives_back (Some kind) (Some x) s h go = refl

module _ (program : Program) (fit : IsFit program) (verified : IsVerified program) (methods : List Method) (made : AreMade program fit verified methods) where
  -- before the last instruction of a method, with what it returns
  abbrev Returning : Here → Option Value → State → Tour → Type 0
  Returning h r st d = AtReturn program fit verified h (option_to_list r ++ []) st d

  module _ (n : ℕ) (calls : CallsFollow program fit verified methods n) where
    last_runs : (limit : ℕ) (locals : List Kind) (class : ℕ) (result : Option Kind) (last : Option Last) → IsTypedLast program.shape methods limit locals class false result last → (h : Here) (pc t : ℕ) (at : Span) (st : State) (c : Tour) → t ≤ n → st.world.ticks ≤ t → HasAt program fit verified h.fn pc (return_code methods program.texts pc at false last) → At program fit verified h pc [] st c →
        Follows program fit verified c (Returning h) (Returned t result) (last_value (call_act methods n) n h.at last st)
    last_runs limit locals class None None typed h pc t at st c le q has a = done program fit verified c (Returning h) (Returned t None) None st (record { pc = pc; place = at; is_line = has.0; is_at = a }) (q, tt)
    last_runs limit locals class None (Some last) typed h pc t at st c le q has a = absurd typed
    last_runs limit locals class (Some kind) None typed h pc t at st c le q has a = absurd typed
    last_runs limit locals class (Some kind) (Some last) typed h pc t at st c le q has a =
        let ce = tree_code methods program.texts pc (tree_of last.value) in
        bind program fit verified c (OnTop program fit verified methods h (pc + length ce) []) (Low t) (Returning h) (Returned t (Some kind)) (value (call_act methods n) h.at (tree_of last.value) st) (λ x. give (Some x))
        (value_runs program fit verified methods made n calls limit locals class h (tree_of last.value) kind typed t pc [] st c le q (has_front program fit verified h.fn pc ce _ has) a)
        (λ x st1 d a1 q1. done program fit verified d (Returning h) (Returned t (Some kind)) (Some x) st1 (record { pc = pc + length ce; place = last.at; is_line = (has_back program fit verified h.fn pc ce _ has).0; is_at = a1 }) (q1, tt))

  module _ (number : ℕ) (method : Method) (there : slice_get methods number ≡ Some method) (p : Path) (down : Bool) (g : Here) (pc t : ℕ) (s locals : List Value) (caller : IsCaller down p g.at) (c : Tour) where
    abbrev callee : Here
    callee = callee_of number p down g pc s locals

    -- an instruction by which the callee returns
    comes_back : (r : Option Value) (st : State) → (d : Tour) × Leads program fit verified c d × Returning callee r st d × Returned t method.result r st →
        Follows program fit verified c (Back program fit verified methods down g pc s) (Returned t method.result) (Done r (record { locals = locals; world = st.world }))
    comes_back r st is =
        let last = is.2 in
        let b = return_runs program fit verified number p down g pc s locals (method_function methods program.texts method) last.pc (option_to_list r ++ []) r st is.0 (made.by number method there) (gives_back method.result r [] is.3.1) caller last.is_at last.place last.is_line in
        record { is = (b.0, on_to program fit verified c is.0 b.0 is.1 b.1, b.2, is.3) }

    -- its last one, or an early one
    leave_runs : (o : Outcome (Option Value)) → Performs program fit verified c (Returning callee) (Returned t method.result) (Leaving program fit verified (InMethod method.result) callee t []) o →
        Follows program fit verified c (Back program fit verified methods down g pc s) (Returned t method.result) (with_locals locals o)
    leave_runs (Done r st) f = comes_back r st f.is
    leave_runs (Trapped k at w) f = record { is = f.is }
    leave_runs (Left (m.Returned r) st) f = comes_back r st (f.is.0, f.is.1, f.is.2.0, f.is.2.1)
    leave_runs (Left (m.Finished r) st) f = absurd f.is.2

  is_code : (m : ℕ) (method : Method) → slice_get methods m ≡ Some method → IsCode program fit verified m (method_code methods program.texts method)
  is_code m method there = record { code = ap code_of (made.by m method there); places = ap places_of (made.by m method there) }

  module _ (typed : (m : ℕ) (method : Method) → slice_get methods m ≡ Some method → IsTypedMethod program.shape methods m method) where
    pub calls_follow : (n : ℕ) → CallsFollow program fit verified methods n
    unfolding call_act method_code
    calls_follow zero m method there p vs down g pc s caller st t le q c a = absurd (omega (arith, le, q))
    calls_follow (suc n) m method there p vs down g pc s caller st t le q c a =
        subst (λ o. Follows program fit verified c (Back program fit verified methods down g pc s) (Returned t method.result) (run_method (call_act methods n) n o p vs st)) (sym there)
        (leave_runs m method there p down g pc t s st.locals caller c (body first) (run (calls_follow n) (surely_ends (steps_in method.body)) refl (typed m method there).last (has_all program fit verified m _ (is_code m method there))))
      where
        h' : Here
        h' = callee_of m p down g pc s st.locals

        first : State
        first = record { locals = with_blanks vs method.locals; world = st.world }

        body : Act (Option Value)
        body = effects (call_act methods n) n p (steps_in method.body) >> last_value (call_act methods n) n p method.last

        cb : List Line
        cb = steps_code methods program.texts 0 (steps_in method.body)

        none_more : 0 + length cb ≡ length cb
        none_more = omega arith

        Leaves : ℕ → Leave → State → Tour → Type 0
        Leaves t = Leaving program fit verified (InMethod method.result) h' t []

        lower : (st : State) (r : Option Value) → Returned (t - 1) method.result r st → Returned t method.result r st
        lower st r k = (omega (arith, k.0), k.1)

        After : Unit {0} → State → Tour → Type 0
        After = Onward program fit verified h' (0 + length cb) []

        statements : CallsFollow program fit verified methods n → HasAt program fit verified m 0 cb → Performs program fit verified c After (Low (t - 1)) (Leaves (t - 1)) (effects (call_act methods n) n p (steps_in method.body) first)
        statements ih has = effects_run program fit verified methods made n ih m method.locals method.class.0 (InMethod method.result) h' [] (steps_in method.body) (typed m method there).body 0 (t - 1) first c (omega (arith, le, q)) (omega (arith, q)) has a

        run : CallsFollow program fit verified methods n → (b : Bool) → surely_ends (steps_in method.body) ≡ b → IsTypedLast program.shape methods m method.locals method.class.0 b method.result method.last → HasAt program fit verified m 0 (cb ++ return_code methods program.texts (length cb) method.at b method.last) →
            Performs program fit verified c (Returning h') (Returned t method.result) (Leaves t) (body first)
        run ih true ended last has =
            bind_on program fit verified c (λ u st d. ⊥) (Low (t - 1)) (Leaves (t - 1)) (Returning h') (Returned t method.result) (Leaves t) (effects (call_act methods n) n p (steps_in method.body) first) (λ u. last_value (call_act methods n) n p method.last)
            (never_ends program fit verified c After (Low (t - 1)) (Leaves (t - 1)) (λ u st d. ⊥) (Low (t - 1)) (effects (call_act methods n) n p (steps_in method.body) first) (never_effects (call_act methods n) n p (steps_in method.body) ended first) (statements ih (has_front program fit verified m 0 cb _ has)))
            (leaving_lower program fit verified (InMethod method.result) h' (t - 1) t [] (omega arith)) (λ u st1 d a1 q1. absurd a1)
        run ih false ended last has =
            bind_on program fit verified c After (Low (t - 1)) (Leaves (t - 1)) (Returning h') (Returned t method.result) (Leaves t) (effects (call_act methods n) n p (steps_in method.body) first) (λ u. last_value (call_act methods n) n p method.last)
            (statements ih (has_front program fit verified m 0 cb _ has))
            (leaving_lower program fit verified (InMethod method.result) h' (t - 1) t [] (omega arith))
            (λ u st1 d a1 q1. performs program fit verified d (Returning h') (Returned t method.result) (Leaves t) (last_value (call_act methods n) n p method.last st1)
            (ends program fit verified d (Returning h') (Returned (t - 1) method.result) (Returning h') (Returned t method.result) (last_value (call_act methods n) n p method.last st1)
            (last_runs n ih m method.locals method.class.0 method.result method.last last h' (length cb) (t - 1) method.at st1 d (omega (arith, le, q)) q1 (subst (λ x. HasAt program fit verified m x (return_code methods program.texts (length cb) method.at false method.last)) none_more (has_back program fit verified m 0 cb _ has)) (place_is program fit verified h' (0 + length cb) (length cb) [] st1 d none_more a1))
            (λ r st2 d2 a2 k2. (a2, lower st2 r k2))))

    -- ---- events

    abbrev pub EndsAs : Outcome (Option Value) → Tour → Type 0
    EndsAs (Done r st) d = IsOver (record { outcome = outcome_of_reply r; messages = st.world.messages; created = st.world.created }) st.world d
    EndsAs (Trapped k at w) d = IsOver (trap_result k at) w d
    EndsAs (Left (m.Returned r) st) d = ⊥
    EndsAs (Left (m.Finished r) st) d = IsOver (record { outcome = outcome_of_reply r; messages = st.world.messages; created = st.world.created }) st.world d

    pub record Finishes (c : Tour) (o : Outcome (Option Value)) : Type 0 where
      pub is : (d : Tour) × Leads program fit verified c d × EndsAs o d

    pub finish : {A : Type 0} (c : Tour) (after : A → State → Tour → Type 0) (K : A → State → Type 0) (o : Outcome A) (f : A → Act (Option Value)) → Follows program fit verified c after K o → ((a : A) (st : State) (d : Tour) → after a st d → K a st → Finishes d (f a st)) → Finishes c (and_then o f)
    finish c after K (Done a st) f s g = let b = g a st s.is.0 s.is.2 s.is.3 in record { is = (b.is.0, on_to program fit verified c s.is.0 b.is.0 s.is.1 b.is.1, b.is.2) }
    finish c after K (Trapped k at w) f s g = record { is = s.is }
    finish c after K (Left x st) f s g = absurd s.is

    -- the same of statements, which may finish it
    pub finish_on : {A : Type 0} (reply : Option Kind) (h : Here) (t : ℕ) (s : List Value) (c : Tour) (after : A → State → Tour → Type 0) (K : A → State → Type 0) (o : Outcome A) (f : A → Act (Option Value)) → Performs program fit verified c after K (Leaving program fit verified (InEvent reply) h t s) o → ((a : A) (st : State) (d : Tour) → after a st d → K a st → Finishes d (f a st)) → Finishes c (and_then o f)
    finish_on reply h t s c after K (Done a st) f p g = let b = g a st p.is.0 p.is.2 p.is.3 in record { is = (b.is.0, on_to program fit verified c p.is.0 b.is.0 p.is.1 b.is.1, b.is.2) }
    finish_on reply h t s c after K (Trapped k at w) f p g = record { is = p.is }
    finish_on reply h t s c after K (Left (m.Returned r) st) f p g = absurd p.is.2
    finish_on reply h t s c after K (Left (m.Finished r) st) f p g = record { is = p.is }

    module _ (n t : ℕ) (le : t ≤ n) (limit : ℕ) (locals : List Kind) (at : Span) where
      reply_finish : (class : ℕ) (reply : Option Kind) (last : Option Last) → IsTypedLast program.shape methods limit locals class false reply last → (h : Here) (pc : ℕ) (st : State) (c : Tour) → st.world.ticks ≤ t → HasAt program fit verified h.fn pc (reply_code methods program.texts pc at false last) → At program fit verified h pc [] st c → Finishes c (last_value (call_act methods n) n h.at last st)
      reply_finish class None None typed h pc st c q has a = record { is = end_runs program fit verified h pc [] st c a at has.0 }
      reply_finish class None (Some last) typed h pc st c q has a = absurd typed
      reply_finish class (Some kind) None typed h pc st c q has a = absurd typed
      reply_finish class (Some kind) (Some last) typed h pc st c q has a =
          let ce = tree_code methods program.texts pc (tree_of last.value) in
          finish c (OnTop program fit verified methods h (pc + length ce) []) (Low t) (value (call_act methods n) h.at (tree_of last.value) st) (λ x. give (Some x))
          (value_runs program fit verified methods made n (calls_follow n) limit locals class h (tree_of last.value) kind typed t pc [] st c le q (has_front program fit verified h.fn pc ce _ has) a)
          (λ x st1 d a1 q1. record { is = reply_runs program fit verified h (pc + length ce) x [] st1 d a1 last.at (has_back program fit verified h.fn pc ce _ has).0 })

      -- the block of a phase, and what comes behind it
      through : (f : Phase) (fs : List Phase) (reply : Option Kind) (last : Option Last) (h : Here) (pc : ℕ) (st : State) (c : Tour) → AreTyped program.shape methods limit locals f.class.0 (InEvent reply) (steps_in f.body) → st.world.ticks ≤ t → At program fit verified h pc [] st c → (b : Bool) → surely_ends (steps_in f.body) ≡ b → AreTypedPhases program.shape methods limit locals f.class.0 b fs reply last →
          HasAt program fit verified h.fn pc (steps_code methods program.texts pc (steps_in f.body) ++ phases_code methods program.texts (pc + length (steps_code methods program.texts pc (steps_in f.body))) b fs at last) →
          (AreTypedPhases program.shape methods limit locals f.class.0 false fs reply last → (pc' : ℕ) (st' : State) (d : Tour) → st'.world.ticks ≤ t → HasAt program fit verified h.fn pc' (phases_code methods program.texts pc' false fs at last) → At program fit verified h pc' [] st' d → Finishes d (phases_run (call_act methods n) n fs last h.at st')) →
          Finishes c ((effects (call_act methods n) n h.at (steps_in f.body) >> phases_run (call_act methods n) n fs last h.at) st)
      through f fs reply last h pc st c body q a true ended typed has on =
          let cb = steps_code methods program.texts pc (steps_in f.body) in
          let o = effects (call_act methods n) n h.at (steps_in f.body) st in
          finish_on reply h t [] c (λ u st d. ⊥) (Low t) o (λ u. phases_run (call_act methods n) n fs last h.at)
          (never_ends program fit verified c (Onward program fit verified h (pc + length cb) []) (Low t) (Leaving program fit verified (InEvent reply) h t []) (λ u st d. ⊥) (Low t) o (never_effects (call_act methods n) n h.at (steps_in f.body) ended st)
          (effects_run program fit verified methods made n (calls_follow n) limit locals f.class.0 (InEvent reply) h [] (steps_in f.body) body pc t st c le q (has_front program fit verified h.fn pc cb _ has) a))
          (λ u st4 d4 a4 q4. absurd a4)
      through f fs reply last h pc st c body q a false ended typed has on =
          let cb = steps_code methods program.texts pc (steps_in f.body) in
          let o = effects (call_act methods n) n h.at (steps_in f.body) st in
          finish_on reply h t [] c (Onward program fit verified h (pc + length cb) []) (Low t) o (λ u. phases_run (call_act methods n) n fs last h.at)
          (effects_run program fit verified methods made n (calls_follow n) limit locals f.class.0 (InEvent reply) h [] (steps_in f.body) body pc t st c le q (has_front program fit verified h.fn pc cb _ has) a)
          (λ u st4 d4 a4 q4. on typed (pc + length cb) st4 d4 q4 (has_back program fit verified h.fn pc cb _ has) a4)

      pub phases_finish : (fs : List Phase) (class : ℕ) (reply : Option Kind) (last : Option Last) → AreTypedPhases program.shape methods limit locals class false fs reply last → (h : Here) (pc : ℕ) (st : State) (c : Tour) → st.world.ticks ≤ t → HasAt program fit verified h.fn pc (phases_code methods program.texts pc false fs at last) → At program fit verified h pc [] st c → Finishes c (phases_run (call_act methods n) n fs last h.at st)
      phases_finish [] class reply last typed h pc st c q has a = reply_finish class reply last typed h pc st c q has a
      phases_finish (f ∷ fs) class reply last typed h pc st c q has a =
          finish c (OnTop program fit verified methods h (pc + length ck) []) (Low t) (value (call_act methods n) h.at (tree_of f.key) st) (λ k. enter_at (child h.at f.class.0 k) f.at >> rest k)
          (value_runs program fit verified methods made n (calls_follow n) limit locals class h (tree_of f.key) k.Int typed.1 t pc [] st c le q (has_front program fit verified h.fn pc ck _ has) a)
          (λ k st1 d1 a1 q1. let h' = lower k in
          finish d1 (λ u st' d. At program fit verified h' (suc (pc + length ck)) [] (record { locals = st1.locals; world = releasing h'.at st'.world }) d) (λ u st'. (st'.locals ≡ st1.locals) × (st'.world.ticks ≡ st1.world.ticks)) (enter_at h'.at f.at st1) (λ u. rest k)
          (go_runs program fit verified h (pc + length ck) f.class.0 k [] st1 d1 a1 f.at l0.0)
          (λ u st2 d2 a2 k2. let st3 : State = record { locals = st2.locals; world = releasing h'.at st2.world } in
          through f fs reply last h' (pc + length ck + 1) st3 d2 typed.2
          (subst (λ x. x ≤ t) (sym k2.1) q1)
          (place_is program fit verified h' (suc (pc + length ck)) (pc + length ck + 1) [] st3 d2 (next (pc + length ck)) (subst (λ ls. At program fit verified h' (suc (pc + length ck)) [] (record { locals = ls; world = releasing h'.at st2.world }) d2) (sym k2.0) a2))
          (surely_ends (steps_in f.body)) refl typed.3 l0.1 (λ typed' pc' st4 d4 q4 has4 a4. phases_finish fs f.class.0 reply last typed' h' pc' st4 d4 q4 has4 a4)))
        where
          ck : List Line
          ck = tree_code methods program.texts pc (tree_of f.key)

          cb : List Line
          cb = steps_code methods program.texts (pc + length ck + 1) (steps_in f.body)

          rest : Value → Act (Option Value)
          rest k = release (child h.at f.class.0 k) >> (effects (call_act methods n) n (child h.at f.class.0 k) (steps_in f.body) >> phases_run (call_act methods n) n fs last (child h.at f.class.0 k))

          l0 : HasAt program fit verified h.fn (pc + length ck) (line (i.Go f.class) f.at ∷ (cb ++ phases_code methods program.texts (pc + length ck + 1 + length cb) (surely_ends (steps_in f.body)) fs at last))
          l0 = has_back program fit verified h.fn pc ck _ has

          lower : Value → Here
          lower k = record { fn = h.fn; at = child h.at f.class.0 k; down = h.down; below = h.below }
