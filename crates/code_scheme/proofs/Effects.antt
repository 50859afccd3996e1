-- The code of statements does what they mean.
use Rattle.std.proofs.Common.{◌≡◌, ℕ, suc, ◌+◌, ◌≤◌, ◌⊎◌, inl, inr, pos, List, [], ◌∷◌, ◌++◌, length, Bool, true, false, Option, Some, None, refl, sym, ap, ◌∙◌, subst, arith, length-append}
use Rattle.std.specs.Prelude.{slice_get, is_some}
use Rattle.wave_base.specs.declared.span.Span.{Span}
use Rattle.wave_base.specs.declared.value.Kind.{Kind}
use Rattle.wave_base.specs.declared.value.Kind.TheVariants as k
use Rattle.wave_base.specs.declared.value.Value.{Value}
use Rattle.wave_base.specs.declared.value.Value.TheVariants as v
use Rattle.value_ops.specs.Operators.{operators, takes_of, apply_row}
use Rattle.resolved_service.specs.declared.service.Method.{Method}
use Rattle.resolved_service.specs.Meaning.{State, Leave, Returned, Finished, Done, Act, and_then, give, leave, maybe_value, answer, with_world, choose, get_local, set_local, get_field, put_field, demand, row_add, row_lt, row_put, row_cut, value, values, call_act, while_turns, for_test, for_body, effect, effects, ◌>>=◌, ◌>>◌}
use Rattle.resolved_service.specs.Steps.{Step, SetLocal, SetField, PutLocal, PutField, CutLocal, CutField, If, While, For, Require, Send, Spawn, Do, Return, Finish, Steps, no_steps, step, no_else, otherwise, surely_ends}
use Rattle.resolved_service.specs.View.{Tree, Const, Local, Field, Above, Op, And, Or, Call, Child}
use Rattle.resolved_service.specs.World as world
use Rattle.resolved_service.specs.World.{is_true, sending, spawning}
use Rattle.service_code.specs.declared.instr.Instr.{Instr}
use Rattle.service_code.specs.declared.instr.Instr.TheVariants as i
use Rattle.service_code.specs.declared.program.Program.{Program}
use Rattle.service_verify.specs.Fit.{IsFit}
use Rattle.service_verify.specs.Points.{IsVerified}
use Rattle.service_verify.specs.Tours.{Tour}
use Rattle.code_scheme.specs.Scheme.{Line, line, gives_in, leaves_value, pop_code, finish_instr, behind, if_code, else_code, while_code, test_code, turn_code, loop_at, block_at, tree_code, trees_code, two_code, maybe_code, step_code, steps_code}
use Rattle.code_scheme.specs.Texts.{place_of_text}
use Rattle.code_scheme.specs.Typed.{Within, InMethod, InEvent, IsMethod, HasKind, IsSilent, IsTypedReturn, IsTypedFinish, IsTypedStep, AreTyped}
use Rattle.code_scheme.proofs.Follow.{Here, At, Leads, Follows, stay, place_is, bind, done, IsLine}
use Rattle.code_scheme.proofs.Finding.{Low}
use Rattle.code_scheme.proofs.Instructions.{row_runs, load_runs, store_runs, pop_runs, set_field_runs, put_local_runs, cut_local_runs, put_field_runs, cut_field_runs, require_runs, send_runs, spawn_runs, push_runs, Onward}
use Rattle.code_scheme.proofs.ChildCalls.{reply_runs, end_runs}
use Rattle.code_scheme.proofs.Leaving.{NeverDone, never_first, never_effects, assoc, Leaving, Performs, performs, bind_to, bind_on, never_ends, picks_on}
use Rattle.code_scheme.proofs.Looping.{Effect, Plain, ended, then_jump, while_runs}
use Rattle.code_scheme.proofs.Places.{next, HasAt, has_front, has_back, while_stands}
use Rattle.code_scheme.proofs.Values.{Counted, AreMade, CallsFollow, OnTop, OnTops, LeftOn, own_value, child_value, value_runs, values_run}

takes_lt : length (takes_of row_lt) ≡ 2
unfolding takes_of operators
takes_lt = refl

takes_add : length (takes_of row_add) ≡ 2
unfolding takes_of operators
takes_add = refl

module _ (methods : List Method) where
  gives_same : {class number : ℕ} {result : Option Kind} → IsMethod methods class number result → gives_in (slice_get methods number) ≡ is_some result
  gives_same is = ap gives_in is.is_there ∙ ap is_some is.result_is

module _ (program : Program) (fit : IsFit program) (verified : IsVerified program) (methods : List Method) (made : AreMade program fit verified methods) (n : ℕ) (calls : CallsFollow program fit verified methods n) where
  module _ (limit : ℕ) (locals : List Kind) (class : ℕ) where
    -- a value, and an instruction that takes it
    use_runs : (h : Here) (e : Tree) (kind : Kind) → HasKind program.shape methods limit locals class e kind → (t pc : ℕ) (at : Span) (ins : Instr) (s : List Value) (st : State) (c : Tour) → t ≤ n → st.world.ticks ≤ t → HasAt program fit verified h.fn pc (tree_code methods program.texts pc e ++ line ins at ∷ []) → At program fit verified h pc s st c → (f : Value → Act (Unit {0})) →
        ((pc' pc'' : ℕ) → suc pc' ≡ pc'' → IsLine program fit verified h.fn pc' ins at → (x : Value) (st' : State) (d : Tour) → st'.world.ticks ≤ t → At program fit verified h pc' (x ∷ s) st' d → Follows program fit verified d (Onward program fit verified h pc'' s) (Low t) (f x st')) →
        Follows program fit verified c (Onward program fit verified h (pc + length (tree_code methods program.texts pc e ++ line ins at ∷ [])) s) (Low t) (and_then (value (call_act methods n) h.at e st) f)
    use_runs h e kind typed t pc at ins s st c le q has a f r =
        let ce = tree_code methods program.texts pc e in
        let end = pc + length (ce ++ line ins at ∷ []) in
        let len : suc (pc + length ce) ≡ end = omega (arith, length-append ce (line ins at ∷ [])) in
        bind program fit verified c (OnTop program fit verified methods h (pc + length ce) s) (Low t) (Onward program fit verified h end s) (Low t) (value (call_act methods n) h.at e st) f
        (value_runs program fit verified methods made n calls limit locals class h e kind typed t pc s st c le q (has_front program fit verified h.fn pc ce _ has) a)
        (λ x st1 d a1 q1. r (pc + length ce) end len (has_back program fit verified h.fn pc ce _ has).0 x st1 d q1 a1)

    -- two values, and an instruction that takes them
    two_runs : (h : Here) (e e' : Tree) (kind kind' : Kind) → HasKind program.shape methods limit locals class e kind → HasKind program.shape methods limit locals class e' kind' → (t pc : ℕ) (at : Span) (ins : Instr) (s : List Value) (st : State) (c : Tour) → t ≤ n → st.world.ticks ≤ t → HasAt program fit verified h.fn pc (two_code methods program.texts pc e e' (line ins at)) → At program fit verified h pc s st c → (f : Value → Value → Act (Unit {0})) →
        ((pc' pc'' : ℕ) → suc pc' ≡ pc'' → IsLine program fit verified h.fn pc' ins at → (x y : Value) (st' : State) (d : Tour) → st'.world.ticks ≤ t → At program fit verified h pc' (y ∷ x ∷ s) st' d → Follows program fit verified d (Onward program fit verified h pc'' s) (Low t) (f x y st')) →
        Follows program fit verified c (Onward program fit verified h (pc + length (two_code methods program.texts pc e e' (line ins at))) s) (Low t) (and_then (value (call_act methods n) h.at e st) (λ x. value (call_act methods n) h.at e' >>= f x))
    two_runs h e e' kind kind' typed typed' t pc at ins s st c le q has a f r =
        let ce = tree_code methods program.texts pc e in
        let pe = pc + length ce in
        let ce' = tree_code methods program.texts pe e' in
        let end = pc + length (ce ++ (ce' ++ line ins at ∷ [])) in
        let len : suc (pe + length ce') ≡ end = omega (arith, length-append ce (ce' ++ line ins at ∷ []), length-append ce' (line ins at ∷ [])) in
        let hb = has_back program fit verified h.fn pc ce _ has in
        bind program fit verified c (OnTop program fit verified methods h pe s) (Low t) (Onward program fit verified h end s) (Low t) (value (call_act methods n) h.at e st) (λ x. value (call_act methods n) h.at e' >>= f x)
        (value_runs program fit verified methods made n calls limit locals class h e kind typed t pc s st c le q (has_front program fit verified h.fn pc ce _ has) a)
        (λ x st1 d a1 q1. bind program fit verified d (OnTop program fit verified methods h (pe + length ce') (x ∷ s)) (Low t) (Onward program fit verified h end s) (Low t) (value (call_act methods n) h.at e' st1) (f x)
        (value_runs program fit verified methods made n calls limit locals class h e' kind' typed' t pe (x ∷ s) st1 d le q1 (has_front program fit verified h.fn pe ce' _ hb) a1)
        (λ y st2 d2 a2 q2. r (pe + length ce') end len (has_back program fit verified h.fn pe ce' _ hb).0 x y st2 d2 q2 a2))

    stored : (h : Here) (pc pc' t x : ℕ) (s : List Value) (at : Span) → suc pc ≡ pc' → IsLine program fit verified h.fn pc (i.Store x) at → (y : Value) (st : State) (d : Tour) → st.world.ticks ≤ t → At program fit verified h pc (y ∷ s) st d → Follows program fit verified d (Onward program fit verified h pc' s) (Low t) (set_local x y st)
    stored h pc pc' t x s at e l y st d q a = let r = store_runs program fit verified h pc pc' x y s st d a at e l in record { is = (r.0, r.1, r.2, q) }

    field_stored : (h : Here) (pc pc' t x : ℕ) (s : List Value) (at : Span) → suc pc ≡ pc' → IsLine program fit verified h.fn pc (i.SetField x) at → (y : Value) (st : State) (d : Tour) → st.world.ticks ≤ t → At program fit verified h pc (y ∷ s) st d → Follows program fit verified d (Onward program fit verified h pc' s) (Low t) (put_field x h.at y st)
    unfolding world.set_field
    field_stored h pc pc' t x s at e l y st d q a = let r = set_field_runs program fit verified h pc pc' x y s st d a at e l in record { is = (r.0, r.1, r.2, q) }

    module _ (w : Within) where
      abbrev Leaves : Here → ℕ → List Value → Leave → State → Tour → Type 0
      Leaves h t s = Leaving program fit verified w h t s

      if_runs : (h : Here) (pc : ℕ) (at : Span) (s : List Value) (e : Tree) (ca : List Line) (fa : Act (Unit {0})) → HasKind program.shape methods limit locals class e k.Bool → Effect program fit verified methods n w h ca (pc + length (tree_code methods program.texts pc e) + 1) s fa →
          Effect program fit verified methods n w h (if_code pc at (tree_code methods program.texts pc e) ca) pc s (λ st. and_then (value (call_act methods n) h.at e st) (λ v. choose (is_true v) fa (give tt)))
      if_runs h pc at s e ca fa typed ra t st c le q has a =
          let ct = tree_code methods program.texts pc e in
          let x = pc + length ct + 1 + length ca in
          let end = pc + length (if_code pc at ct ca) in
          let l = has_back program fit verified h.fn pc ct _ has in
          let len : x ≡ end = omega (arith, length-append ct (line (i.JumpFalse x) at ∷ ca)) in
          bind_to program fit verified c (OnTop program fit verified methods h (pc + length ct) s) (Low t) (Onward program fit verified h end s) (Low t) (Leaves h t s) (value (call_act methods n) h.at e st) (λ v. choose (is_true v) fa (give tt))
          (value_runs program fit verified methods made n calls limit locals class h e k.Bool typed t pc s st c le q (has_front program fit verified h.fn pc ct _ has) a)
          (λ v st1 d a1 q1. picks_on program fit verified h (pc + length ct) x v s st1 d a1 at l.0 (Onward program fit verified h end s) (Low t) (Leaves h t s) fa (give tt)
          (λ d2 a2. ended program fit verified methods n w h x end t s d2 (fa st1) len (ra t st1 d2 le q1 l.1 a2))
          (λ d2 a2. performs program fit verified d2 (Onward program fit verified h end s) (Low t) (Leaves h t s) (Done tt st1) (done program fit verified d2 (Onward program fit verified h end s) (Low t) tt st1 (place_is program fit verified h x end s st1 d2 len a2) q1)))

      else_runs : (h : Here) (pc : ℕ) (at : Span) (s : List Value) (e : Tree) (b : Bool) (ca cb : List Line) (fa fb : Act (Unit {0})) → HasKind program.shape methods limit locals class e k.Bool → (b ≡ true → (st : State) → NeverDone (fa st)) → Effect program fit verified methods n w h ca (pc + length (tree_code methods program.texts pc e) + 1) s fa → Effect program fit verified methods n w h cb (behind b (pc + length (tree_code methods program.texts pc e) + 1 + length ca)) s fb →
          Effect program fit verified methods n w h (else_code pc at (tree_code methods program.texts pc e) b ca cb) pc s (λ st. and_then (value (call_act methods n) h.at e st) (λ v. choose (is_true v) fa fb))
      else_runs h pc at s e true ca cb fa fb typed never ra rb t st c le q has a =
          let ct = tree_code methods program.texts pc e in
          let f = pc + length ct + 1 + length ca in
          let x = f + length cb in
          let end = pc + length (else_code pc at ct true ca cb) in
          let l = has_back program fit verified h.fn pc ct _ has in
          let l1 = has_back program fit verified h.fn (pc + length ct + 1) ca cb l.1 in
          let len : x ≡ end = omega (arith, length-append ct (line (i.JumpFalse f) at ∷ (ca ++ cb)), length-append ca cb) in
          bind_to program fit verified c (OnTop program fit verified methods h (pc + length ct) s) (Low t) (Onward program fit verified h end s) (Low t) (Leaves h t s) (value (call_act methods n) h.at e st) (λ v. choose (is_true v) fa fb)
          (value_runs program fit verified methods made n calls limit locals class h e k.Bool typed t pc s st c le q (has_front program fit verified h.fn pc ct _ has) a)
          (λ v st1 d a1 q1. picks_on program fit verified h (pc + length ct) f v s st1 d a1 at l.0 (Onward program fit verified h end s) (Low t) (Leaves h t s) fa fb
          (λ d2 a2. never_ends program fit verified d2 (Onward program fit verified h f s) (Low t) (Leaves h t s) (Onward program fit verified h end s) (Low t) (fa st1) (never refl st1) (ra t st1 d2 le q1 (has_front program fit verified h.fn _ ca cb l.1) a2))
          (λ d2 a2. ended program fit verified methods n w h x end t s d2 (fb st1) len (rb t st1 d2 le q1 l1 a2)))
      else_runs h pc at s e false ca cb fa fb typed never ra rb t st c le q has a =
          let ct = tree_code methods program.texts pc e in
          let f = pc + length ct + 1 + length ca + 1 in
          let x = f + length cb in
          let end = pc + length (else_code pc at ct false ca cb) in
          let l = has_back program fit verified h.fn pc ct _ has in
          let l1 = has_back program fit verified h.fn (pc + length ct + 1) ca _ l.1 in
          let len : x ≡ end = omega (arith, length-append ct (line (i.JumpFalse f) at ∷ (ca ++ line (i.Jump x) at ∷ cb)), length-append ca (line (i.Jump x) at ∷ cb)) in
          bind_to program fit verified c (OnTop program fit verified methods h (pc + length ct) s) (Low t) (Onward program fit verified h end s) (Low t) (Leaves h t s) (value (call_act methods n) h.at e st) (λ v. choose (is_true v) fa fb)
          (value_runs program fit verified methods made n calls limit locals class h e k.Bool typed t pc s st c le q (has_front program fit verified h.fn pc ct _ has) a)
          (λ v st1 d a1 q1. picks_on program fit verified h (pc + length ct) f v s st1 d a1 at l.0 (Onward program fit verified h end s) (Low t) (Leaves h t s) fa fb
          (λ d2 a2. then_jump program fit verified methods n w h (pc + length ct + 1 + length ca) x t s at l1.0 end len d2 (fa st1) (ra t st1 d2 le q1 (has_front program fit verified h.fn _ ca _ l.1) a2))
          (λ d2 a2. ended program fit verified methods n w h x end t s d2 (fb st1) len (rb t st1 d2 le q1 l1.1 a2)))

      then_runs : (h : Here) (pc : ℕ) (s : List Value) (ca cb : List Line) (fa fb : Act (Unit {0})) → Effect program fit verified methods n w h ca pc s fa → Effect program fit verified methods n w h cb (pc + length ca) s fb → Effect program fit verified methods n w h (ca ++ cb) pc s (fa >> fb)
      then_runs h pc s ca cb fa fb ra rb t st c le q has a =
          let len : pc + length ca + length cb ≡ pc + length (ca ++ cb) = omega (arith, length-append ca cb) in
          bind_on program fit verified c (Onward program fit verified h (pc + length ca) s) (Low t) (Leaves h t s) (Onward program fit verified h (pc + length (ca ++ cb)) s) (Low t) (Leaves h t s) (fa st) (λ u. fb) (ra t st c le q (has_front program fit verified h.fn pc ca _ has) a) (λ l st d x. x)
          (λ u st1 d a1 q1. ended program fit verified methods n w h (pc + length ca + length cb) _ t s d (fb st1) len (rb t st1 d le q1 (has_back program fit verified h.fn pc ca cb has) a1))

      -- a turn of a loop over numbers
      turn_runs : (h : Here) (b0 : ℕ) (at : Span) (counter : ℕ) (s : List Value) (b : Bool) (cb : List Line) (fb : Act (Unit {0})) → (b ≡ true → (st : State) → NeverDone (fb st)) → Effect program fit verified methods n w h cb (b0 + 1 + 1) s fb → Effect program fit verified methods n w h (turn_code counter at b cb) b0 s (for_body counter at fb)
      turn_runs h b0 at counter s true cb fb never rb t st c le q lb a =
          let turned = Onward program fit verified h (b0 + length (turn_code counter at true cb)) s in
          bind_to program fit verified c (OnTop program fit verified methods h (b0 + 1) s) (Low t) turned (Low t) (Leaves h t s) (get_local counter st) (λ i. set_local (counter + 2) i >> (fb >> (get_local counter >>= (λ j. answer (apply_row row_add (j ∷ v.Int (pos 1) ∷ [])) at >>= set_local counter))))
          (load_runs program fit verified h b0 (b0 + 1) t counter s st c a at (next b0) lb.0 q)
          (λ x st1 d1 a1 q1. bind_to program fit verified d1 (Onward program fit verified h (b0 + 1 + 1) s) (Low t) turned (Low t) (Leaves h t s) (set_local (counter + 2) x st1) (λ u. fb >> (get_local counter >>= (λ j. answer (apply_row row_add (j ∷ v.Int (pos 1) ∷ [])) at >>= set_local counter)))
          (stored h (b0 + 1) (b0 + 1 + 1) t (counter + 2) s at (next (b0 + 1)) lb.1.0 x st1 d1 q1 a1)
          (λ u st2 d2 a2 q2. bind_on program fit verified d2 (λ u st d. ⊥) (Low t) (Leaves h t s) turned (Low t) (Leaves h t s) (fb st2) (λ u. get_local counter >>= (λ j. answer (apply_row row_add (j ∷ v.Int (pos 1) ∷ [])) at >>= set_local counter))
          (never_ends program fit verified d2 (Onward program fit verified h (b0 + 1 + 1 + length cb) s) (Low t) (Leaves h t s) (λ u st d. ⊥) (Low t) (fb st2) (never refl st2) (rb t st2 d2 le q2 lb.1.1 a2)) (λ l st d x. x)
          (λ u st3 d3 a3 q3. absurd a3)))
      turn_runs h b0 at counter s false cb fb never rb t st c le q lb a =
          let last_of = line (i.Load counter) at ∷ line (i.PushInt (pos 1)) at ∷ line (i.Op row_add) at ∷ line (i.Store counter) at ∷ [] in
          let e0 = b0 + 1 + 1 + length cb in
          let le0 = has_back program fit verified h.fn (b0 + 1 + 1) cb last_of lb.1.1 in
          let turned = Onward program fit verified h (b0 + length (turn_code counter at false cb)) s in
          let len' : suc (e0 + 1 + 1 + 1) ≡ b0 + length (turn_code counter at false cb) = omega (arith, length-append cb last_of) in
          bind_to program fit verified c (OnTop program fit verified methods h (b0 + 1) s) (Low t) turned (Low t) (Leaves h t s) (get_local counter st) (λ i. set_local (counter + 2) i >> (fb >> (get_local counter >>= (λ j. answer (apply_row row_add (j ∷ v.Int (pos 1) ∷ [])) at >>= set_local counter))))
          (load_runs program fit verified h b0 (b0 + 1) t counter s st c a at (next b0) lb.0 q)
          (λ x st1 d1 a1 q1. bind_to program fit verified d1 (Onward program fit verified h (b0 + 1 + 1) s) (Low t) turned (Low t) (Leaves h t s) (set_local (counter + 2) x st1) (λ u. fb >> (get_local counter >>= (λ j. answer (apply_row row_add (j ∷ v.Int (pos 1) ∷ [])) at >>= set_local counter)))
          (stored h (b0 + 1) (b0 + 1 + 1) t (counter + 2) s at (next (b0 + 1)) lb.1.0 x st1 d1 q1 a1)
          (λ u st2 d2 a2 q2. bind_on program fit verified d2 (Onward program fit verified h e0 s) (Low t) (Leaves h t s) turned (Low t) (Leaves h t s) (fb st2) (λ u. get_local counter >>= (λ j. answer (apply_row row_add (j ∷ v.Int (pos 1) ∷ [])) at >>= set_local counter))
          (rb t st2 d2 le q2 (has_front program fit verified h.fn (b0 + 1 + 1) cb last_of lb.1.1) a2) (λ l st d x. x)
          (λ u st3 d3 a3 q3. performs program fit verified d3 turned (Low t) (Leaves h t s) ((get_local counter >>= (λ j. answer (apply_row row_add (j ∷ v.Int (pos 1) ∷ [])) at >>= set_local counter)) st3)
          (bind program fit verified d3 (OnTop program fit verified methods h (e0 + 1) s) (Low t) turned (Low t) (get_local counter st3) (λ j. answer (apply_row row_add (j ∷ v.Int (pos 1) ∷ [])) at >>= set_local counter)
          (load_runs program fit verified h e0 (e0 + 1) t counter s st3 d3 a3 at (next e0) le0.0 q3)
          (λ y st4 d4 a4 q4. bind program fit verified d4 (OnTop program fit verified methods h (e0 + 1 + 1) (y ∷ s)) (Low t) turned (Low t) (Done (v.Int (pos 1)) st4) (λ one. answer (apply_row row_add (y ∷ one ∷ [])) at >>= set_local counter)
          (push_runs program fit verified h (e0 + 1) (e0 + 1 + 1) (y ∷ s) st4 d4 a4 (i.PushInt (pos 1)) at le0.1.0 (v.Int (pos 1)) (Low t) (next (e0 + 1)) refl q4)
          (λ one st5 d5 a5 q5. bind program fit verified d5 (OnTop program fit verified methods h (e0 + 1 + 1 + 1) s) (Low t) turned (Low t) (answer (apply_row row_add (y ∷ one ∷ [])) at st5) (set_local counter)
          (row_runs program fit verified h (e0 + 1 + 1) (e0 + 1 + 1 + 1) t row_add (y ∷ one ∷ []) s st5 d5 a5 at (next (e0 + 1 + 1)) takes_add le0.1.1.0 q5)
          (λ z st6 d6 a6 q6. stored h (e0 + 1 + 1 + 1) (b0 + length (turn_code counter at false cb)) t counter s at len' le0.1.1.1.0 z st6 d6 q6 a6)))))))

      never_turn : (counter : ℕ) (at : Span) (fb : Act (Unit {0})) → ((st : State) → NeverDone (fb st)) → (st : State) → NeverDone (for_body counter at fb st)
      never_turn counter at fb never st = never_first (fb _) _ (never _)

      for_runs : (h : Here) (pc : ℕ) (at : Span) (counter : ℕ) (s : List Value) (from to : Tree) (b : Bool) (cb : List Line) (fb : Act (Unit {0})) → HasKind program.shape methods limit locals class from k.Int → HasKind program.shape methods limit locals class to k.Int → (b ≡ true → (st : State) → NeverDone (fb st)) →
          Effect program fit verified methods n w h cb (block_at (loop_at pc (length (tree_code methods program.texts pc from)) (length (tree_code methods program.texts (pc + length (tree_code methods program.texts pc from) + 1) to)))) s fb →
          Effect program fit verified methods n w h (tree_code methods program.texts pc from ++ line (i.Store counter) at ∷ (tree_code methods program.texts (pc + length (tree_code methods program.texts pc from) + 1) to ++ line (i.Store (counter + 1)) at ∷ while_code (loop_at pc (length (tree_code methods program.texts pc from)) (length (tree_code methods program.texts (pc + length (tree_code methods program.texts pc from) + 1) to))) at (test_code counter at) b (turn_code counter at b cb))) pc s
          (value (call_act methods n) h.at from >>= (λ a. set_local counter a >> (value (call_act methods n) h.at to >>= (λ b. set_local (counter + 1) b >> while_turns n (for_test counter at) (for_body counter at fb) at))))
      for_runs h pc at counter s from to b cb fb typed_from typed_to never rb t st c le q has a =
          bind_to program fit verified c (OnTop program fit verified methods h (pc + length cf) s) (Low t) After (Low t) (Leaves h t s) (value (call_act methods n) h.at from st) (λ a. set_local counter a >> (value (call_act methods n) h.at to >>= (λ b. set_local (counter + 1) b >> while_turns n test body at)))
          (value_runs program fit verified methods made n calls limit locals class h from k.Int typed_from t pc s st c le q (has_front program fit verified h.fn pc cf _ has) a)
          (λ x st1 d1 a1 q1. bind_to program fit verified d1 (Onward program fit verified h p1 s) (Low t) After (Low t) (Leaves h t s) (set_local counter x st1) (λ u. value (call_act methods n) h.at to >>= (λ b. set_local (counter + 1) b >> while_turns n test body at))
          (stored h (pc + length cf) p1 t counter s at (next (pc + length cf)) l0.0 x st1 d1 q1 a1)
          (λ u st2 d2 a2 q2. bind_to program fit verified d2 (OnTop program fit verified methods h (p1 + length ct) s) (Low t) After (Low t) (Leaves h t s) (value (call_act methods n) h.at to st2) (λ b. set_local (counter + 1) b >> while_turns n test body at)
          (value_runs program fit verified methods made n calls limit locals class h to k.Int typed_to t p1 s st2 d2 le q2 (has_front program fit verified h.fn p1 ct _ l0.1) a2)
          (λ y st3 d3 a3 q3. bind_to program fit verified d3 (Onward program fit verified h m s) (Low t) After (Low t) (Leaves h t s) (set_local (counter + 1) y st3) (λ u. while_turns n test body at)
          (stored h (p1 + length ct) m t (counter + 1) s at (next (p1 + length ct)) l1.0 y st3 d3 q3 a3)
          (λ u st4 d4 a4 q4. ended program fit verified methods n w h (m + length loop) end t s d4 (while_turns n test body at st4) len
          (while_runs program fit verified methods n w h m at s (test_code counter at) b (turn_code counter at b cb) test body l1.1 (λ e. never_turn counter at fb (never e)) test_runs
          (λ t' le' st' c' q' a'. turn_runs h (m + 3 + 1 + 1) at counter s b cb fb never rb t' st' c' le' q' stands.1 a') n t le le st4 d4 q4 a4)))))
        where
          cf : List Line
          cf = tree_code methods program.texts pc from

          p1 : ℕ
          p1 = pc + length cf + 1

          ct : List Line
          ct = tree_code methods program.texts p1 to

          m : ℕ
          m = p1 + length ct + 1

          loop : List Line
          loop = while_code m at (test_code counter at) b (turn_code counter at b cb)

          test : Act Value
          test = for_test counter at

          body : Act (Unit {0})
          body = for_body counter at fb

          end : ℕ
          end = pc + length (cf ++ line (i.Store counter) at ∷ (ct ++ line (i.Store (counter + 1)) at ∷ loop))

          After : Unit {0} → State → Tour → Type 0
          After = Onward program fit verified h end s

          l0 : HasAt program fit verified h.fn (pc + length cf) (line (i.Store counter) at ∷ (ct ++ line (i.Store (counter + 1)) at ∷ loop))
          l0 = has_back program fit verified h.fn pc cf _ has

          l1 : HasAt program fit verified h.fn (p1 + length ct) (line (i.Store (counter + 1)) at ∷ loop)
          l1 = has_back program fit verified h.fn p1 ct _ l0.1

          len : m + length loop ≡ end
          len = omega (arith, length-append cf (line (i.Store counter) at ∷ (ct ++ line (i.Store (counter + 1)) at ∷ loop)), length-append ct (line (i.Store (counter + 1)) at ∷ loop))

          stands : HasAt program fit verified h.fn m (test_code counter at) × HasAt program fit verified h.fn (m + 3 + 1 + 1) (turn_code counter at b cb)
          stands = while_stands program fit verified h.fn m at (test_code counter at) b (turn_code counter at b cb) l1.1

          test_runs : (t : ℕ) → t ≤ n → (st : State) (c : Tour) → st.world.ticks ≤ t → At program fit verified h m s st c → Follows program fit verified c (OnTop program fit verified methods h (m + 3) s) (Low t) (test st)
          test_runs t le st c q a =
              let lt = stands.0 in
              let e : suc (m + 1 + 1) ≡ m + 3 = omega arith in
              bind program fit verified c (OnTop program fit verified methods h (m + 1) s) (Low t) (OnTop program fit verified methods h (m + 3) s) (Low t) (get_local counter st) (λ i. get_local (counter + 1) >>= (λ bound. answer (apply_row row_lt (i ∷ bound ∷ [])) at))
              (load_runs program fit verified h m (m + 1) t counter s st c a at (next m) lt.0 q)
              (λ x st1 d1 a1 q1. bind program fit verified d1 (OnTop program fit verified methods h (m + 1 + 1) (x ∷ s)) (Low t) (OnTop program fit verified methods h (m + 3) s) (Low t) (get_local (counter + 1) st1) (λ bound. answer (apply_row row_lt (x ∷ bound ∷ [])) at)
              (load_runs program fit verified h (m + 1) (m + 1 + 1) t (counter + 1) (x ∷ s) st1 d1 a1 at (next (m + 1)) lt.1.0 q1)
              (λ y st2 d2 a2 q2. row_runs program fit verified h (m + 1 + 1) (m + 3) t row_lt (x ∷ y ∷ []) s st2 d2 a2 at e takes_lt lt.1.1.0 q2))

    leaves_true : (e : Tree) (kind : Kind) → HasKind program.shape methods limit locals class e kind → leaves_value methods e ≡ true
    leaves_true (Const at x) kind typed = refl
    leaves_true (Local at x) kind typed = refl
    leaves_true (Field at x) kind typed = refl
    leaves_true (Above at l x) kind typed = refl
    leaves_true (Op at r args) kind typed = refl
    leaves_true (And at x y) kind typed = refl
    leaves_true (Or at x y) kind typed = refl
    leaves_true (Call at m args) kind typed = gives_same methods typed.1.0
    leaves_true (Child at c m key args) kind typed = gives_same methods typed.2.0

    -- a call as a statement
    do_runs : (h : Here) (pc : ℕ) (at : Span) (s : List Value) (e : Tree) → ((kind : Kind) × HasKind program.shape methods limit locals class e kind) ⊎ IsSilent program.shape methods limit locals class e →
        Plain program fit verified methods n h (tree_code methods program.texts pc e ++ pop_code (leaves_value methods e) at) pc s (value (call_act methods n) h.at e >> give tt)
    do_runs h pc at s e (inl (kind, typed)) t st c le q has a =
        let ce = tree_code methods program.texts pc e in
        subst (λ b. Follows program fit verified c (Onward program fit verified h (pc + length (ce ++ pop_code b at)) s) (Low t) ((value (call_act methods n) h.at e >> give tt) st)) (sym (leaves_true e kind typed))
        (use_runs h e kind typed t pc at i.Pop s st c le q (subst (λ b. HasAt program fit verified h.fn pc (ce ++ pop_code b at)) (leaves_true e kind typed) has) a (λ x. give tt)
        (λ pc' pc'' e' l x st' d q' a'. let r = pop_runs program fit verified h pc' pc'' x s st' d a' at e' l in record { is = (r.0, r.1, r.2, q') }))
    do_runs h pc at s (Call at' m args) (inr silent) t st c le q has a =
        let ca = trees_code methods program.texts pc args in
        let code = ca ++ line i.Tick at' ∷ line (i.Call m) at' ∷ [] in
        subst (λ b. Follows program fit verified c (Onward program fit verified h (pc + length (code ++ pop_code b at)) s) (Low t) ((value (call_act methods n) h.at (Call at' m args) >> give tt) st)) (sym (gives_same methods silent.1.0))
        (bind program fit verified c (LeftOn program fit verified methods h (pc + length code) s None) (Low t) (Onward program fit verified h (pc + length (code ++ [])) s) (Low t) (value (call_act methods n) h.at (Call at' m args) st) (λ x. give tt)
        (own_value program fit verified methods made n calls h pc t class m None at' s c ca (values (call_act methods n) h.at args st) le silent.1.0 (has_front program fit verified h.fn pc code _ has)
        (values_run program fit verified methods made n calls limit locals class h args silent.1.0.method.params silent.1.1 t pc s st c le q (has_front program fit verified h.fn pc ca _ (has_front program fit verified h.fn pc code _ has)) a))
        (λ x st1 d a1 q1. done program fit verified d (Onward program fit verified h (pc + length (code ++ [])) s) (Low t) tt st1 (place_is program fit verified h (pc + length code) _ s st1 d (omega (arith, length-append code [])) a1) q1))
    do_runs h pc at s (Child at' cls m key args) (inr silent) t st c le q has a =
        let ck = tree_code methods program.texts pc key in
        let ca = trees_code methods program.texts (pc + length ck) args in
        let code = ck ++ (ca ++ line i.Tick at' ∷ line (i.CallDown (record { 0 = cls }) m) at' ∷ []) in
        let hc = has_front program fit verified h.fn pc code _ has in
        subst (λ b. Follows program fit verified c (Onward program fit verified h (pc + length (code ++ pop_code b at)) s) (Low t) ((value (call_act methods n) h.at (Child at' cls m key args) >> give tt) st)) (sym (gives_same methods silent.2.0))
        (bind program fit verified c (LeftOn program fit verified methods h (pc + length code) s None) (Low t) (Onward program fit verified h (pc + length (code ++ [])) s) (Low t) (value (call_act methods n) h.at (Child at' cls m key args) st) (λ x. give tt)
        (child_value program fit verified methods made n calls h pc t cls m None at' s c ck ca (value (call_act methods n) h.at key st) (values (call_act methods n) h.at args) le silent.2.0 hc
        (value_runs program fit verified methods made n calls limit locals class h key k.Int silent.1 t pc s st c le q (has_front program fit verified h.fn pc ck _ hc) a)
        (λ x st1 d q1 a1. values_run program fit verified methods made n calls limit locals class h args silent.2.0.method.params silent.2.1 t (pc + length ck) (x ∷ s) st1 d le q1 (has_front program fit verified h.fn (pc + length ck) ca _ (has_back program fit verified h.fn pc ck _ hc)) a1))
        (λ x st1 d a1 q1. done program fit verified d (Onward program fit verified h (pc + length (code ++ [])) s) (Low t) tt st1 (place_is program fit verified h (pc + length code) _ s st1 d (omega (arith, length-append code [])) a1) q1))
    do_runs h pc at s (Const at' x) (inr silent) t st c le q has a = absurd silent
    do_runs h pc at s (Local at' x) (inr silent) t st c le q has a = absurd silent
    do_runs h pc at s (Field at' x) (inr silent) t st c le q has a = absurd silent
    do_runs h pc at s (Above at' l x) (inr silent) t st c le q has a = absurd silent
    do_runs h pc at s (Op at' r args) (inr silent) t st c le q has a = absurd silent
    do_runs h pc at s (And at' x y) (inr silent) t st c le q has a = absurd silent
    do_runs h pc at s (Or at' x y) (inr silent) t st c le q has a = absurd silent

    -- a value that is given where one is due
    module _ (w : Within) (h : Here) (pc : ℕ) (at : Span) (s : List Value) where
      -- the value that a return or a finish gives, and then what it does
      given_runs : (e : Tree) (kind : Kind) → HasKind program.shape methods limit locals class e kind → (ins : Instr) (why : Option Value → Leave) (t : ℕ) (st : State) (c : Tour) → t ≤ n → st.world.ticks ≤ t → HasAt program fit verified h.fn pc (tree_code methods program.texts pc e ++ line ins at ∷ []) → At program fit verified h pc s st c →
          ((pc' : ℕ) (x : Value) (st1 : State) (d : Tour) → IsLine program fit verified h.fn pc' ins at → At program fit verified h pc' (x ∷ s) st1 d → st1.world.ticks ≤ t → (d' : Tour) × Leads program fit verified d d' × Leaving program fit verified w h t s (why (Some x)) st1 d') →
          Performs program fit verified c (Onward program fit verified h (pc + length (tree_code methods program.texts pc e ++ line ins at ∷ [])) s) (Low t) (Leaving program fit verified w h t s) ((maybe_value (call_act methods n) n h.at (Some e) >>= leave why) st)
      given_runs e kind typed ins why t st c le q has a f =
          let ce = tree_code methods program.texts pc e in
          let end = Onward program fit verified h (pc + length (ce ++ line ins at ∷ [])) s in
          subst (λ o. Performs program fit verified c end (Low t) (Leaving program fit verified w h t s) o) (sym (assoc (value (call_act methods n) h.at e st) (λ x. give (Some x)) (leave why)))
          (bind_to program fit verified c (OnTop program fit verified methods h (pc + length ce) s) (Low t) end (Low t) (Leaving program fit verified w h t s) (value (call_act methods n) h.at e st) (λ x. leave why (Some x))
          (value_runs program fit verified methods made n calls limit locals class h e kind typed t pc s st c le q (has_front program fit verified h.fn pc ce _ has) a)
          (λ x st1 d a1 q1. record { is = f (pc + length ce) x st1 d (has_back program fit verified h.fn pc ce _ has).0 a1 q1 }))

    return_runs : (w : Within) (h : Here) (pc : ℕ) (at : Span) (s : List Value) (e : Option Tree) → IsTypedReturn program.shape methods limit locals class w e → Effect program fit verified methods n w h (maybe_code methods program.texts pc e ++ line i.Return at ∷ []) pc s (maybe_value (call_act methods n) n h.at e >>= leave Returned)
    return_runs (InMethod None) h pc at s None typed t st c le q has a = record { is = (c, stay program fit verified c, (record { pc = pc; place = at; is_line = has.0; is_at = a }, (q, tt))) }
    return_runs (InMethod None) h pc at s (Some e) typed t st c le q has a = absurd typed
    return_runs (InMethod (Some kind)) h pc at s None typed t st c le q has a = absurd typed
    return_runs (InMethod (Some kind)) h pc at s (Some e) typed t st c le q has a =
        given_runs (InMethod (Some kind)) h pc at s e kind typed i.Return Returned t st c le q has a
        (λ pc' x st1 d l a1 q1. (d, stay program fit verified d, (record { pc = pc'; place = at; is_line = l; is_at = a1 }, (q1, tt))))
    return_runs (InEvent reply) h pc at s e typed t st c le q has a = absurd typed

    finish_runs : (w : Within) (h : Here) (pc : ℕ) (at : Span) (s : List Value) (e : Option Tree) → IsTypedFinish program.shape methods limit locals class w e → Effect program fit verified methods n w h (maybe_code methods program.texts pc e ++ line (finish_instr e) at ∷ []) pc s (maybe_value (call_act methods n) n h.at e >>= leave Finished)
    finish_runs (InMethod result) h pc at s e typed t st c le q has a = absurd typed
    finish_runs (InEvent None) h pc at s None typed t st c le q has a = record { is = end_runs program fit verified h pc s st c a at has.0 }
    finish_runs (InEvent None) h pc at s (Some e) typed t st c le q has a = absurd typed
    finish_runs (InEvent (Some kind)) h pc at s None typed t st c le q has a = absurd typed
    finish_runs (InEvent (Some kind)) h pc at s (Some e) typed t st c le q has a =
        given_runs (InEvent (Some kind)) h pc at s e kind typed i.Reply Finished t st c le q has a (λ pc' x st1 d l a1 q1. reply_runs program fit verified h pc' x s st1 d a1 at l)

    module _ (w : Within) where
      plainly : (h : Here) (pc t : ℕ) (s : List Value) (c : Tour) (x : Step) (st : State) → Follows program fit verified c (Onward program fit verified h (pc + length (step_code methods program.texts pc x)) s) (Low t) (effect (call_act methods n) n h.at x st) → Performs program fit verified c (Onward program fit verified h (pc + length (step_code methods program.texts pc x)) s) (Low t) (Leaving program fit verified w h t s) (effect (call_act methods n) n h.at x st)
      plainly h pc t s c x st f = performs program fit verified c (Onward program fit verified h (pc + length (step_code methods program.texts pc x)) s) (Low t) (Leaving program fit verified w h t s) (effect (call_act methods n) n h.at x st) f

      mutual
        pub effect_runs : (h : Here) (s : List Value) (x : Step) → IsTypedStep program.shape methods limit locals class w x → (pc : ℕ) → Effect program fit verified methods n w h (step_code methods program.texts pc x) pc s (effect (call_act methods n) n h.at x)
        effect_runs h s (SetLocal at x e) typed pc t st c le q has a =
            plainly h pc t s c (SetLocal at x e) st (
            use_runs h e typed.0 typed.2 t pc at (i.Store x) s st c le q has a (set_local x) (λ pc' pc'' e' l y st' d q' a'. stored h pc' pc'' t x s at e' l y st' d q' a'))
        effect_runs h s (SetField at x e) typed pc t st c le q has a =
            plainly h pc t s c (SetField at x e) st (
            use_runs h e typed.0 typed.2 t pc at (i.SetField x) s st c le q has a (put_field x h.at) (λ pc' pc'' e' l y st' d q' a'. field_stored h pc' pc'' t x s at e' l y st' d q' a'))
        effect_runs h s (PutLocal at x key e) typed pc t st c le q has a =
            plainly h pc t s c (PutLocal at x key e) st (
            two_runs h key e k.Int k.Int typed.1 typed.2 t pc at (i.PutLocal x) s st c le q has a (λ x' y. get_local x >>= (λ m. answer (apply_row row_put (m ∷ x' ∷ y ∷ [])) at >>= set_local x))
            (λ pc' pc'' e' l x' y st' d q' a'. put_local_runs program fit verified h pc' pc'' t x x' y s st' d a' at e' l q'))
        effect_runs h s (PutField at x key e) typed pc t st c le q has a =
            plainly h pc t s c (PutField at x key e) st (
            two_runs h key e k.Int k.Int typed.1 typed.2 t pc at (i.PutField x) s st c le q has a (λ x' y. get_field x h.at >>= (λ m. answer (apply_row row_put (m ∷ x' ∷ y ∷ [])) at >>= put_field x h.at))
            (λ pc' pc'' e' l x' y st' d q' a'. put_field_runs program fit verified h pc' pc'' t x x' y s st' d a' at e' l q'))
        effect_runs h s (CutLocal at x key) typed pc t st c le q has a =
            plainly h pc t s c (CutLocal at x key) st (
            use_runs h key k.Int typed.1 t pc at (i.CutLocal x) s st c le q has a (λ x'. get_local x >>= (λ m. answer (apply_row row_cut (m ∷ x' ∷ [])) at >>= set_local x))
            (λ pc' pc'' e' l x' st' d q' a'. cut_local_runs program fit verified h pc' pc'' t x x' s st' d a' at e' l q'))
        effect_runs h s (CutField at x key) typed pc t st c le q has a =
            plainly h pc t s c (CutField at x key) st (
            use_runs h key k.Int typed.1 t pc at (i.CutField x) s st c le q has a (λ x'. get_field x h.at >>= (λ m. answer (apply_row row_cut (m ∷ x' ∷ [])) at >>= put_field x h.at))
            (λ pc' pc'' e' l x' st' d q' a'. cut_field_runs program fit verified h pc' pc'' t x x' s st' d a' at e' l q'))
        effect_runs h s (If at test body no_else) typed pc t st c le q has a =
            let pa = pc + length (tree_code methods program.texts pc test) + 1 in
            if_runs w h pc at s test (steps_code methods program.texts pa body) (effects (call_act methods n) n h.at body) typed.0 (effects_run h s body typed.1 pa) t st c le q has a
        effect_runs h s (If at test body (otherwise ss)) typed pc t st c le q has a =
            let pa = pc + length (tree_code methods program.texts pc test) + 1 in
            let ca = steps_code methods program.texts pa body in
            let b = surely_ends body in
            let pb = behind b (pa + length ca) in
            else_runs w h pc at s test b ca (steps_code methods program.texts pb ss) (effects (call_act methods n) n h.at body) (effects (call_act methods n) n h.at ss) typed.0 (never_effects (call_act methods n) n h.at body) (effects_run h s body typed.1 pa) (effects_run h s ss typed.2 pb) t st c le q has a
        effect_runs h s (While at test body) typed pc t st c le q has a =
            let ct = tree_code methods program.texts pc test in
            let ca = steps_code methods program.texts (pc + length ct + 1 + 1) body in
            let l = while_stands program fit verified h.fn pc at ct (surely_ends body) ca has in
            while_runs program fit verified methods n w h pc at s ct (surely_ends body) ca (value (call_act methods n) h.at test) (effects (call_act methods n) n h.at body) has (never_effects (call_act methods n) n h.at body)
            (λ t' le' st' c' q' a'. value_runs program fit verified methods made n calls limit locals class h test k.Bool typed.0 t' pc s st' c' le' q' l.0 a')
            (λ t' le' st' c' q' a'. effects_run h s body typed.1 (pc + length ct + 1 + 1) t' st' c' le' q' l.1 a')
            n t le le st c q a
        effect_runs h s (For at counter from to body) typed pc t st c le q has a =
            let pb = block_at (loop_at pc (length (tree_code methods program.texts pc from)) (length (tree_code methods program.texts (pc + length (tree_code methods program.texts pc from) + 1) to))) in
            for_runs w h pc at counter s from to (surely_ends body) (steps_code methods program.texts pb body) (effects (call_act methods n) n h.at body) typed.3 typed.4 (never_effects (call_act methods n) n h.at body) (effects_run h s body typed.5 pb) t st c le q has a
        effect_runs h s (Require at e) typed pc t st c le q has a =
            plainly h pc t s c (Require at e) st (
            use_runs h e k.Bool typed t pc at i.Require s st c le q has a (λ y. demand (is_true y) at)
            (λ pc' pc'' e' l y st' d q' a'. require_runs program fit verified h pc' pc'' t y s st' d a' at e' l q'))
        effect_runs h s (Send at label e) typed pc t st c le q has a =
            plainly h pc t s c (Send at label e) st (
            use_runs h e typed.0 typed.1 t pc at (i.Send (place_of_text program.texts label)) s st c le q has a (λ y st. with_world (sending label y st.world) at st)
            (λ pc' pc'' e' l y st' d q' a'. send_runs program fit verified h pc' pc'' t label y s st' d a' at e' l q'))
        effect_runs h s (Spawn at event args) typed pc t st c le q has a =
            plainly h pc t s c (Spawn at event args) st (
            let ca = trees_code methods program.texts pc args in
            let end = pc + length (ca ++ line (i.Spawn event) at ∷ []) in
            let len : suc (pc + length ca) ≡ end = omega (arith, length-append ca (line (i.Spawn event) at ∷ [])) in
            bind program fit verified c (OnTops program fit verified methods h (pc + length ca) s) (Counted t typed.0.params) (Onward program fit verified h end s) (Low t) (values (call_act methods n) h.at args st) (λ given st. with_world (spawning event given st.world) at st)
            (values_run program fit verified methods made n calls limit locals class h args typed.0.params typed.2 t pc s st c le q (has_front program fit verified h.fn pc ca _ has) a)
            (λ given st1 d a1 k1. spawn_runs program fit verified h (pc + length ca) end t event typed.0 given s st1 d typed.1 (sym k1.1) a1 at len (has_back program fit verified h.fn pc ca _ has).0 k1.0))
        effect_runs h s (Do at e) typed pc t st c le q has a =
            plainly h pc t s c (Do at e) st (
            do_runs h pc at s e typed t st c le q has a)
        effect_runs h s (Return at e) typed pc t st c le q has a = return_runs w h pc at s e typed t st c le q has a
        effect_runs h s (Finish at e) typed pc t st c le q has a = finish_runs w h pc at s e typed t st c le q has a

        pub effects_run : (h : Here) (s : List Value) (ss : Steps) → AreTyped program.shape methods limit locals class w ss → (pc : ℕ) → Effect program fit verified methods n w h (steps_code methods program.texts pc ss) pc s (effects (call_act methods n) n h.at ss)
        effects_run h s no_steps typed pc t st c le q has a = let e : pc ≡ pc + 0 = omega arith in performs program fit verified c (Onward program fit verified h (pc + 0) s) (Low t) (Leaving program fit verified w h t s) (Done tt st) (done program fit verified c (Onward program fit verified h (pc + 0) s) (Low t) tt st (place_is program fit verified h pc (pc + 0) s st c e a) q)
        effects_run h s (step x ss) typed pc t st c le q has a =
            let cx = step_code methods program.texts pc x in
            then_runs w h pc s cx (steps_code methods program.texts (pc + length cx) ss) (effect (call_act methods n) n h.at x) (effects (call_act methods n) n h.at ss) (effect_runs h s x typed.0 pc) (effects_run h s ss typed.1 (pc + length cx)) t st c le q has a
