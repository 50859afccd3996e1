-- What a piece of code does to the state, and loops.
use Rattle.std.proofs.Common.{◌≡◌, ℕ, zero, suc, ◌+◌, ◌-◌, ◌≤◌, List, [], ◌∷◌, ◌++◌, length, Bool, true, false, refl, subst, arith, length-append}
use Rattle.wave_base.specs.declared.span.Span.{Span}
use Rattle.wave_base.specs.declared.value.Value.{Value}
use Rattle.resolved_service.specs.declared.service.Method.{Method}
use Rattle.resolved_service.specs.Meaning.{State, Leave, Outcome, Done, Trapped, Left, Act, give, tick, choose, while_turns, ◌>>◌}
use Rattle.resolved_service.specs.World.{is_true}
use Rattle.service_code.specs.declared.instr.Instr.TheVariants as i
use Rattle.service_code.specs.declared.program.Program.{Program}
use Rattle.service_verify.specs.Fit.{IsFit}
use Rattle.service_verify.specs.Points.{IsVerified}
use Rattle.service_verify.specs.Tours.{Tour}
use Rattle.code_scheme.specs.Scheme.{Line, line, while_code}
use Rattle.code_scheme.specs.Typed.{Within}
use Rattle.code_scheme.proofs.Follow.{Here, At, Follows, place_is, ends, done, IsLine}
use Rattle.code_scheme.proofs.Finding.{Low}
use Rattle.code_scheme.proofs.Instructions.{tick_runs, jump_runs, Onward}
use Rattle.code_scheme.proofs.Leaving.{NeverDone, Leaving, leaving_lower, Performs, performs, lead_to, bind_to, bind_on, ends_to, never_ends, picks_on}
use Rattle.code_scheme.proofs.Places.{next, HasAt, has_back}
use Rattle.code_scheme.proofs.Values.{OnTop}

module _ (program : Program) (fit : IsFit program) (verified : IsVerified program) (methods : List Method) (n : ℕ) where
  -- what a piece of code does to the state, in a function of this kind
  abbrev pub Effect : Within → Here → List Line → ℕ → List Value → Act (Unit {0}) → Type 0
  Effect w h code pc s f =
      (t : ℕ) (st : State) (c : Tour) → t ≤ n → st.world.ticks ≤ t → HasAt program fit verified h.fn pc code → At program fit verified h pc s st c →
      Performs program fit verified c (Onward program fit verified h (pc + length code) s) (Low t) (Leaving program fit verified w h t s) (f st)

  -- the same of one that leaves nothing out
  abbrev pub Plain : Here → List Line → ℕ → List Value → Act (Unit {0}) → Type 0
  Plain h code pc s f =
      (t : ℕ) (st : State) (c : Tour) → t ≤ n → st.world.ticks ≤ t → HasAt program fit verified h.fn pc code → At program fit verified h pc s st c →
      Follows program fit verified c (Onward program fit verified h (pc + length code) s) (Low t) (f st)

  pub ended : (w : Within) (h : Here) (pc pc' t : ℕ) (s : List Value) (c : Tour) (o : Outcome (Unit {0})) → pc ≡ pc' → Performs program fit verified c (Onward program fit verified h pc s) (Low t) (Leaving program fit verified w h t s) o → Performs program fit verified c (Onward program fit verified h pc' s) (Low t) (Leaving program fit verified w h t s) o
  ended w h pc pc' t s c o e f = subst (λ m. Performs program fit verified c (Onward program fit verified h m s) (Low t) (Leaving program fit verified w h t s) o) e f

  pub then_jump : (w : Within) (h : Here) (pc to t : ℕ) (s : List Value) (at : Span) → IsLine program fit verified h.fn pc (i.Jump to) at → (to' : ℕ) → to ≡ to' → (c : Tour) (o : Outcome (Unit {0})) → Performs program fit verified c (Onward program fit verified h pc s) (Low t) (Leaving program fit verified w h t s) o → Performs program fit verified c (Onward program fit verified h to' s) (Low t) (Leaving program fit verified w h t s) o
  then_jump w h pc to t s at l to' e c (Done x st) f =
      let r = jump_runs program fit verified h pc to s st f.is.0 f.is.2 at l in
      lead_to program fit verified c f.is.0 (Onward program fit verified h to' s) (Low t) (Leaving program fit verified w h t s) (Done x st) f.is.1 (record { is = (r.0, r.1, place_is program fit verified h to to' s st r.0 e r.2, f.is.3) })
  then_jump w h pc to t s at l to' e c (Trapped k at' x) f = record { is = f.is }
  then_jump w h pc to t s at l to' e c (Left x st) f = record { is = f.is }

  -- the turns of a loop whose body comes back to its test
  loop_runs : (w : Within) (h : Here) (pc pt x : ℕ) (at : Span) (s : List Value) (test : Act Value) (body : Act (Unit {0})) → IsLine program fit verified h.fn pt (i.JumpFalse x) at → IsLine program fit verified h.fn (pt + 1) i.Tick at →
      ((t : ℕ) → t ≤ n → (st : State) (c : Tour) → st.world.ticks ≤ t → At program fit verified h pc s st c → Follows program fit verified c (OnTop program fit verified methods h pt s) (Low t) (test st)) →
      ((t : ℕ) → t ≤ n → (st : State) (c : Tour) → st.world.ticks ≤ t → At program fit verified h (pt + 1 + 1) s st c → Performs program fit verified c (Onward program fit verified h pc s) (Low t) (Leaving program fit verified w h t s) (body st)) →
      (m t : ℕ) → t ≤ m → t ≤ n → (st : State) (c : Tour) → st.world.ticks ≤ t → At program fit verified h pc s st c → Performs program fit verified c (Onward program fit verified h x s) (Low t) (Leaving program fit verified w h t s) (while_turns m test body at st)
  unfolding while_turns
  loop_runs w h pc pt x at s test body jump_line tick_line rt rb = loop
    where
      After : Unit {0} → State → Tour → Type 0
      After = Onward program fit verified h x s

      Leaves : ℕ → Leave → State → Tour → Type 0
      Leaves t = Leaving program fit verified w h t s

      leave_it : (t : ℕ) (st : State) (c : Tour) → st.world.ticks ≤ t → At program fit verified h x s st c → Performs program fit verified c After (Low t) (Leaves t) (Done tt st)
      leave_it t st c q a = performs program fit verified c After (Low t) (Leaves t) (Done tt st) (done program fit verified c After (Low t) tt st a q)

      Ticked : Unit {0} → State → Tour → Type 0
      Ticked u st d = At program fit verified h (suc (pt + 1)) s st d

      loop : (m t : ℕ) → t ≤ m → t ≤ n → (st : State) (c : Tour) → st.world.ticks ≤ t → At program fit verified h pc s st c → Performs program fit verified c After (Low t) (Leaves t) (while_turns m test body at st)
      loop zero t le le' st c q a =
          bind_to program fit verified c (OnTop program fit verified methods h pt s) (Low t) After (Low t) (Leaves t) (test st) (λ v. choose (is_true v) (tick at) (give tt)) (rt t le' st c q a) (λ v st1 d a1 q1.
          picks_on program fit verified h pt x v s st1 d a1 at jump_line After (Low t) (Leaves t) (tick at) (give tt)
          (λ d2 a2. performs program fit verified d2 After (Low t) (Leaves t) (tick at st1) (ends program fit verified d2 Ticked (λ u st'. suc st'.world.ticks ≤ t) After (Low t) (tick at st1) (tick_runs program fit verified h (pt + 1) t s st1 d2 a2 at tick_line q1) (λ u st2 d3 a3 k. absurd (omega (arith, k, le)))))
          (λ d2 a2. leave_it t st1 d2 q1 a2))
      loop (suc m) t le le' st c q a =
          bind_to program fit verified c (OnTop program fit verified methods h pt s) (Low t) After (Low t) (Leaves t) (test st) (λ v. choose (is_true v) (tick at >> (body >> while_turns m test body at)) (give tt)) (rt t le' st c q a) (λ v st1 d a1 q1.
          picks_on program fit verified h pt x v s st1 d a1 at jump_line After (Low t) (Leaves t) (tick at >> (body >> while_turns m test body at)) (give tt)
          (λ d2 a2. bind_to program fit verified d2 Ticked (λ u st'. suc st'.world.ticks ≤ t) After (Low t) (Leaves t) (tick at st1) (λ u. body >> while_turns m test body at) (tick_runs program fit verified h (pt + 1) t s st1 d2 a2 at tick_line q1) (λ u st2 d3 a3 k.
          let lower = leaving_lower program fit verified w h (t - 1) t s (omega arith) in
          bind_on program fit verified d3 (Onward program fit verified h pc s) (Low (t - 1)) (Leaves (t - 1)) After (Low t) (Leaves t) (body st2) (λ u. while_turns m test body at) (rb (t - 1) (omega (arith, le')) st2 d3 (omega (arith, k)) (place_is program fit verified h (suc (pt + 1)) (pt + 1 + 1) s st2 d3 (next (pt + 1)) a3)) lower (λ u st3 d4 a4 q3.
          ends_to program fit verified d4 After (Low (t - 1)) (Leaves (t - 1)) After (Low t) (Leaves t) (while_turns m test body at st3) (loop m (t - 1) (omega (arith, le, k)) (omega (arith, le')) st3 d4 q3 a4) lower (λ u st4 d5 a5 q4. (a5, omega (arith, q4))))))
          (λ d2 a2. leave_it t st1 d2 q1 a2))

  -- a loop by its code, whose block surely ends or not
  pub while_runs : (w : Within) (h : Here) (pc : ℕ) (at : Span) (s : List Value) (ct : List Line) (b : Bool) (ca : List Line) (test : Act Value) (body : Act (Unit {0})) → HasAt program fit verified h.fn pc (while_code pc at ct b ca) → (b ≡ true → (st : State) → NeverDone (body st)) →
      ((t : ℕ) → t ≤ n → (st : State) (c : Tour) → st.world.ticks ≤ t → At program fit verified h pc s st c → Follows program fit verified c (OnTop program fit verified methods h (pc + length ct) s) (Low t) (test st)) →
      ((t : ℕ) → t ≤ n → (st : State) (c : Tour) → st.world.ticks ≤ t → At program fit verified h (pc + length ct + 1 + 1) s st c → Performs program fit verified c (Onward program fit verified h (pc + length ct + 1 + 1 + length ca) s) (Low t) (Leaving program fit verified w h t s) (body st)) →
      (m t : ℕ) → t ≤ m → t ≤ n → (st : State) (c : Tour) → st.world.ticks ≤ t → At program fit verified h pc s st c → Performs program fit verified c (Onward program fit verified h (pc + length (while_code pc at ct b ca)) s) (Low t) (Leaving program fit verified w h t s) (while_turns m test body at st)
  while_runs w h pc at s ct true ca test body has never rt rb m t le le' st c q a =
      let pt = pc + length ct in
      let x = pt + 1 + 1 + length ca in
      let l0 = has_back program fit verified h.fn pc ct (line (i.JumpFalse x) at ∷ line i.Tick at ∷ ca) has in
      ended w h x (pc + length (while_code pc at ct true ca)) t s c (while_turns m test body at st) (omega (arith, length-append ct (line (i.JumpFalse x) at ∷ line i.Tick at ∷ ca)))
      (loop_runs w h pc pt x at s test body l0.0 l0.1.0 rt
      (λ t' le' st' c' q' a'. never_ends program fit verified c' (Onward program fit verified h x s) (Low t') (Leaving program fit verified w h t' s) (Onward program fit verified h pc s) (Low t') (body st') (never refl st') (rb t' le' st' c' q' a'))
      m t le le' st c q a)
  while_runs w h pc at s ct false ca test body has never rt rb m t le le' st c q a =
      let pt = pc + length ct in
      let b = pt + 1 + 1 + length ca in
      let l0 = has_back program fit verified h.fn pc ct (line (i.JumpFalse (b + 1)) at ∷ line i.Tick at ∷ (ca ++ line (i.Jump pc) at ∷ [])) has in
      let l1 = has_back program fit verified h.fn (pt + 1 + 1) ca (line (i.Jump pc) at ∷ []) l0.1.1 in
      ended w h (b + 1) (pc + length (while_code pc at ct false ca)) t s c (while_turns m test body at st) (omega (arith, length-append ct (line (i.JumpFalse (b + 1)) at ∷ line i.Tick at ∷ (ca ++ line (i.Jump pc) at ∷ [])), length-append ca (line (i.Jump pc) at ∷ [])))
      (loop_runs w h pc pt (b + 1) at s test body l0.0 l0.1.0 rt (λ t' le' st' c' q' a'. then_jump w h b pc t' s at l1.0 pc refl c' (body st') (rb t' le' st' c' q' a')) m t le le' st c q a)
