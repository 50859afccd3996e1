-- The code of an expression gives its value, or its trap at its place.
use Rattle.std.proofs.Common.{◌≡◌, ℕ, suc, ◌+◌, ◌≤◌, List, [], ◌∷◌, ◌++◌, length, Bool, true, false, Option, Some, None, refl, sym, ap, ◌∙◌, subst, arith, length-append}
use Rattle.std.specs.Prelude.{slice_get, option_to_list}
use Rattle.wave_base.specs.declared.path.Path.{Path}
use Rattle.wave_base.specs.declared.span.Span.{Span}
use Rattle.wave_base.specs.declared.value.Kind.{Kind}
use Rattle.wave_base.specs.declared.value.Kind.TheVariants as k
use Rattle.wave_base.specs.declared.value.Value.{Value}
use Rattle.wave_base.specs.declared.value.Value.TheVariants as v
use Rattle.value_ops.specs.Operators.{takes_of, apply_row}
use Rattle.resolved_service.specs.declared.service.Method.{Method}
use Rattle.resolved_service.specs.Meaning.{State, Outcome, Done, Trapped, Left, Act, and_then, give, answer, tick, enter_at, back, choose, worth, value, values, with_blanks, call_act, ◌>>=◌, ◌>>◌}
use Rattle.resolved_service.specs.View.{Tree, Const, Local, Field, Above, Op, And, Or, Call, Child, Trees, no_trees, tree}
use Rattle.resolved_service.specs.World as world
use Rattle.resolved_service.specs.World.{World, nothing, is_true, child}
use Rattle.service_code.specs.declared.instr.Instr.TheVariants as i
use Rattle.service_code.specs.declared.program.Program.{Program}
use Rattle.service_verify.specs.Boxes.{first_locals}
use Rattle.service_verify.specs.Fit.{IsFit}
use Rattle.service_verify.specs.Points.{IsVerified}
use Rattle.service_verify.specs.Standing.{IsCaller}
use Rattle.service_verify.specs.Tours.{Tour}
use Rattle.code_scheme.specs.Programs.{method_function}
use Rattle.code_scheme.specs.Scheme.{Line, line, and_code, or_code, tree_code, trees_code}
use Rattle.code_scheme.specs.Typed.{IsMethod, HasKind, HaveKinds}
use Rattle.code_scheme.proofs.Follow.{Here, At, Follows, place_is, lead_in, bind, ends, done, IsLine}
use Rattle.code_scheme.proofs.Finding.{Low, back_if, pushed, callee_of}
use Rattle.code_scheme.proofs.Instructions.{push_runs, choice_runs, tick_runs, row_runs, load_runs, field_runs, above_runs, text_runs, jump_runs, call_runs}
use Rattle.code_scheme.proofs.ChildCalls.{down_runs}
use Rattle.code_scheme.proofs.Places.{next, HasAt, has_front, has_back}

-- the values that a call leaves: one where the method has a result
abbrev pub left_on : Option Kind → Value → List Value → List Value
left_on None x s = s
left_on (Some kind) x s = x ∷ s

-- a method with a result gives a value, and one without gives none
abbrev pub Answers : Option Kind → Option Value → Type 0
Answers None None = Unit {0}
Answers None (Some x) = ⊥
Answers (Some kind) None = ⊥
Answers (Some kind) (Some x) = Unit {0}

left_is : (result : Option Kind) (r : Option Value) (s : List Value) → Answers result r → option_to_list r ++ s ≡ left_on result (worth r) s
left_is None None s h = refl
left_is None (Some x) s h = absurd h
left_is (Some kind) None s h = absurd h
left_is (Some kind) (Some x) s h = refl

abbrev pub Counted : ℕ → List Kind → List Value → State → Type 0
Counted t kinds vs st = (st.world.ticks ≤ t) × (length vs ≡ length kinds)

abbrev pub Returned : ℕ → Option Kind → Option Value → State → Type 0
Returned t result r st = (st.world.ticks ≤ t) × Answers result r

module _ (program : Program) (fit : IsFit program) (verified : IsVerified program) (methods : List Method) where
  -- each method has its function
  pub record AreMade : Type 0 where
    pub by : (m : ℕ) (method : Method) → slice_get methods m ≡ Some method → slice_get program.functions m ≡ Some (method_function methods program.texts method)

  -- where the caller goes on
  abbrev pub Back : Bool → Here → ℕ → List Value → Option Value → State → Tour → Type 0
  Back down g pc s r st d = At program fit verified g pc (option_to_list r ++ s) (record { locals = st.locals; world = back_if down st.world }) d

  abbrev pub CallsFollow : ℕ → Type 0
  CallsFollow n =
      (m : ℕ) (method : Method) → slice_get methods m ≡ Some method → (p : Path) (vs : List Value) → (down : Bool) (g : Here) (pc : ℕ) (s : List Value) → IsCaller down p g.at → (st : State) (t : ℕ) → t ≤ n → suc st.world.ticks ≤ t → (c : Tour) →
      At program fit verified (callee_of m p down g pc s st.locals) 0 [] (record { locals = with_blanks vs method.locals; world = st.world }) c →
      Follows program fit verified c (Back down g pc s) (Returned t method.result) (call_act methods n m p vs st)

  abbrev pub OnTop : Here → ℕ → List Value → Value → State → Tour → Type 0
  OnTop h pc s x st d = At program fit verified h pc (x ∷ s) st d

  abbrev pub OnTops : Here → ℕ → List Value → List Value → State → Tour → Type 0
  OnTops h pc s xs st d = At program fit verified h pc (pushed xs s) st d

  abbrev pub LeftOn : Here → ℕ → List Value → Option Kind → Value → State → Tour → Type 0
  LeftOn h pc s result x st d = At program fit verified h pc (left_on result x s) st d

  -- a choice, whose code numbers its instructions by sums
  pub picks : {A : Type 0} (h : Here) (pc to : ℕ) (x : Value) (s : List Value) (st : State) (c : Tour) → At program fit verified h pc (x ∷ s) st c → (at : Span) → IsLine program fit verified h.fn pc (i.JumpFalse to) at →
      (next : A → State → Tour → Type 0) (K : A → State → Type 0) (fa fb : Act A) →
      ((d : Tour) → At program fit verified h (pc + 1) s st d → Follows program fit verified d next K (fa st)) →
      ((d : Tour) → At program fit verified h to s st d → Follows program fit verified d next K (fb st)) →
      Follows program fit verified c next K (choose (is_true x) fa fb st)
  picks h pc to x s st c a at l after K fa fb ra rb = choice_runs program fit verified h pc to x s st c a at l after K fa fb (λ d b. ra d (place_is program fit verified h (suc pc) (pc + 1) s st d (next pc) b)) rb

  -- a constant, as the sides of `&&` and `||` that are left out
  pub const_runs : (h : Here) (pc pc' t : ℕ) (b : Bool) (s : List Value) (st : State) (c : Tour) → At program fit verified h pc s st c → (at : Span) → suc pc ≡ pc' → IsLine program fit verified h.fn pc (i.PushBool b) at → st.world.ticks ≤ t →
      Follows program fit verified c (OnTop h pc' s) (Low t) (Done (v.Bool b) st)
  const_runs h pc pc' t b s st c a at e l q = push_runs program fit verified h pc pc' s st c a (i.PushBool b) at l (v.Bool b) (Low t) e refl q

  jumped : {K : Value → State → Type 0} (h : Here) (pc to : ℕ) (x : Value) (s : List Value) (st : State) (c : Tour) → At program fit verified h pc (x ∷ s) st c → (at : Span) → IsLine program fit verified h.fn pc (i.Jump to) at → (to' : ℕ) → to ≡ to' → K x st → Follows program fit verified c (OnTop h to' s) K (Done x st)
  jumped h pc to x s st c a at l to' e k = let r = jump_runs program fit verified h pc to (x ∷ s) st c a at l in record { is = (r.0, r.1, place_is program fit verified h to to' (x ∷ s) st r.0 e r.2, k) }

  -- an outcome that a jump follows
  then_jump : (h : Here) (pc to t : ℕ) (s : List Value) (at : Span) → IsLine program fit verified h.fn pc (i.Jump to) at → (to' : ℕ) → to ≡ to' → (c : Tour) (o : Outcome Value) → Follows program fit verified c (OnTop h pc s) (Low t) o → Follows program fit verified c (OnTop h to' s) (Low t) o
  then_jump h pc to t s at l to' e c (Done x st) f = let g = jumped {K = Low t} h pc to x s st f.is.0 f.is.2 at l to' e f.is.3 in lead_in program fit verified c f.is.0 (OnTop h to' s) (Low t) (Done x st) f.is.1 g
  then_jump h pc to t s at l to' e c (Trapped k at' w) f = record { is = f.is }
  then_jump h pc to t s at l to' e c (Left x st) f = absurd f.is

  pub and_runs : (h : Here) (pc t : ℕ) (at : Span) (s : List Value) (c : Tour) (ca cb : List Line) (oa : Outcome Value) (fb : Act Value) →
      HasAt program fit verified h.fn pc (and_code pc at ca cb) →
      Follows program fit verified c (OnTop h (pc + length ca) s) (Low t) oa →
      ((st : State) (d : Tour) → st.world.ticks ≤ t → At program fit verified h (pc + length ca + 1) s st d → Follows program fit verified d (OnTop h (pc + length ca + 1 + length cb) s) (Low t) (fb st)) →
      Follows program fit verified c (OnTop h (pc + length (and_code pc at ca cb)) s) (Low t) (and_then oa (λ x. choose (is_true x) fb (give (v.Bool false))))
  and_runs h pc t at s c ca cb oa fb has ra rb =
      bind program fit verified c (OnTop h (pc + length ca) s) (Low t) (OnTop h end s) (Low t) oa (λ x. choose (is_true x) fb (give (v.Bool false))) ra (λ x st d a q.
      picks h (pc + length ca) f x s st d a at l0.0 (OnTop h end s) (Low t) fb (give (v.Bool false))
      (λ d' a'. then_jump h (pc + length ca + 1 + length cb) (f + 1) t s at l1.0 end len d' (fb st) (rb st d' q a'))
      (λ d' a'. const_runs h f end t false s st d' a' at (next f ∙ len) l1.1.0 q))
    where
      f : ℕ
      f = pc + length ca + 1 + length cb + 1

      end : ℕ
      end = pc + length (and_code pc at ca cb)

      l0 : HasAt program fit verified h.fn (pc + length ca) (line (i.JumpFalse f) at ∷ (cb ++ line (i.Jump (f + 1)) at ∷ line (i.PushBool false) at ∷ []))
      l0 = has_back program fit verified h.fn pc ca _ has

      l1 : HasAt program fit verified h.fn (pc + length ca + 1 + length cb) (line (i.Jump (f + 1)) at ∷ line (i.PushBool false) at ∷ [])
      l1 = has_back program fit verified h.fn (pc + length ca + 1) cb _ l0.1

      len : f + 1 ≡ end
      len = omega (arith, length-append ca (line (i.JumpFalse f) at ∷ (cb ++ line (i.Jump (f + 1)) at ∷ line (i.PushBool false) at ∷ [])), length-append cb (line (i.Jump (f + 1)) at ∷ line (i.PushBool false) at ∷ []))

  pub or_runs : (h : Here) (pc t : ℕ) (at : Span) (s : List Value) (c : Tour) (ca cb : List Line) (oa : Outcome Value) (fb : Act Value) →
      HasAt program fit verified h.fn pc (or_code pc at ca cb) →
      Follows program fit verified c (OnTop h (pc + length ca) s) (Low t) oa →
      ((st : State) (d : Tour) → st.world.ticks ≤ t → At program fit verified h (pc + length ca + 3) s st d → Follows program fit verified d (OnTop h (pc + length ca + 3 + length cb) s) (Low t) (fb st)) →
      Follows program fit verified c (OnTop h (pc + length (or_code pc at ca cb)) s) (Low t) (and_then oa (λ x. choose (is_true x) (give (v.Bool true)) fb))
  or_runs h pc t at s c ca cb oa fb has ra rb =
      bind program fit verified c (OnTop h (pc + length ca) s) (Low t) (OnTop h end s) (Low t) oa (λ x. choose (is_true x) (give (v.Bool true)) fb) ra (λ x st d a q.
      picks h (pc + length ca) f x s st d a at l0.0 (OnTop h end s) (Low t) (give (v.Bool true)) fb
      (λ d' a'. then_jump h (pc + length ca + 1 + 1) x' t s at l0.1.1.0 end len d' (Done (v.Bool true) st) (const_runs h (pc + length ca + 1) (pc + length ca + 1 + 1) t true s st d' a' at (next (pc + length ca + 1)) l0.1.0 q))
      (λ d' a'. ends program fit verified d' (OnTop h x' s) (Low t) (OnTop h end s) (Low t) (fb st) (rb st d' q a') (λ y st' e b k. (place_is program fit verified h x' end (y ∷ s) st' e len b, k))))
    where
      f : ℕ
      f = pc + length ca + 3

      x' : ℕ
      x' = f + length cb

      end : ℕ
      end = pc + length (or_code pc at ca cb)

      l0 : HasAt program fit verified h.fn (pc + length ca) (line (i.JumpFalse f) at ∷ line (i.PushBool true) at ∷ line (i.Jump x') at ∷ cb)
      l0 = has_back program fit verified h.fn pc ca _ has

      len : x' ≡ end
      len = omega (arith, length-append ca (line (i.JumpFalse f) at ∷ line (i.PushBool true) at ∷ line (i.Jump x') at ∷ cb))

  module _ (made : AreMade) (n : ℕ) (calls : CallsFollow n) where
    begun : (h : Here) (method : Method) (vs : List Value) (w : World) (c : Tour) → At program fit verified h 0 [] (record { locals = first_locals (method_function methods program.texts method) vs; world = w }) c → At program fit verified h 0 [] (record { locals = with_blanks vs method.locals; world = w }) c
    begun h method vs w c a = a

    own_runs : (h : Here) (pc t m : ℕ) (method : Method) (vs s : List Value) (st : State) (c : Tour) → slice_get methods m ≡ Some method → length vs ≡ length method.params → At program fit verified h pc (pushed vs s) st c → (at : Span) → IsLine program fit verified h.fn pc (i.Call m) at → t ≤ n → suc st.world.ticks ≤ t →
        Follows program fit verified c (Back false h (suc pc) s) (Returned t method.result) (call_act methods n m h.at vs st)
    own_runs h pc t m method vs s st c is long a at l le q =
        let r = call_runs program fit verified h pc m (method_function methods program.texts method) vs s st c (made.by m method is) (sym long) a at l in
        lead_in program fit verified c r.0 (Back false h (suc pc) s) (Returned t method.result) (call_act methods n m h.at vs st) r.1
        (calls m method is h.at vs false h (suc pc) s refl st t le q r.0 (begun (callee_of m h.at false h (suc pc) s st.locals) method vs st.world r.0 r.2))

    -- a call's own part, behind its arguments
    pub own_value : (h : Here) (pc t class m : ℕ) (result : Option Kind) (at : Span) (s : List Value) (c : Tour) (ca : List Line) (ov : Outcome (List Value)) → t ≤ n → (is : IsMethod methods class m result) →
        HasAt program fit verified h.fn pc (ca ++ line i.Tick at ∷ line (i.Call m) at ∷ []) → Follows program fit verified c (OnTops h (pc + length ca) s) (Counted t is.method.params) ov →
        Follows program fit verified c (LeftOn h (pc + length (ca ++ line i.Tick at ∷ line (i.Call m) at ∷ [])) s result) (Low t) (and_then ov (λ given. tick at >> (call_act methods n m h.at given >>= (λ r. give (worth r)))))
    own_value h pc t class m result at s c ca ov le is has rv =
        bind program fit verified c (OnTops h pa s) (Counted t is.method.params) (LeftOn h end s result) (Low t) ov (λ given. tick at >> (call_act methods n m h.at given >>= (λ r. give (worth r)))) rv (λ vs st d a known.
        bind program fit verified d (λ u st' d'. At program fit verified h (suc pa) (pushed vs s) st' d') (λ u st'. suc st'.world.ticks ≤ t) (LeftOn h end s result) (Low t) (tick at st) (λ u. call_act methods n m h.at vs >>= (λ r. give (worth r)))
        (tick_runs program fit verified h pa t (pushed vs s) st d a at tail.0 known.0) (λ u st1 d1 a1 q1.
        bind program fit verified d1 (Back false h (suc (pa + 1)) s) (Returned t is.method.result) (LeftOn h end s result) (Low t) (call_act methods n m h.at vs st1) (λ r. give (worth r))
        (own_runs h (pa + 1) t m is.method vs s st1 d1 is.is_there known.1 (place_is program fit verified h (suc pa) (pa + 1) (pushed vs s) st1 d1 (next pa) a1) at tail.1.0 le q1) (λ r st2 d2 a2 k2.
        done program fit verified d2 (LeftOn h end s result) (Low t) (worth r) st2
        (subst (λ ss. At program fit verified h end ss st2 d2) (left_is result r s (subst (λ o. Answers o r) is.result_is k2.1)) (place_is program fit verified h (suc (pa + 1)) end (option_to_list r ++ s) st2 d2 len a2)) k2.0)))
      where
        pa : ℕ
        pa = pc + length ca

        end : ℕ
        end = pc + length (ca ++ line i.Tick at ∷ line (i.Call m) at ∷ [])

        tail : HasAt program fit verified h.fn pa (line i.Tick at ∷ line (i.Call m) at ∷ [])
        tail = has_back program fit verified h.fn pc ca _ has

        len : suc (pa + 1) ≡ end
        len = omega (arith, length-append ca (line i.Tick at ∷ line (i.Call m) at ∷ []))

    child_runs : (h : Here) (pc t class m : ℕ) (method : Method) (k : Value) (vs s : List Value) (st : State) (c : Tour) → slice_get methods m ≡ Some method → length vs ≡ length method.params → At program fit verified h pc (pushed vs (k ∷ s)) st c → (at : Span) → IsLine program fit verified h.fn pc (i.CallDown (record { 0 = class }) m) at → t ≤ n → suc st.world.ticks ≤ t →
        Follows program fit verified c (λ x st' d. At program fit verified h (suc pc) (left_on method.result x s) st' d) (Low t) (and_then (enter_at (child h.at class k) at st) (λ u. call_act methods n m (child h.at class k) vs >>= (λ r. back >> give (worth r))))
    child_runs h pc t class m method k vs s st c is long a at l le q =
        bind program fit verified c (λ u st' d. At program fit verified inner 0 [] (record { locals = first_locals (method_function methods program.texts method) vs; world = st'.world }) d) (λ u st'. (st'.locals ≡ st.locals) × (st'.world.ticks ≡ st.world.ticks)) after (Low t) (enter_at p at st) (λ u. call_act methods n m p vs >>= (λ r. back >> give (worth r)))
        (down_runs program fit verified h pc class m (method_function methods program.texts method) k vs s st c (made.by m method is) (sym long) a at l) (λ u st1 d1 a1 k1.
        bind program fit verified d1 (Back true h (suc pc) s) (Returned t method.result) after (Low t) (call_act methods n m p vs st1) (λ r. back >> give (worth r))
        (calls m method is p vs true h (suc pc) s (record { class = record { 0 = class }; key = world.key_of k }, refl) st1 t le (subst (λ x. suc x ≤ t) (sym k1.1) q) d1
        (subst (λ ls. At program fit verified (callee_of m p true h (suc pc) s ls) 0 [] (record { locals = with_blanks vs method.locals; world = st1.world }) d1) (sym k1.0) (begun inner method vs st1.world d1 a1)))
        (λ r st2 d2 a2 k2.
        done program fit verified d2 after (Low t) (worth r) (record { locals = st2.locals; world = world.after_change st2.world }) (subst (λ ss. At program fit verified h (suc pc) ss (record { locals = st2.locals; world = world.after_change st2.world }) d2) (left_is method.result r s k2.1) a2) k2.0))
      where
        p : Path
        p = child h.at class k

        inner : Here
        inner = callee_of m p true h (suc pc) s st.locals

        after : Value → State → Tour → Type 0
        after x st' d = At program fit verified h (suc pc) (left_on method.result x s) st' d

    pub child_value : (h : Here) (pc t class m : ℕ) (result : Option Kind) (at : Span) (s : List Value) (c : Tour) (ck ca : List Line) (ok : Outcome Value) (fv : Act (List Value)) → t ≤ n → (is : IsMethod methods class m result) →
        HasAt program fit verified h.fn pc (ck ++ (ca ++ line i.Tick at ∷ line (i.CallDown (record { 0 = class }) m) at ∷ [])) → Follows program fit verified c (OnTop h (pc + length ck) s) (Low t) ok →
        ((k : Value) (st : State) (d : Tour) → st.world.ticks ≤ t → At program fit verified h (pc + length ck) (k ∷ s) st d → Follows program fit verified d (OnTops h (pc + length ck + length ca) (k ∷ s)) (Counted t is.method.params) (fv st)) →
        Follows program fit verified c (LeftOn h (pc + length (ck ++ (ca ++ line i.Tick at ∷ line (i.CallDown (record { 0 = class }) m) at ∷ []))) s result) (Low t)
        (and_then ok (λ k. fv >>= (λ given. tick at >> (enter_at (child h.at class k) at >> (call_act methods n m (child h.at class k) given >>= (λ r. back >> give (worth r)))))))
    child_value h pc t class m result at s c ck ca ok fv le is has rk rv =
        bind program fit verified c (OnTop h pk s) (Low t) (LeftOn h end s result) (Low t) ok (λ k. fv >>= rest k) rk (λ k st d a q.
        bind program fit verified d (OnTops h pa (k ∷ s)) (Counted t is.method.params) (LeftOn h end s result) (Low t) (fv st) (rest k) (rv k st d q a) (λ vs st1 d1 a1 k1.
        bind program fit verified d1 (λ u st' d'. At program fit verified h (suc pa) (pushed vs (k ∷ s)) st' d') (λ u st'. suc st'.world.ticks ≤ t) (LeftOn h end s result) (Low t) (tick at st1) (λ u. enter_at (child h.at class k) at >> (call_act methods n m (child h.at class k) vs >>= (λ r. back >> give (worth r))))
        (tick_runs program fit verified h pa t (pushed vs (k ∷ s)) st1 d1 a1 at tail.0 k1.0) (λ u st2 d2 a2 q2.
        ends program fit verified d2 (λ x st' d. At program fit verified h (suc (pa + 1)) (left_on is.method.result x s) st' d) (Low t) (LeftOn h end s result) (Low t) ((enter_at (child h.at class k) at >> (call_act methods n m (child h.at class k) vs >>= (λ r. back >> give (worth r)))) st2)
        (child_runs h (pa + 1) t class m is.method k vs s st2 d2 is.is_there k1.1 (place_is program fit verified h (suc pa) (pa + 1) (pushed vs (k ∷ s)) st2 d2 (next pa) a2) at tail.1.0 le q2)
        (λ x st3 d3 a3 q3. (subst (λ o. At program fit verified h end (left_on o x s) st3 d3) is.result_is (place_is program fit verified h (suc (pa + 1)) end (left_on is.method.result x s) st3 d3 len a3), q3)))))
      where
        rest : Value → List Value → Act Value
        rest k given = tick at >> (enter_at (child h.at class k) at >> (call_act methods n m (child h.at class k) given >>= (λ r. back >> give (worth r))))

        pk : ℕ
        pk = pc + length ck

        pa : ℕ
        pa = pk + length ca

        end : ℕ
        end = pc + length (ck ++ (ca ++ line i.Tick at ∷ line (i.CallDown (record { 0 = class }) m) at ∷ []))

        tail : HasAt program fit verified h.fn pa (line i.Tick at ∷ line (i.CallDown (record { 0 = class }) m) at ∷ [])
        tail = has_back program fit verified h.fn pk ca _ (has_back program fit verified h.fn pc ck _ has)

        len : suc (pa + 1) ≡ end
        len = omega (arith, length-append ck (ca ++ line i.Tick at ∷ line (i.CallDown (record { 0 = class }) m) at ∷ []), length-append ca (line i.Tick at ∷ line (i.CallDown (record { 0 = class }) m) at ∷ []))

    module _ (limit : ℕ) (locals : List Kind) (class : ℕ) where
      mutual
        pub value_runs : (h : Here) (e : Tree) (kind : Kind) → HasKind program.shape methods limit locals class e kind → (t pc : ℕ) (s : List Value) (st : State) (c : Tour) → t ≤ n → st.world.ticks ≤ t → HasAt program fit verified h.fn pc (tree_code methods program.texts pc e) → At program fit verified h pc s st c →
            Follows program fit verified c (OnTop h (pc + length (tree_code methods program.texts pc e)) s) (Low t) (value (call_act methods n) h.at e st)
        value_runs h (Const at (v.Int x)) kind typed t pc s st c le q has a = push_runs program fit verified h pc _ s st c a (i.PushInt x) at has.0 (v.Int x) (Low t) (next pc) refl q
        value_runs h (Const at (v.Bool x)) kind typed t pc s st c le q has a = push_runs program fit verified h pc _ s st c a (i.PushBool x) at has.0 (v.Bool x) (Low t) (next pc) refl q
        value_runs h (Const at (v.Str x)) kind typed t pc s st c le q has a = text_runs program fit verified h pc _ t x s st c a at (next pc) has.0 q
        value_runs h (Const at (v.Map x)) kind typed t pc s st c le q has a =
            subst (λ m. Follows program fit verified c (OnTop h (pc + 1) s) (Low t) (Done (v.Map m) st)) (sym typed.1)
            (push_runs program fit verified h pc _ s st c a i.PushEmpty at has.0 (v.Map []) (Low t) (next pc) refl q)
        value_runs h (Local at x) kind typed t pc s st c le q has a = load_runs program fit verified h pc _ t x s st c a at (next pc) has.0 q
        value_runs h (Field at x) kind typed t pc s st c le q has a = field_runs program fit verified h pc _ t x s st c a at (next pc) has.0 q
        value_runs h (Above at l x) kind typed t pc s st c le q has a = above_runs program fit verified h pc _ t l x s st c a at (next pc) has.0 q
        value_runs h (Op at r args) kind typed t pc s st c le q has a =
            let ca = trees_code methods program.texts pc args in
            let len : suc (pc + length ca) ≡ pc + length (ca ++ line (i.Op r) at ∷ []) = omega (arith, length-append ca (line (i.Op r) at ∷ [])) in
            bind program fit verified c (OnTops h (pc + length ca) s) (Counted t (takes_of r)) (OnTop h (pc + length (ca ++ line (i.Op r) at ∷ [])) s) (Low t) (values (call_act methods n) h.at args st) (λ vs. answer (apply_row r vs) at)
            (values_run h args (takes_of r) typed.2 t pc s st c le q (has_front program fit verified h.fn pc ca _ has) a)
            (λ vs st1 d a1 k1. row_runs program fit verified h (pc + length ca) _ t r vs s st1 d a1 at len (sym k1.1) (has_back program fit verified h.fn pc ca _ has).0 k1.0)
        value_runs h (And at x y) kind typed t pc s st c le q has a =
            let ca = tree_code methods program.texts pc x in
            let hb = (has_back program fit verified h.fn pc ca _ has).1 in
            and_runs h pc t at s c ca (tree_code methods program.texts (pc + length ca + 1) y) (value (call_act methods n) h.at x st) (value (call_act methods n) h.at y) has
            (value_runs h x k.Bool typed.1 t pc s st c le q (has_front program fit verified h.fn pc ca _ has) a)
            (λ st1 d q1 a1. value_runs h y k.Bool typed.2 t (pc + length ca + 1) s st1 d le q1 (has_front program fit verified h.fn (pc + length ca + 1) _ _ hb) a1)
        value_runs h (Or at x y) kind typed t pc s st c le q has a =
            let ca = tree_code methods program.texts pc x in
            let hb = (has_back program fit verified h.fn pc ca _ has).1.1.1 in
            let e : pc + length ca + 1 + 1 + 1 ≡ pc + length ca + 3 = omega arith in
            or_runs h pc t at s c ca (tree_code methods program.texts (pc + length ca + 3) y) (value (call_act methods n) h.at x st) (value (call_act methods n) h.at y) has
            (value_runs h x k.Bool typed.1 t pc s st c le q (has_front program fit verified h.fn pc ca _ has) a)
            (λ st1 d q1 a1. value_runs h y k.Bool typed.2 t (pc + length ca + 3) s st1 d le q1 (subst (λ m. HasAt program fit verified h.fn m (tree_code methods program.texts (pc + length ca + 3) y)) e hb) a1)
        value_runs h (Call at m args) kind typed t pc s st c le q has a =
            let ca = trees_code methods program.texts pc args in
            own_value h pc t class m (Some kind) at s c ca (values (call_act methods n) h.at args st) le typed.1.0 has
            (values_run h args typed.1.0.method.params typed.1.1 t pc s st c le q (has_front program fit verified h.fn pc ca _ has) a)
        value_runs h (Child at cls m key args) kind typed t pc s st c le q has a =
            let ck = tree_code methods program.texts pc key in
            let ca = trees_code methods program.texts (pc + length ck) args in
            child_value h pc t cls m (Some kind) at s c ck ca (value (call_act methods n) h.at key st) (values (call_act methods n) h.at args) le typed.2.0 has
            (value_runs h key k.Int typed.1 t pc s st c le q (has_front program fit verified h.fn pc ck _ has) a)
            (λ x st1 d q1 a1. values_run h args typed.2.0.method.params typed.2.1 t (pc + length ck) (x ∷ s) st1 d le q1 (has_front program fit verified h.fn (pc + length ck) ca _ (has_back program fit verified h.fn pc ck _ has)) a1)

        pub values_run : (h : Here) (args : Trees) (kinds : List Kind) → HaveKinds program.shape methods limit locals class args kinds → (t pc : ℕ) (s : List Value) (st : State) (c : Tour) → t ≤ n → st.world.ticks ≤ t → HasAt program fit verified h.fn pc (trees_code methods program.texts pc args) → At program fit verified h pc s st c →
            Follows program fit verified c (OnTops h (pc + length (trees_code methods program.texts pc args)) s) (Counted t kinds) (values (call_act methods n) h.at args st)
        values_run h no_trees [] typed t pc s st c le q has a = let e : pc ≡ pc + 0 = omega arith in done program fit verified c (OnTops h (pc + 0) s) (Counted t []) [] st (place_is program fit verified h pc (pc + 0) s st c e a) (q, refl)
        values_run h no_trees (kind ∷ kinds) typed t pc s st c le q has a = absurd typed
        values_run h (tree e es) [] typed t pc s st c le q has a = absurd typed
        values_run h (tree e es) (kind ∷ kinds) typed t pc s st c le q has a =
            let ca = tree_code methods program.texts pc e in
            let cb = trees_code methods program.texts (pc + length ca) es in
            let len : pc + length ca + length cb ≡ pc + length (ca ++ cb) = omega (arith, length-append ca cb) in
            bind program fit verified c (OnTop h (pc + length ca) s) (Low t) (OnTops h (pc + length (ca ++ cb)) s) (Counted t (kind ∷ kinds)) (value (call_act methods n) h.at e st) (λ x. values (call_act methods n) h.at es >>= (λ xs. give (x ∷ xs)))
            (value_runs h e kind typed.0 t pc s st c le q (has_front program fit verified h.fn pc ca _ has) a)
            (λ x st1 d a1 q1. bind program fit verified d (OnTops h (pc + length ca + length cb) (x ∷ s)) (Counted t kinds) (OnTops h (pc + length (ca ++ cb)) s) (Counted t (kind ∷ kinds)) (values (call_act methods n) h.at es st1) (λ xs. give (x ∷ xs))
            (values_run h es kinds typed.1 t (pc + length ca) (x ∷ s) st1 d le q1 (has_back program fit verified h.fn pc ca cb has) a1)
            (λ xs st2 d2 a2 k2. done program fit verified d2 (OnTops h (pc + length (ca ++ cb)) s) (Counted t (kind ∷ kinds)) (x ∷ xs) st2 (place_is program fit verified h _ _ (pushed xs (x ∷ s)) st2 d2 len a2) (k2.0, ap suc k2.1)))
