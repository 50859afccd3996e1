-- The ends of functions, and the verifier, which accepts what flows.
use Rattle.std.proofs.Common.{◌≡◌, ℕ, zero, suc, ◌+◌, ◌<◌, ◌≤◌, ◌⊎◌, inl, inr, ◌&&◌, max, List, [], ◌∷◌, ◌++◌, length, map, Bool, true, false, Option, Some, None, refl, sym, ap, ◌∙◌, subst, arith, length-append}
use Rattle.std.specs.Prelude.{slice_get, ◌==◌, Ok}
use Rattle.wave_base.specs.declared.path.Class.{Class}
use Rattle.wave_base.specs.declared.span.Span.{Span}
use Rattle.wave_base.specs.declared.value.Kind.{Kind}
use Rattle.wave_base.specs.declared.value.Kind.TheVariants as k
use Rattle.resolved_service.specs.declared.service.Last.{Last}
use Rattle.resolved_service.specs.declared.service.Method.{Method}
use Rattle.resolved_service.specs.declared.service.Phase.{Phase}
use Rattle.resolved_service.specs.Steps.{steps_in, surely_ends}
use Rattle.resolved_service.specs.View.{tree_of}
use Rattle.service_code.specs.declared.instr.Instr.TheVariants as i
use Rattle.service_code.specs.declared.program.Function.{Function}
use Rattle.service_code.specs.declared.program.Program.{Program}
use Rattle.service_verify.specs.declared.error.Rule.TheVariants as rule
use Rattle.service_verify.specs.declared.point.Point.{Point}
use Rattle.service_verify.specs.Points.{point_after}
use Rattle.service_verify.specs.Rules.{judged_item, must, judged_then, kind_eq, an_int, effect_of, next_of}
use Rattle.code_scheme.specs.Heights.{tree_height, steps_height, last_height, phases_height}
use Rattle.code_scheme.specs.Programs.{method_function}
use Rattle.code_scheme.specs.Scheme.{Line, line, tree_code, steps_code, return_code, reply_code, phases_code}
use Rattle.code_scheme.specs.Texts.{tree_uses, steps_uses, last_uses, phases_uses}
use Rattle.code_scheme.specs.Typed.{InEvent, IsChild, IsTypedLast, AreTypedPhases}
use Rattle.code_scheme.proofs.Flow.{flow_line}
use Rattle.code_scheme.proofs.Places.{StandsAt, stands_front, stands_back}
use Rattle.std.specs.Prelude.{slice_set, replicate}
use Rattle.std.specs.Cmp.Lexicographic.{pointwise}
use Rattle.std.proofs.lemmas.Bool.{cases_lt}
use Rattle.std.proofs.lemmas.List.{length-replicate}
use Rattle.std.proofs.lemmas.Option.{slice_get_within}
use Rattle.service_verify.specs.Points.{Table, agreement, arrived_at, arrival, arrivals, visited_then, first_point, first_table, visit, judged_from, judged_function}
use Rattle.service_verify.specs.Rules.{takes_only}
use Rattle.wave_base.specs.Shapes.{is_child_class}
use Rattle.service_verify.proofs.Taking.{kinds_eq_refl}
use Rattle.code_scheme.proofs.Fixed.{number_self, max_left, max_right, Among, among_front, among_back, pt, after_line}
use Rattle.code_scheme.proofs.Flow.{IsNext}
use Rattle.code_scheme.proofs.Flowing.{tree_flow}
use Rattle.code_scheme.proofs.Made.{there_is}
use Rattle.code_scheme.proofs.Places.{stands_all}
use Rattle.code_scheme.proofs.Shutting.{Shut, Runs, flow_shut}
use Rattle.code_scheme.proofs.Stating.{value_shut, line_shut, return_effect, reply_effect, end_effect, steps_flow}

module _ (program : Program) (number : ℕ) (function : Function) (ls : List Line) where
  module _ (methods : List Method) (made : (m : ℕ) (method : Method) → slice_get methods m ≡ Some method → slice_get program.functions m ≡ Some (method_function methods program.texts method)) (limit : ℕ) (low : limit ≤ number) where
    go_effect : (class : ℕ) (d : Class) → function.is_event ≡ true → IsChild program.shape class d.0 → effect_of program number function class (i.Go d) ≡ Ok (record { takes = an_int ∷ []; gives = None })
    unfolding effect_of
    go_effect class d event child = ap (λ b. must rule.Call (b && is_child_class program.shape class d.0) (takes_only (an_int ∷ []))) event ∙ ap (λ b. must rule.Call b (takes_only (an_int ∷ []))) child

    pub return_ends : (c : Class) (last : Option Last) (result : Option Kind) → IsTypedLast program.shape methods limit function.locals c.0 false result last → function.is_event ≡ false → function.result ≡ result → Among program.texts (last_uses last) → (pc : ℕ) (at : Span) → last_height methods last ≤ function.stack → StandsAt ls pc (return_code methods program.texts pc at false last) →
        Shut program number function ls pc (pc + length (return_code methods program.texts pc at false last)) (pt c [])
    return_ends c None None typed no_event is among pc at h has = line_shut program number function ls methods made limit low c pc (line i.Return at) has.0 (return_effect program number function ls methods made limit low c no_event None is) (λ n. refl)
    return_ends c (Some last) None typed no_event is among pc at h has = absurd typed
    return_ends c None (Some kind) typed no_event is among pc at h has = absurd typed
    return_ends c (Some last) (Some kind) typed no_event is among pc at h has =
        value_shut program number function ls methods made limit low c (tree_of last.value) kind typed among pc (line i.Return last.at) h has (return_effect program number function ls methods made limit low c no_event (Some kind) is) (λ n. refl)

    reply_ends : (c : Class) (last : Option Last) (result : Option Kind) → IsTypedLast program.shape methods limit function.locals c.0 false result last → function.is_event ≡ true → function.result ≡ result → Among program.texts (last_uses last) → (pc : ℕ) (at : Span) → last_height methods last ≤ function.stack → StandsAt ls pc (reply_code methods program.texts pc at false last) →
        Shut program number function ls pc (pc + length (reply_code methods program.texts pc at false last)) (pt c [])
    reply_ends c None None typed event is among pc at h has = line_shut program number function ls methods made limit low c pc (line i.End at) has.0 (end_effect program number function ls methods made limit low c event is) (λ n. refl)
    reply_ends c (Some last) None typed event is among pc at h has = absurd typed
    reply_ends c None (Some kind) typed event is among pc at h has = absurd typed
    reply_ends c (Some last) (Some kind) typed event is among pc at h has =
        value_shut program number function ls methods made limit low c (tree_of last.value) kind typed among pc (line i.Reply last.at) h has (reply_effect program number function ls methods made limit low c event kind is) (λ n. refl)

    -- phases behind statements that surely end are none, and no reply is there
    pub phases_none : (fs : List Phase) (class : ℕ) (last : Option Last) (result : Option Kind) → AreTypedPhases program.shape methods limit function.locals class true fs result last → (pc : ℕ) (at : Span) → phases_code methods program.texts pc true fs at last ≡ []
    phases_none [] class None result typed pc at = refl
    phases_none [] class (Some last) None typed pc at = absurd typed
    phases_none [] class (Some last) (Some kind) typed pc at = absurd typed
    phases_none (f ∷ fs) class last result typed pc at = absurd typed

    -- statements, and what stands behind them
    pub behind_statements : (a b e : ℕ) (p q : Point) (ended : Bool) → Runs program number function ls ended a b p q → (ended ≡ true → b ≡ e) → (ended ≡ false → Shut program number function ls b e q) → Shut program number function ls a e p
    behind_statements a b e p q true x none rest = subst (λ n. Shut program number function ls a n p) (none refl) x
    behind_statements a b e p q false x none rest = flow_shut program number function ls a b e p q x (rest refl)

    pub phases_ends : (fs : List Phase) (c : Class) (last : Option Last) (result : Option Kind) → AreTypedPhases program.shape methods limit function.locals c.0 false fs result last → function.is_event ≡ true → function.result ≡ result → Among program.texts (phases_uses fs) → Among program.texts (last_uses last) → (pc : ℕ) (at : Span) → phases_height methods fs ≤ function.stack → last_height methods last ≤ function.stack → StandsAt ls pc (phases_code methods program.texts pc false fs at last) →
        Shut program number function ls pc (pc + length (phases_code methods program.texts pc false fs at last)) (pt c [])
    phases_ends [] c last result typed event is among among' pc at h h' has = reply_ends c last result typed event is among' pc at h' has
    phases_ends (f ∷ fs) c last result typed event is among among' pc at h h' has =
        let ck = tree_code methods program.texts pc (tree_of f.key) in
        let pk = pc + length ck in
        let cb = steps_code methods program.texts (pk + 1) (steps_in f.body) in
        let pb = pk + 1 + length cb in
        let ended = surely_ends (steps_in f.body) in
        let rest = phases_code methods program.texts pb ended fs at last in
        let l0 = stands_back ls pc ck (line (i.Go f.class) f.at ∷ (cb ++ rest)) has in
        let a = tree_height methods (tree_of f.key) in
        let b = steps_height methods (steps_in f.body) in
        let d = phases_height methods fs in
        let h0 = max_left a (max b d) in
        let h1 = max_right a (max b d) in
        let h2 = max_left b d in
        let h3 = max_right b d in
        let am = among_front program.texts (tree_uses (tree_of f.key) ++ steps_uses (steps_in f.body)) (phases_uses fs) among in
        subst (λ n. Shut program number function ls pc n (pt c [])) (omega (arith, length-append ck (line (i.Go f.class) f.at ∷ (cb ++ rest)), length-append cb rest))
        (flow_shut program number function ls pc pk (pb + length rest) (pt c []) (pt c (k.Int ∷ [])) (tree_flow program number function ls methods made limit low c (tree_of f.key) k.Int typed.1 (among_front program.texts (tree_uses (tree_of f.key)) (steps_uses (steps_in f.body)) am) pc [] (omega (arith, h, h0)) (stands_front ls pc ck _ has))
        (flow_shut program number function ls pk (pk + 1) (pb + length rest) (pt c (k.Int ∷ [])) (pt f.class []) (flow_line program number function ls pk (pk + 1) (pt c (k.Int ∷ [])) (pt f.class []) (line (i.Go f.class) f.at) refl l0.0 (λ n. refl) (after_line program number function c f.class (i.Go f.class) (an_int ∷ []) None (k.Int ∷ []) [] (go_effect c.0 f.class event typed.0) refl (omega arith) refl refl))
        (behind_statements (pk + 1) pb (pb + length rest) (pt f.class []) (pt f.class []) ended
        (steps_flow program number function ls methods made limit low f.class (InEvent result) (event, is) (steps_in f.body) typed.2 (among_back program.texts (tree_uses (tree_of f.key)) (steps_uses (steps_in f.body)) am) (pk + 1) (omega (arith, h, h1, h2)) (stands_front ls (pk + 1) cb rest l0.1))
        (none ended pb typed.3)
        (on ended pb typed.3 (stands_back ls (pk + 1) cb rest l0.1) (among_back program.texts (tree_uses (tree_of f.key) ++ steps_uses (steps_in f.body)) (phases_uses fs) among) (omega (arith, h, h1, h3))
        (λ typed' has' among'' high. phases_ends fs f.class last result typed' event is among'' among' pb at high h' has')))))
      where
        none : (b : Bool) (pb : ℕ) → AreTypedPhases program.shape methods limit function.locals f.class.0 b fs result last → b ≡ true → pb ≡ pb + length (phases_code methods program.texts pb b fs at last)
        none true pb typed e = omega (arith, ap length (phases_none fs f.class.0 last result typed pb at))
        none false pb typed e = cc

        on : (b : Bool) (pb : ℕ) → AreTypedPhases program.shape methods limit function.locals f.class.0 b fs result last → StandsAt ls pb (phases_code methods program.texts pb b fs at last) → Among program.texts (phases_uses fs) → phases_height methods fs ≤ function.stack →
            (AreTypedPhases program.shape methods limit function.locals f.class.0 false fs result last → StandsAt ls pb (phases_code methods program.texts pb false fs at last) → Among program.texts (phases_uses fs) → phases_height methods fs ≤ function.stack → Shut program number function ls pb (pb + length (phases_code methods program.texts pb false fs at last)) (pt f.class [])) →
            b ≡ false → Shut program number function ls pb (pb + length (phases_code methods program.texts pb b fs at last)) (pt f.class [])
        on true pb typed has among high go e = cc
        on false pb typed has among high go e = go typed has among high

  -- ---- the verifier

  get_set : (t : Table) (n : ℕ) (x y : Option Point) → slice_get t n ≡ Some y → slice_get (slice_set t n x) n ≡ Some x
  get_set [] n x y e = cc
  get_set (z ∷ t) zero x y e = refl
  get_set (z ∷ t) (suc n) x y e = get_set t n x y e

  set_cases : (t : Table) (n m : ℕ) (x : Option Point) → (m ≡ n) ⊎ (slice_get (slice_set t n x) m ≡ slice_get t m)
  set_cases [] n m x = inr refl
  set_cases (z ∷ t) zero zero x = inl refl
  set_cases (z ∷ t) zero (suc m) x = inr refl
  set_cases (z ∷ t) (suc n) zero x = inr refl
  set_cases (z ∷ t) (suc n) (suc m) x = elim (set_cases t n m x) [ inl e ↦ inl (ap suc e) | inr e ↦ inr e ]

  set_long : (t : Table) (n : ℕ) (x : Option Point) → length (slice_set t n x) ≡ length t
  set_long [] n x = refl
  set_long (z ∷ t) zero x = refl
  set_long (z ∷ t) (suc n) x = ap suc (set_long t n x)

  agreed_same : (p q : Point) (t : Table) → q ≡ p → agreement p q t ≡ Ok t
  agreed_same p q t e =
      ap (λ q. agreement p q t) e
      ∙ ap (λ b. must rule.Stack b (must rule.Kind (p.class.0 == p.class.0) (must rule.Kind (pointwise kind_eq p.stack p.stack) (Ok t)))) (number_self (length p.stack))
      ∙ ap (λ b. must rule.Kind b (must rule.Kind (pointwise kind_eq p.stack p.stack) (Ok t))) (number_self p.class.0)
      ∙ ap (λ b. must rule.Kind b (Ok t)) (kinds_eq_refl p.stack)

  some_some : {A : Type 0} (a b : A) → Some a ≡ Some b → a ≡ b
  some_some a b e = cc

  none_some : {A : Type 0} {a : A} → None ≡ Some a → ⊥
  none_some e = cc

  module _ (P : ℕ → Point) where
    -- a table that has these points alone
    record Keeps (t : Table) : Type 0 where
      long : length t ≡ length ls
      fixed : (m : ℕ) (q : Point) → slice_get t m ≡ Some (Some q) → q ≡ P m

    -- after arrivals
    record Arrived (ns : List ℕ) (p : Point) (t : Table) : Type 0 where
      new : Table
      is : arrivals ns p t ≡ Ok new
      keeps : Keeps new
      stays : (m : ℕ) → slice_get t m ≡ Some (Some (P m)) → slice_get new m ≡ Some (Some (P m))
      reached : (m : ℕ) → IsNext ns m → slice_get new m ≡ Some (Some (P m))

    one_arrives : (n : ℕ) (p : Point) (t : Table) → Keeps t → n < length ls → P n ≡ p → (u : Table) × (arrival n p t ≡ Ok u) × Keeps u × ((m : ℕ) → slice_get t m ≡ Some (Some (P m)) → slice_get u m ≡ Some (Some (P m))) × (slice_get u n ≡ Some (Some (P n)))
    one_arrives n p t keeps lt same = by (there_is t n (subst (λ l. n < l) (sym keeps.long) lt))
      where
        by : (o : Option Point) × (slice_get t n ≡ Some o) → (u : Table) × (arrival n p t ≡ Ok u) × Keeps u × ((m : ℕ) → slice_get t m ≡ Some (Some (P m)) → slice_get u m ≡ Some (Some (P m))) × (slice_get u n ≡ Some (Some (P n)))
        by (None, e) = (
          slice_set t n (Some p),
          ap (λ o. judged_item rule.Jump o (λ q. arrived_at n p q t)) e,
          record {
            long = set_long t n (Some p) ∙ keeps.long;
            fixed = λ m q h. elim (set_cases t n m (Some p)) [
              | inl x ↦ (let a : Some (Some p) ≡ Some (Some q) = sym (get_set t n (Some p) None e) ∙ ap (slice_get (slice_set t n (Some p))) (sym x) ∙ h in sym (some_some p q (some_some (Some p) (Some q) a)) ∙ sym same ∙ ap P (sym x))
              | inr x ↦ keeps.fixed m q (sym x ∙ h)
            ];
          },
          (λ m h. elim (set_cases t n m (Some p)) [
            | inl x ↦ absurd (none_some (let a : Some None ≡ Some (Some (P m)) = sym e ∙ ap (slice_get t) (sym x) ∙ h in some_some None (Some (P m)) a))
            | inr x ↦ x ∙ h
          ]),
          get_set t n (Some p) None e ∙ ap (λ q. Some (Some q)) (sym same),
        )
        by (Some q, e) = (
          t,
          ap (λ o. judged_item rule.Jump o (λ q. arrived_at n p q t)) e ∙ agreed_same p q t (keeps.fixed n q e ∙ same),
          keeps,
          (λ m h. h),
          e ∙ ap (λ q. Some (Some q)) (keeps.fixed n q e),
        )

    all_arrive : (ns : List ℕ) (p : Point) (t : Table) → Keeps t → ((m : ℕ) → IsNext ns m → (m < length ls) × (P m ≡ p)) → Arrived ns p t
    all_arrive [] p t keeps h = record { new = t; is = refl; keeps = keeps; stays = λ m e. e; reached = λ m e. absurd e }
    all_arrive (n ∷ ns) p t keeps h =
        let first = h n (inl refl) in
        let a = one_arrives n p t keeps first.0 first.1 in
        let b = all_arrive ns p a.0 a.2 (λ m x. h m (inr x)) in
        record {
          new = b.new;
          is = ap (λ o. judged_then o (λ u. arrivals ns p u)) a.1 ∙ b.is;
          keeps = b.keeps;
          stays = λ m e. b.stays m (a.3 m e);
          reached = λ m x. elim x [ inl e ↦ subst (λ k. slice_get b.new k ≡ Some (Some (P k))) (sym e) (b.stays n a.4) | inr y ↦ b.reached m y ];
        }

    -- what is fixed before an instruction is judged
    Before : ℕ → Table → Type 0
    Before n t = (m : ℕ) → m < length ls → (m ≡ 0) ⊎ ((j : ℕ) × (l : Line) × (j < n) × (slice_get ls j ≡ Some l) × IsNext (next_of l.instr j) m) → slice_get t m ≡ Some (Some (P m))

    -- each instruction is reached, and what it leaves is what those have that may come next
    record Goes (n : ℕ) (l : Line) : Type 0 where
      after : Point
      is : point_after program number function l.instr (P n) ≡ Ok after
      nexts : (m : ℕ) → IsNext (next_of l.instr n) m → (m < length ls) × (P m ≡ after)
      reached : (n ≡ 0) ⊎ ((j : ℕ) × (k : Line) × (j < n) × (slice_get ls j ≡ Some k) × IsNext (next_of k.instr j) n)

    line_is : (n : ℕ) (l k : Line) → slice_get ls n ≡ Some l → slice_get ls n ≡ Some k → k ≡ l
    line_is n l k e f = let h : Some k ≡ Some l = sym f ∙ e in cc

    after_one : (n : ℕ) (l : Line) → slice_get ls n ≡ Some l → (p : Point) (t : Table) (a : Arrived (next_of l.instr n) p t) → Before n t → Before (suc n) a.new
    unfolding Before
    after_one n l is p t a before m h (inl z) = a.stays m (before m h (inl z))
    after_one n l is p t a before m h (inr (j, k, lt, is_k, next)) = elim (cases_lt j n) [
      | inl x ↦ a.stays m (before m h (inr (j, k, x, is_k, next)))
      | inr x ↦ (let e : j ≡ n = omega (arith, x, lt) in a.reached m (subst (λ (c : Line). IsNext (next_of c.instr n) m) (line_is n l k is (ap (slice_get ls) (sym e) ∙ is_k)) (subst (λ j. IsNext (next_of k.instr j) m) e next)))
    ]

    module _ (goes : (n : ℕ) (l : Line) → slice_get ls n ≡ Some l → Goes n l) where
      judges : (rest : List Line) (n : ℕ) (t : Table) → StandsAt ls n rest → Keeps t → Before n t → (u : Table) × (judged_from program number function n (map (λ (l : Line). l.instr) rest) t ≡ Ok u)
      unfolding judged_from visit Before
      judges [] n t has keeps before = (t, refl)
      judges (l ∷ rest) n t has keeps before =
          let g = goes n l has.0 in
          let lt = slice_get_within ls n l has.0 in
          let here = before n lt g.reached in
          let a = all_arrive (next_of l.instr n) g.after t keeps g.nexts in
          let e : n + 1 ≡ suc n = omega arith in
          let later = judges rest (suc n) a.new (subst (λ m. StandsAt ls m rest) e has.1) a.keeps (after_one n l has.0 g.after t a before) in (
            later.0,
            ap (λ o. visited_then n (judged_item rule.Jump o (λ q. judged_item rule.Jump q (λ p. judged_then (point_after program number function l.instr p) (λ after. arrivals (next_of l.instr n) after t)))) (λ u. judged_from program number function (suc n) (map (λ (l : Line). l.instr) rest) u)) here
                ∙ ap (λ o. visited_then n (judged_then o (λ after. arrivals (next_of l.instr n) after t)) (λ u. judged_from program number function (suc n) (map (λ (l : Line). l.instr) rest) u)) g.is
                ∙ ap (λ o. visited_then n o (λ u. judged_from program number function (suc n) (map (λ (l : Line). l.instr) rest) u)) a.is
                ∙ later.1,
          )

  -- so the verifier accepts what stays in from the first point on
  pub accepted : (p : Point) → function.code ≡ map (λ (l : Line). l.instr) ls → p ≡ first_point function → Shut program number function ls 0 (length ls) p → (u : Table) × (judged_function program number function ≡ Ok u)
  unfolding judged_function Before
  accepted p code first e =
      let r = judges P goes ls 0 (first_table function) (stands_all ls []) (record { long = long; fixed = fixed }) (λ m h r. begun m r) in
      (r.0, ap (λ c. judged_from program number function 0 c (first_table function)) code ∙ r.1)
    where
      P : ℕ → Point
      P = e.points

      first_is : P 0 ≡ first_point function
      first_is = e.starts ∙ first

      code_long : length function.code ≡ length ls
      code_long = ap length code ∙ map_long ls
        where
          map_long : (ks : List Line) → length (map (λ (l : Line). l.instr) ks) ≡ length ks
          map_long [] = refl
          map_long (k ∷ ks) = ap suc (map_long ks)

      empty : Table
      empty = replicate (length function.code) None

      empty_long : length empty ≡ length ls
      empty_long = length-replicate (length function.code) None ∙ code_long

      some_there : 0 < length ls
      some_there = e.lt

      long : length (first_table function) ≡ length ls
      long = set_long empty 0 (Some (first_point function)) ∙ empty_long

      none_fixed : (n m : ℕ) (q : Point) → slice_get (replicate n None) m ≡ Some (Some q) → ⊥
      none_fixed zero m q h = none_some h
      none_fixed (suc n) zero q h = none_some (some_some None (Some q) h)
      none_fixed (suc n) (suc m) q h = none_fixed n m q h

      first_set : slice_get (first_table function) 0 ≡ Some (Some (first_point function))
      first_set = let t = there_is empty 0 (omega (arith, empty_long, some_there)) in get_set empty 0 (Some (first_point function)) t.0 t.1

      fixed : (m : ℕ) (q : Point) → slice_get (first_table function) m ≡ Some (Some q) → q ≡ P m
      fixed m q h = elim (set_cases empty 0 m (Some (first_point function))) [
        | inl x ↦ (let a : Some (Some (first_point function)) ≡ Some (Some q) = sym first_set ∙ ap (slice_get (first_table function)) (sym x) ∙ h in sym (some_some (first_point function) q (some_some (Some (first_point function)) (Some q) a)) ∙ sym first_is ∙ ap P (sym x))
        | inr x ↦ absurd (none_fixed (length function.code) m q (sym x ∙ h))
      ]

      begun : (m : ℕ) → (m ≡ 0) ⊎ ((j : ℕ) × (l : Line) × (j < 0) × (slice_get ls j ≡ Some l) × IsNext (next_of l.instr j) m) → slice_get (first_table function) m ≡ Some (Some (P m))
      begun m (inl z) = ap (slice_get (first_table function)) z ∙ first_set ∙ ap (λ q. Some (Some q)) (sym first_is ∙ ap P (sym z))
      begun m (inr (j, l, lt, is, next)) = absurd (omega (arith, lt))

      reached : (n : ℕ) → n < length ls → (n ≡ 0) ⊎ ((j : ℕ) × (k : Line) × (j < n) × (slice_get ls j ≡ Some k) × IsNext (next_of k.instr j) n)
      reached n lt = elim (cases_lt 0 n) [
        | inl x ↦ inr (let r = e.reach n x lt in (r.from, r.line, r.earlier, r.is_line, r.is_next))
        | inr x ↦ inl (omega (arith, x))
      ]

      goes : (n : ℕ) (l : Line) → slice_get ls n ≡ Some l → Goes P n l
      goes n l is =
          let lt = slice_get_within ls n l is in
          let s = e.steps n l (omega arith) lt is in
          record { after = s.after; is = s.is; nexts = λ m y. let t = s.nexts m y in (t.1, t.2); reached = reached n lt }
