-- Code that no instruction runs through to its end: the points that the verifier fixes stay in it.
use Rattle.std.proofs.Common.{◌≡◌, ℕ, suc, ◌+◌, ◌<◌, ◌≤◌, inl, inr, List, [], ◌∷◌, Bool, true, false, Some, refl, sym, ap, ◌∙◌, subst, arith}
use Rattle.std.specs.Prelude.{slice_get, Ok}
use Rattle.std.proofs.lemmas.Bool.{cases_lt}
use Rattle.service_code.specs.declared.instr.Instr.TheVariants as i
use Rattle.service_code.specs.declared.program.Function.{Function}
use Rattle.service_code.specs.declared.program.Program.{Program}
use Rattle.service_verify.specs.declared.point.Point.{Point}
use Rattle.service_verify.specs.Points.{point_after}
use Rattle.service_verify.specs.Rules.{next_of}
use Rattle.code_scheme.specs.Scheme.{Line}
use Rattle.code_scheme.proofs.Flow.{IsNext, glue, glue_low, glue_high, glue_mid, Steps, Reached, Flow, lower, line_same, flow_then}

module _ (program : Program) (number : ℕ) (function : Function) (ls : List Line) where
  -- what an instruction leaves at the instructions that may come next, all of them in here
  pub record Inside (points : ℕ → Point) (a e n : ℕ) (l : Line) : Type 0 where
    pub after : Point
    pub is : point_after program number function l.instr (points n) ≡ Ok after
    pub nexts : (m : ℕ) → IsNext (next_of l.instr n) m → (a ≤ m) × (m < e) × (points m ≡ after)

  pub record Shut (a e : ℕ) (p : Point) : Type 0 where
    pub points : ℕ → Point
    pub starts : points a ≡ p
    pub lt : a < e
    pub steps : (n : ℕ) (l : Line) → a ≤ n → n < e → slice_get ls n ≡ Some l → Inside points a e n l
    pub reach : (n : ℕ) → a < n → n < e → Reached program number function ls a n

  abbrev Step : (ℕ → Point) → ℕ → ℕ → ℕ → Line → Type 0
  Step = Steps program number function ls

  -- the same steps of other points that agree, in a wider range
  stays : (f g : ℕ → Point) (a e a' e' n : ℕ) (l : Line) → a' ≤ a → e ≤ e' → g n ≡ f n → ((m : ℕ) → a ≤ m → m < e → g m ≡ f m) → Inside f a e n l → Inside g a' e' n l
  stays f g a e a' e' n l la le at same s = record {
    after = s.after;
    is = ap (point_after program number function l.instr) at ∙ s.is;
    nexts = λ m x. let t = s.nexts m x in (omega (arith, t.0, la), omega (arith, t.1, le), same m t.0 t.1 ∙ t.2);
  }

  goes_in : (f g : ℕ → Point) (a b a' e' n : ℕ) (l : Line) → a' ≤ a → b < e' → g n ≡ f n → ((m : ℕ) → a ≤ m → m ≤ b → g m ≡ f m) → Steps program number function ls f a b n l → Inside g a' e' n l
  goes_in f g a b a' e' n l la lb at same s = record {
    after = s.after;
    is = ap (point_after program number function l.instr) at ∙ s.is;
    nexts = λ m x. let t = s.nexts m x in (omega (arith, t.0, la), omega (arith, t.1, lb), same m t.0 t.1 ∙ t.2);
  }

  stays_on : (f g : ℕ → Point) (a b a' e' n : ℕ) (l : Line) → a' ≤ a → b ≤ e' → g n ≡ f n → ((m : ℕ) → a ≤ m → m < b → g m ≡ f m) → Inside f a b n l → Steps program number function ls g a' e' n l
  stays_on f g a b a' e' n l la lb at same s = record {
    after = s.after;
    is = ap (point_after program number function l.instr) at ∙ s.is;
    nexts = λ m x. let t = s.nexts m x in (omega (arith, t.0, la), omega (arith, t.1, lb), same m t.0 t.1 ∙ t.2);
  }

  goes_on : (f g : ℕ → Point) (a b a' e' n : ℕ) (l : Line) → a' ≤ a → b ≤ e' → g n ≡ f n → ((m : ℕ) → a ≤ m → m ≤ b → g m ≡ f m) → Steps program number function ls f a b n l → Steps program number function ls g a' e' n l
  goes_on f g a b a' e' n l la lb at same s = record {
    after = s.after;
    is = ap (point_after program number function l.instr) at ∙ s.is;
    nexts = λ m x. let t = s.nexts m x in (omega (arith, t.0, la), omega (arith, t.1, lb), same m t.0 t.1 ∙ t.2);
  }

  -- an instruction behind which none comes
  pub shut_line : (a e : ℕ) (p after : Point) (l : Line) → e ≡ a + 1 → slice_get ls a ≡ Some l → ((n : ℕ) → next_of l.instr n ≡ []) → point_after program number function l.instr p ≡ Ok after → Shut a e p
  shut_line a e p after l s is none ends = record {
    points = λ n. p;
    starts = refl;
    lt = omega (arith, s);
    steps = λ n k u w h.
        let here : n ≡ a = omega (arith, u, w, s) in
        let same : l ≡ k = line_same program number function ls a l k is (subst (λ n. slice_get ls n ≡ Some k) here h) in
        record { after = after; is = ap (λ (k : Line). point_after program number function k.instr p) (sym same) ∙ ends; nexts = λ m x. absurd (subst (λ ns. IsNext ns m) (ap (λ (k : Line). next_of k.instr n) (sym same) ∙ none n) x) };
    reach = λ n u w. absurd (omega (arith, u, w, s));
  }

  pub flow_shut : (a b e : ℕ) (p q : Point) → Flow program number function ls a b p q → Shut b e q → Shut a e p
  flow_shut a b e p q x y = record {
    points = g;
    starts = glue_mid x.points b y.points a mid x.le ∙ x.starts;
    lt = omega (arith, x.le, y.lt);
    steps = λ n l u w h. elim (cases_lt n b) [
      | inl s ↦ goes_in x.points g a b a e n l (omega arith) y.lt (glue_low x.points b y.points n s) (λ m o t. glue_mid x.points b y.points m mid t) (x.steps n l u s h)
      | inr s ↦ stays y.points g b e a e n l x.le (omega arith) (glue_high x.points b y.points n s) (λ m o t. glue_high x.points b y.points m o) (y.steps n l s w h)
    ];
    reach = λ n u w. elim (cases_lt b n) [ inl s ↦ lower program number function ls b a n x.le (y.reach n s w) | inr s ↦ x.reach n u s ];
  }
    where
      g : ℕ → Point
      g = glue x.points b y.points

      mid : x.points b ≡ y.points b
      mid = x.ends ∙ sym y.starts

  -- a choice whose first side is never run through: where the value is false, it goes on behind that
  module _ (a f : ℕ) (p s : Point) (l : Line) (isl : slice_get ls a ≡ Some l) (l_is : l.instr ≡ i.JumpFalse f) (goes : point_after program number function l.instr p ≡ Ok s) (one : Shut (a + 1) f s) where
    -- the points of both sides
    both : (ℕ → Point) → ℕ → Point
    both other = glue (glue (λ n. p) (a + 1) one.points) f other

    both_first : (other : ℕ → Point) → both other a ≡ p
    unfolding both
    both_first other = glue_low (glue (λ n. p) (a + 1) one.points) f other a (omega (arith, one.lt)) ∙ glue_low (λ n. p) (a + 1) one.points a (omega arith)

    both_one : (other : ℕ → Point) (n : ℕ) → a + 1 ≤ n → n < f → both other n ≡ one.points n
    unfolding both
    both_one other n h k = glue_low (glue (λ n. p) (a + 1) one.points) f other n k ∙ glue_high (λ n. p) (a + 1) one.points n h

    both_other : (other : ℕ → Point) (n : ℕ) → f ≤ n → both other n ≡ other n
    unfolding both
    both_other other n h = glue_high (glue (λ n. p) (a + 1) one.points) f other n h

    chosen : (other : ℕ → Point) → other f ≡ s → (m : ℕ) → IsNext (next_of l.instr a) m → (a ≤ m) × (m ≤ f) × (both other m ≡ s)
    chosen other starts m x = go m (subst (λ k. IsNext (next_of k a) m) l_is x)
      where
        go : (m : ℕ) → IsNext (suc a ∷ f ∷ []) m → (a ≤ m) × (m ≤ f) × (both other m ≡ s)
        go m (inl y) = (omega (arith, y), omega (arith, y, one.lt), both_one other m (omega (arith, y)) (omega (arith, y, one.lt)) ∙ (let e : m ≡ a + 1 = omega (arith, y) in ap one.points e) ∙ one.starts)
        go m (inr (inl y)) = (omega (arith, y, one.lt), omega (arith, y), both_other other m (omega (arith, y)) ∙ ap other y ∙ starts)
        go m (inr (inr y)) = absurd y

    reached : (n : ℕ) → a < n → n ≤ f → Reached program number function ls a n
    reached n u w = elim (cases_lt n f) [
      | inl y ↦ elim (cases_lt (a + 1) n) [
        | inl z ↦ lower program number function ls (a + 1) a n (omega arith) (one.reach n z y)
        | inr z ↦ record { from = a; line = l; low = omega arith; earlier = u; is_line = isl; is_next = subst (λ k. IsNext (next_of k a) n) (sym l_is) (inl (omega (arith, z, u))) }
      ]
      | inr y ↦ record { from = a; line = l; low = omega arith; earlier = u; is_line = isl; is_next = subst (λ k. IsNext (next_of k a) n) (sym l_is) (inr (inl (omega (arith, y, w)))) }
    ]

    pub shut_flow : (x : ℕ) (t : Point) → Flow program number function ls f x s t → Flow program number function ls a x p t
    shut_flow x t other = record {
      points = both other.points;
      starts = both_first other.points;
      ends = both_other other.points x other.le ∙ other.ends;
      le = omega (arith, one.lt, other.le);
      steps = λ n k u w h. elim (cases_lt n f) [
        | inl y ↦ elim (cases_lt a n) [
          | inl z ↦ stays_on one.points (both other.points) (a + 1) f a x n k (omega arith) other.le (both_one other.points n (omega (arith, z)) y) (λ m o r. both_one other.points m o r) (one.steps n k (omega (arith, z)) y h)
          | inr z ↦ (let here : n ≡ a = omega (arith, z, u) in subst (λ n. slice_get ls n ≡ Some k → Step (both other.points) a x n k) (sym here) (λ h'. subst (Step (both other.points) a x a) (line_same program number function ls a l k isl h') first) h)
        ]
        | inr y ↦ goes_on other.points (both other.points) f x a x n k (omega (arith, one.lt)) (omega arith) (both_other other.points n y) (λ m o r. both_other other.points m o) (other.steps n k y w h)
      ];
      reach = λ n u w. elim (cases_lt f n) [ inl y ↦ lower program number function ls f a n (omega (arith, one.lt)) (other.reach n y w) | inr y ↦ reached n u y ];
    }
      where
        first : Step (both other.points) a x a l
        first = record {
          after = s;
          is = ap (point_after program number function l.instr) (both_first other.points) ∙ goes;
          nexts = λ m y. let c = chosen other.points other.starts m y in (c.0, omega (arith, c.1, other.le), c.2);
        }

    pub shut_both : (x : ℕ) → Shut f x s → Shut a x p
    shut_both x other = record {
      points = both other.points;
      starts = both_first other.points;
      lt = omega (arith, one.lt, other.lt);
      steps = λ n k u w h. elim (cases_lt n f) [
        | inl y ↦ elim (cases_lt a n) [
          | inl z ↦ stays one.points (both other.points) (a + 1) f a x n k (omega arith) (omega (arith, other.lt)) (both_one other.points n (omega (arith, z)) y) (λ m o r. both_one other.points m o r) (one.steps n k (omega (arith, z)) y h)
          | inr z ↦ (let here : n ≡ a = omega (arith, z, u) in subst (λ n. slice_get ls n ≡ Some k → Inside (both other.points) a x n k) (sym here) (λ h'. subst (Inside (both other.points) a x a) (line_same program number function ls a l k isl h') first) h)
        ]
        | inr y ↦ stays other.points (both other.points) f x a x n k (omega (arith, one.lt)) (omega arith) (both_other other.points n y) (λ m o r. both_other other.points m o) (other.steps n k y w h)
      ];
      reach = λ n u w. elim (cases_lt f n) [ inl y ↦ lower program number function ls f a n (omega (arith, one.lt)) (other.reach n y w) | inr y ↦ reached n u y ];
    }
      where
        first : Inside (both other.points) a x a l
        first = record {
          after = s;
          is = ap (point_after program number function l.instr) (both_first other.points) ∙ goes;
          nexts = λ m y. let c = chosen other.points other.starts m y in (c.0, omega (arith, c.1, other.lt), c.2);
        }

  -- a choice whose second side is never run through: the first side jumps past it
  pub flow_past : (a b f x : ℕ) (p s t : Point) (l m : Line) → slice_get ls a ≡ Some l → l.instr ≡ i.JumpFalse f → point_after program number function l.instr p ≡ Ok s → Flow program number function ls (a + 1) b s t → slice_get ls b ≡ Some m → m.instr ≡ i.Jump x → point_after program number function m.instr t ≡ Ok t → f ≡ b + 1 → Shut f x s → Flow program number function ls a x p t
  flow_past a b f x p s t l m isl l_is goes one ism m_is jumps fb other = record {
    points = g;
    starts = low a (omega (arith, one.le)) ∙ glue_low (λ n. p) (a + 1) one.points a (omega arith);
    ends = past x (omega arith);
    le = omega (arith, one.le, fb, other.lt);
    steps = λ n k u w h. elim (cases_lt n b) [
      | inl y ↦ elim (cases_lt a n) [
        | inl z ↦ goes_on one.points g (a + 1) b a x n k (omega arith) (omega (arith, fb, other.lt)) (mid n (omega (arith, z)) (omega (arith, y))) (λ m o r. mid m o r) (one.steps n k (omega (arith, z)) y h)
        | inr z ↦ (let here : n ≡ a = omega (arith, z, u) in subst (λ n. slice_get ls n ≡ Some k → Step g a x n k) (sym here) (λ h'. subst (Step g a x a) (line_same program number function ls a l k isl h') first) h)
      ]
      | inr y ↦ elim (cases_lt b n) [
        | inl z ↦ stays_on other.points g f x a x n k (omega (arith, one.le, fb)) (omega arith) (high n (omega (arith, z)) w) (λ m o r. high m (omega (arith, o, fb)) r) (other.steps n k (omega (arith, z, fb)) w h)
        | inr z ↦ (let here : n ≡ b = omega (arith, z, y) in subst (λ n. slice_get ls n ≡ Some k → Step g a x n k) (sym here) (λ h'. subst (Step g a x b) (line_same program number function ls b m k ism h') last) h)
      ]
    ];
    reach = λ n u w. elim (cases_lt b n) [
      | inl y ↦ elim (cases_lt n x) [
        | inl v ↦ elim (cases_lt f n) [
          | inl z ↦ lower program number function ls f a n (omega (arith, one.le, fb)) (other.reach n z v)
          | inr z ↦ record { from = a; line = l; low = omega arith; earlier = u; is_line = isl; is_next = subst (λ k. IsNext (next_of k a) n) (sym l_is) (inr (inl (omega (arith, z, y, fb)))) }
        ]
        | inr v ↦ record { from = b; line = m; low = omega (arith, one.le); earlier = y; is_line = ism; is_next = subst (λ k. IsNext (next_of k b) n) (sym m_is) (inl (omega (arith, v, w))) }
      ]
      | inr y ↦ elim (cases_lt (a + 1) n) [
        | inl z ↦ lower program number function ls (a + 1) a n (omega arith) (one.reach n z y)
        | inr z ↦ record { from = a; line = l; low = omega arith; earlier = u; is_line = isl; is_next = subst (λ k. IsNext (next_of k a) n) (sym l_is) (inl (omega (arith, z, u))) }
      ]
    ];
  }
    where
      g1 : ℕ → Point
      g1 = glue (λ n. p) (a + 1) one.points

      g2 : ℕ → Point
      g2 = glue other.points x (λ n. t)

      g : ℕ → Point
      g = glue g1 (b + 1) g2

      low : (n : ℕ) → n < b + 1 → g n ≡ g1 n
      low n h = glue_low g1 (b + 1) g2 n h

      mid : (n : ℕ) → a + 1 ≤ n → n ≤ b → g n ≡ one.points n
      mid n h k = low n (omega (arith, k)) ∙ glue_high (λ n. p) (a + 1) one.points n h

      high : (n : ℕ) → b + 1 ≤ n → n < x → g n ≡ other.points n
      high n h k = glue_high g1 (b + 1) g2 n h ∙ glue_low other.points x (λ n. t) n k

      past : (n : ℕ) → x ≤ n → g n ≡ t
      past n h = glue_high g1 (b + 1) g2 n (omega (arith, h, fb, other.lt)) ∙ glue_high other.points x (λ n. t) n h

      first : Step g a x a l
      first = record {
        after = s;
        is = ap (point_after program number function l.instr) (low a (omega (arith, one.le)) ∙ glue_low (λ n. p) (a + 1) one.points a (omega arith)) ∙ goes;
        nexts = λ m y. go m (subst (λ k. IsNext (next_of k a) m) l_is y);
      }
        where
          go : (m : ℕ) → IsNext (suc a ∷ f ∷ []) m → (a ≤ m) × (m ≤ x) × (g m ≡ s)
          go m (inl y) = (omega (arith, y), omega (arith, y, one.le, fb, other.lt), mid m (omega (arith, y)) (omega (arith, y, one.le)) ∙ (let e : m ≡ a + 1 = omega (arith, y) in ap one.points e) ∙ one.starts)
          go m (inr (inl y)) = (omega (arith, y, one.le, fb), omega (arith, y, other.lt), high m (omega (arith, y, fb)) (omega (arith, y, other.lt)) ∙ ap other.points y ∙ other.starts)
          go m (inr (inr y)) = absurd y

      last : Step g a x b m
      last = record {
        after = t;
        is = ap (point_after program number function m.instr) (mid b one.le (omega arith) ∙ one.ends) ∙ jumps;
        nexts = λ n y. go n (subst (λ k. IsNext (next_of k b) n) m_is y);
      }
        where
          go : (n : ℕ) → IsNext (x ∷ []) n → (a ≤ n) × (n ≤ x) × (g n ≡ t)
          go n (inl y) = (omega (arith, y, one.le, fb, other.lt), omega (arith, y), past n (omega (arith, y)))
          go n (inr y) = absurd y

  -- ---- code that surely ends, or not

  abbrev pub Runs : Bool → ℕ → ℕ → Point → Point → Type 0
  Runs true a e p q = Shut a e p
  Runs false a e p q = Flow program number function ls a e p q

  pub flow_runs : (b : Bool) (a m e : ℕ) (p q r : Point) → Flow program number function ls a m p q → Runs b m e q r → Runs b a e p r
  flow_runs true a m e p q r x y = flow_shut a m e p q x y
  flow_runs false a m e p q r x y = flow_then program number function ls a m e p q r x y

  pub runs_at : (b : Bool) (a e e' : ℕ) (p q : Point) → e ≡ e' → Runs b a e p q → Runs b a e' p q
  runs_at b a e e' p q s x = subst (λ n. Runs b a n p q) s x
