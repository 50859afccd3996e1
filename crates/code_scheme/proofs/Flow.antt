-- The points that the verifier fixes flow through code, from one place to another.
use Rattle.std.proofs.Common.{◌≡◌, ℕ, suc, ◌+◌, ◌<◌, ◌≤◌, ◌⊎◌, inl, inr, List, [], ◌∷◌, if◌then◌else◌, true, false, Some, refl, sym, ap, ◌∙◌, subst, arith}
use Rattle.std.specs.Prelude.{slice_get, nat_lt, Ok}
use Rattle.std.proofs.lemmas.Bool.{cases_lt}
use Rattle.std.proofs.lemmas.Bool.Decides.{nat_tests}
use Rattle.service_code.specs.declared.instr.Instr.TheVariants as i
use Rattle.service_code.specs.declared.program.Function.{Function}
use Rattle.service_code.specs.declared.program.Program.{Program}
use Rattle.service_verify.specs.declared.point.Point.{Point}
use Rattle.service_verify.specs.Points.{point_after}
use Rattle.service_verify.specs.Rules.{next_of}
use Rattle.code_scheme.specs.Scheme.{Line}

abbrev pub IsNext : List ℕ → ℕ → Type 0
IsNext [] m = ⊥
IsNext (x ∷ xs) m = (m ≡ x) ⊎ IsNext xs m

below_true : (n b : ℕ) → n < b → nat_lt n b ≡ true
below_true n b h = grind (arith, nat_tests)

below_false : (n b : ℕ) → b ≤ n → nat_lt n b ≡ false
below_false n b h = grind (arith, nat_tests)

-- f below b, and g from there on
pub glue : (ℕ → Point) → ℕ → (ℕ → Point) → ℕ → Point
glue f b g n = if nat_lt n b then f n else g n

pub glue_low : (f : ℕ → Point) (b : ℕ) (g : ℕ → Point) (n : ℕ) → n < b → glue f b g n ≡ f n
unfolding glue
glue_low f b g n h = ap (λ c. if c then f n else g n) (below_true n b h)

pub glue_high : (f : ℕ → Point) (b : ℕ) (g : ℕ → Point) (n : ℕ) → b ≤ n → glue f b g n ≡ g n
unfolding glue
glue_high f b g n h = ap (λ c. if c then f n else g n) (below_false n b h)

pub glue_mid : (f : ℕ → Point) (b : ℕ) (g : ℕ → Point) (n : ℕ) → f b ≡ g b → n ≤ b → glue f b g n ≡ f n
glue_mid f b g n e h = elim (cases_lt n b) [ inl x ↦ glue_low f b g n x | inr x ↦ (let same : n ≡ b = omega (arith, x, h) in subst (λ m. glue f b g m ≡ f m) (sym same) (glue_high f b g b (omega arith) ∙ sym e)) ]

module _ (program : Program) (number : ℕ) (function : Function) (ls : List Line) where
  -- what an instruction leaves at the instructions that may come next
  pub record Steps (points : ℕ → Point) (a e n : ℕ) (l : Line) : Type 0 where
    pub after : Point
    pub is : point_after program number function l.instr (points n) ≡ Ok after
    pub nexts : (m : ℕ) → IsNext (next_of l.instr n) m → (a ≤ m) × (m ≤ e) × (points m ≡ after)

  pub record Reached (a n : ℕ) : Type 0 where
    pub from : ℕ
    pub line : Line
    pub low : a ≤ from
    pub earlier : from < n
    pub is_line : slice_get ls from ≡ Some line
    pub is_next : IsNext (next_of line.instr from) n

  pub record Flow (a e : ℕ) (p q : Point) : Type 0 where
    pub points : ℕ → Point
    pub starts : points a ≡ p
    pub ends : points e ≡ q
    pub le : a ≤ e
    pub steps : (n : ℕ) (l : Line) → a ≤ n → n < e → slice_get ls n ≡ Some l → Steps points a e n l
    pub reach : (n : ℕ) → a < n → n ≤ e → Reached a n

  -- the same steps of other points that agree, in a wider range
  widen : (f g : ℕ → Point) (a e a' e' n : ℕ) (l : Line) → a' ≤ a → e ≤ e' → g n ≡ f n → ((m : ℕ) → a ≤ m → m ≤ e → g m ≡ f m) → Steps f a e n l → Steps g a' e' n l
  widen f g a e a' e' n l la le at same s = record {
    after = s.after;
    is = ap (point_after program number function l.instr) at ∙ s.is;
    nexts = λ m x. let t = s.nexts m x in (omega (arith, t.0, la), omega (arith, t.1, le), same m t.0 t.1 ∙ t.2);
  }

  pub lower : (a a' n : ℕ) → a' ≤ a → Reached a n → Reached a' n
  lower a a' n le r = record { from = r.from; line = r.line; low = omega (arith, r.low, le); earlier = r.earlier; is_line = r.is_line; is_next = r.is_next }

  pub flow_none : (a e : ℕ) (p : Point) → a ≡ e → Flow a e p p
  flow_none a e p s = record { points = λ n. p; starts = refl; ends = refl; le = omega (arith, s); steps = λ n l x y h. absurd (omega (arith, x, y, s)); reach = λ n x y. absurd (omega (arith, x, y, s)) }

  pub flow_then : (a b e : ℕ) (p q r : Point) → Flow a b p q → Flow b e q r → Flow a e p r
  flow_then a b e p q r x y = record {
    points = g;
    starts = glue_mid x.points b y.points a mid x.le ∙ x.starts;
    ends = glue_high x.points b y.points e y.le ∙ y.ends;
    le = omega (arith, x.le, y.le);
    steps = λ n l u w h. elim (cases_lt n b) [
      | inl s ↦ widen x.points g a b a e n l (omega arith) y.le (glue_low x.points b y.points n s) (λ m o t. glue_mid x.points b y.points m mid t) (x.steps n l u s h)
      | inr s ↦ widen y.points g b e a e n l x.le (omega arith) (glue_high x.points b y.points n s) (λ m o t. glue_high x.points b y.points m o) (y.steps n l s w h)
    ];
    reach = λ n u w. elim (cases_lt b n) [ inl s ↦ lower b a n x.le (y.reach n s w) | inr s ↦ x.reach n u s ];
  }
    where
      g : ℕ → Point
      g = glue x.points b y.points

      mid : x.points b ≡ y.points b
      mid = x.ends ∙ sym y.starts

  pub line_same : (n : ℕ) (l m : Line) → slice_get ls n ≡ Some l → slice_get ls n ≡ Some m → l ≡ m
  line_same n l m e f = let h : Some l ≡ Some m = sym e ∙ f in cc

  -- an instruction that goes on with the next one
  pub flow_line : (a e : ℕ) (p q : Point) (l : Line) → e ≡ a + 1 → slice_get ls a ≡ Some l → ((n : ℕ) → next_of l.instr n ≡ suc n ∷ []) → point_after program number function l.instr p ≡ Ok q → Flow a e p q
  flow_line a e p q l s is next after = record {
    points = g;
    starts = low a (omega arith);
    ends = glue_high (λ n. p) (a + 1) (λ n. q) e (omega (arith, s));
    le = omega (arith, s);
    steps = λ n m u w h. let here : n ≡ a = omega (arith, u, w, s) in subst (λ n. slice_get ls n ≡ Some m → Steps g a e n m) (sym here) (λ h'. subst (Steps g a e a) (line_same a l m is h') one) h;
    reach = λ n u w. record { from = a; line = l; low = omega arith; earlier = u; is_line = is; is_next = subst (λ ns. IsNext ns n) (sym (next a)) (inl (omega (arith, u, w, s))) };
  }
    where
      g : ℕ → Point
      g = glue (λ n. p) (a + 1) (λ n. q)

      low : (n : ℕ) → n < a + 1 → g n ≡ p
      low n h = glue_low (λ n. p) (a + 1) (λ n. q) n h

      one : Steps g a e a l
      one = record {
        after = q;
        is = ap (point_after program number function l.instr) (low a (omega arith)) ∙ after;
        nexts = λ m x. go m (subst (λ ns. IsNext ns m) (next a) x);
      }
        where
          go : (m : ℕ) → IsNext (suc a ∷ []) m → (a ≤ m) × (m ≤ e) × (g m ≡ q)
          go m (inl x) = (omega (arith, x), omega (arith, x, s), glue_high (λ n. p) (a + 1) (λ n. q) m (omega (arith, x)))
          go m (inr x) = absurd x

  -- a choice: where the value is false, it goes on behind the other side
  pub flow_choice : (a b f x : ℕ) (p s t : Point) (l m : Line) → slice_get ls a ≡ Some l → l.instr ≡ i.JumpFalse f → point_after program number function l.instr p ≡ Ok s → Flow (a + 1) b s t → slice_get ls b ≡ Some m → m.instr ≡ i.Jump x → point_after program number function m.instr t ≡ Ok t → f ≡ b + 1 → Flow f x s t → Flow a x p t
  flow_choice a b f x p s t l m isl l_is goes one ism m_is jumps fb other = record {
    points = g;
    starts = low a (omega (arith, one.le)) ∙ glue_low (λ n. p) (a + 1) one.points a (omega arith);
    ends = high x (omega (arith, fb, other.le)) ∙ other.ends;
    le = omega (arith, one.le, fb, other.le);
    steps = λ n k u w h. elim (cases_lt n b) [
      | inl y ↦ elim (cases_lt a n) [
        | inl z ↦ widen one.points g (a + 1) b a x n k (omega arith) (omega (arith, fb, other.le)) (mid n (omega (arith, z)) (omega (arith, y))) (λ m o r. mid m o r) (one.steps n k (omega (arith, z)) y h)
        | inr z ↦ (let here : n ≡ a = omega (arith, z, u) in subst (λ n. slice_get ls n ≡ Some k → Steps g a x n k) (sym here) (λ h'. subst (Steps g a x a) (line_same a l k isl h') first) h)
      ]
      | inr y ↦ elim (cases_lt b n) [
        | inl z ↦ widen other.points g f x a x n k (omega (arith, one.le, fb)) (omega arith) (high n (omega (arith, z))) (λ m o r. high m (omega (arith, o, fb))) (other.steps n k (omega (arith, z, fb)) w h)
        | inr z ↦ (let here : n ≡ b = omega (arith, z, y) in subst (λ n. slice_get ls n ≡ Some k → Steps g a x n k) (sym here) (λ h'. subst (Steps g a x b) (line_same b m k ism h') last) h)
      ]
    ];
    reach = λ n u w. elim (cases_lt b n) [
      | inl y ↦ elim (cases_lt f n) [
        | inl z ↦ lower f a n (omega (arith, one.le, fb)) (other.reach n z w)
        | inr z ↦ record { from = a; line = l; low = omega arith; earlier = u; is_line = isl; is_next = subst (λ k. IsNext (next_of k a) n) (sym l_is) (inr (inl (omega (arith, z, y, fb)))) }
      ]
      | inr y ↦ elim (cases_lt (a + 1) n) [
        | inl z ↦ lower (a + 1) a n (omega arith) (one.reach n z y)
        | inr z ↦ record { from = a; line = l; low = omega arith; earlier = u; is_line = isl; is_next = subst (λ k. IsNext (next_of k a) n) (sym l_is) (inl (omega (arith, z, u))) }
      ]
    ];
  }
    where
      g1 : ℕ → Point
      g1 = glue (λ n. p) (a + 1) one.points

      g : ℕ → Point
      g = glue g1 (b + 1) other.points

      low : (n : ℕ) → n < b + 1 → g n ≡ g1 n
      low n h = glue_low g1 (b + 1) other.points n h

      mid : (n : ℕ) → a + 1 ≤ n → n ≤ b → g n ≡ one.points n
      mid n h k = low n (omega (arith, k)) ∙ glue_high (λ n. p) (a + 1) one.points n h

      high : (n : ℕ) → b + 1 ≤ n → g n ≡ other.points n
      high n h = glue_high g1 (b + 1) other.points n h

      first : Steps g a x a l
      first = record {
        after = s;
        is = ap (point_after program number function l.instr) (low a (omega (arith, one.le)) ∙ glue_low (λ n. p) (a + 1) one.points a (omega arith)) ∙ goes;
        nexts = λ m y. go m (subst (λ k. IsNext (next_of k a) m) l_is y);
      }
        where
          go : (m : ℕ) → IsNext (suc a ∷ f ∷ []) m → (a ≤ m) × (m ≤ x) × (g m ≡ s)
          go m (inl y) = (omega (arith, y), omega (arith, y, one.le, fb, other.le), mid m (omega (arith, y)) (omega (arith, y, one.le)) ∙ (let e : m ≡ a + 1 = omega (arith, y) in ap one.points e) ∙ one.starts)
          go m (inr (inl y)) = (omega (arith, y, one.le, fb), omega (arith, y, other.le), high m (omega (arith, y, fb)) ∙ ap other.points y ∙ other.starts)
          go m (inr (inr y)) = absurd y

      last : Steps g a x b m
      last = record {
        after = t;
        is = ap (point_after program number function m.instr) (mid b one.le (omega arith) ∙ one.ends) ∙ jumps;
        nexts = λ n y. go n (subst (λ k. IsNext (next_of k b) n) m_is y);
      }
        where
          go : (n : ℕ) → IsNext (x ∷ []) n → (a ≤ n) × (n ≤ x) × (g n ≡ t)
          go n (inl y) = (omega (arith, y, one.le, fb, other.le), omega (arith, y), high n (omega (arith, y, fb, other.le)) ∙ ap other.points y ∙ other.ends)
          go n (inr y) = absurd y

  -- a block that is left out where the value is false
  pub flow_skip : (a x : ℕ) (p s : Point) (l : Line) → slice_get ls a ≡ Some l → l.instr ≡ i.JumpFalse x → point_after program number function l.instr p ≡ Ok s → Flow (a + 1) x s s → Flow a x p s
  flow_skip a x p s l isl l_is goes one = record {
    points = g;
    starts = glue_low (λ n. p) (a + 1) one.points a (omega arith);
    ends = high x one.le ∙ one.ends;
    le = omega (arith, one.le);
    steps = λ n k u w h. elim (cases_lt a n) [
      | inl z ↦ widen one.points g (a + 1) x a x n k (omega arith) (omega arith) (high n (omega (arith, z))) (λ m o r. high m o) (one.steps n k (omega (arith, z)) w h)
      | inr z ↦ (let here : n ≡ a = omega (arith, z, u) in subst (λ n. slice_get ls n ≡ Some k → Steps g a x n k) (sym here) (λ h'. subst (Steps g a x a) (line_same a l k isl h') first) h)
    ];
    reach = λ n u w. elim (cases_lt (a + 1) n) [
      | inl z ↦ lower (a + 1) a n (omega arith) (one.reach n z w)
      | inr z ↦ record { from = a; line = l; low = omega arith; earlier = u; is_line = isl; is_next = subst (λ k. IsNext (next_of k a) n) (sym l_is) (inl (omega (arith, z, u))) }
    ];
  }
    where
      g : ℕ → Point
      g = glue (λ n. p) (a + 1) one.points

      high : (n : ℕ) → a + 1 ≤ n → g n ≡ one.points n
      high n h = glue_high (λ n. p) (a + 1) one.points n h

      first : Steps g a x a l
      first = record {
        after = s;
        is = ap (point_after program number function l.instr) (glue_low (λ n. p) (a + 1) one.points a (omega arith)) ∙ goes;
        nexts = λ m y. go m (subst (λ k. IsNext (next_of k a) m) l_is y);
      }
        where
          go : (m : ℕ) → IsNext (suc a ∷ x ∷ []) m → (a ≤ m) × (m ≤ x) × (g m ≡ s)
          go m (inl y) = (omega (arith, y), omega (arith, y, one.le), high m (omega (arith, y)) ∙ (let e : m ≡ a + 1 = omega (arith, y) in ap one.points e) ∙ one.starts)
          go m (inr (inl y)) = (omega (arith, y, one.le), omega (arith, y), high m (omega (arith, y, one.le)) ∙ ap one.points y ∙ one.ends)
          go m (inr (inr y)) = absurd y

  -- a loop: its test, a jump past the end, the block, and a jump back
  pub flow_loop : (a t b x : ℕ) (p q : Point) (l m : Line) → Flow a t p q → slice_get ls t ≡ Some l → l.instr ≡ i.JumpFalse x → point_after program number function l.instr q ≡ Ok p → Flow (t + 1) b p p → slice_get ls b ≡ Some m → m.instr ≡ i.Jump a → point_after program number function m.instr p ≡ Ok p → x ≡ b + 1 → Flow a x p p
  flow_loop a t b x p q l m test isl l_is goes body ism m_is jumps xb = record {
    points = g;
    starts = low a (omega (arith, test.le, body.le)) ∙ glue_low test.points (t + 1) body.points a (omega (arith, test.le)) ∙ test.starts;
    ends = glue_high g1 (b + 1) (λ n. p) x (omega (arith, xb));
    le = omega (arith, test.le, body.le, xb);
    steps = λ n k u w h. elim (cases_lt n t) [
      | inl y ↦ widen test.points g a t a x n k (omega arith) (omega (arith, body.le, xb)) (one n (omega (arith, y))) (λ m o r. one m r) (test.steps n k u y h)
      | inr y ↦ elim (cases_lt t n) [
        | inl z ↦ elim (cases_lt n b) [
          | inl v ↦ widen body.points g (t + 1) b a x n k (omega (arith, test.le)) (omega (arith, xb)) (two n (omega (arith, z)) (omega (arith, v))) (λ m o r. two m o r) (body.steps n k (omega (arith, z)) v h)
          | inr v ↦ (let here : n ≡ b = omega (arith, v, w, xb) in subst (λ n. slice_get ls n ≡ Some k → Steps g a x n k) (sym here) (λ h'. subst (Steps g a x b) (line_same b m k ism h') last) h)
        ]
        | inr z ↦ (let here : n ≡ t = omega (arith, z, y) in subst (λ n. slice_get ls n ≡ Some k → Steps g a x n k) (sym here) (λ h'. subst (Steps g a x t) (line_same t l k isl h') first) h)
      ]
    ];
    reach = λ n u w. elim (cases_lt t n) [
      | inr y ↦ test.reach n u y
      | inl y ↦ elim (cases_lt b n) [
        | inl z ↦ record { from = t; line = l; low = test.le; earlier = y; is_line = isl; is_next = subst (λ k. IsNext (next_of k t) n) (sym l_is) (inr (inl (omega (arith, z, w, xb)))) }
        | inr z ↦ elim (cases_lt (t + 1) n) [
          | inl v ↦ lower (t + 1) a n (omega (arith, test.le)) (body.reach n v z)
          | inr v ↦ record { from = t; line = l; low = test.le; earlier = y; is_line = isl; is_next = subst (λ k. IsNext (next_of k t) n) (sym l_is) (inl (omega (arith, v, y))) }
        ]
      ]
    ];
  }
    where
      g1 : ℕ → Point
      g1 = glue test.points (t + 1) body.points

      g : ℕ → Point
      g = glue g1 (b + 1) (λ n. p)

      low : (n : ℕ) → n < b + 1 → g n ≡ g1 n
      low n h = glue_low g1 (b + 1) (λ n. p) n h

      one : (n : ℕ) → n ≤ t → g n ≡ test.points n
      one n h = low n (omega (arith, h, body.le)) ∙ glue_low test.points (t + 1) body.points n (omega (arith, h))

      two : (n : ℕ) → t + 1 ≤ n → n ≤ b → g n ≡ body.points n
      two n h k = low n (omega (arith, k)) ∙ glue_high test.points (t + 1) body.points n h

      first : Steps g a x t l
      first = record {
        after = p;
        is = ap (point_after program number function l.instr) (one t (omega arith) ∙ test.ends) ∙ goes;
        nexts = λ m y. go m (subst (λ k. IsNext (next_of k t) m) l_is y);
      }
        where
          go : (m : ℕ) → IsNext (suc t ∷ x ∷ []) m → (a ≤ m) × (m ≤ x) × (g m ≡ p)
          go m (inl y) = (omega (arith, y, test.le), omega (arith, y, body.le, xb), two m (omega (arith, y)) (omega (arith, y, body.le)) ∙ (let e : m ≡ t + 1 = omega (arith, y) in ap body.points e) ∙ body.starts)
          go m (inr (inl y)) = (omega (arith, y, test.le, body.le, xb), omega (arith, y), glue_high g1 (b + 1) (λ n. p) m (omega (arith, y, xb)))
          go m (inr (inr y)) = absurd y

      last : Steps g a x b m
      last = record {
        after = p;
        is = ap (point_after program number function m.instr) (two b body.le (omega arith) ∙ body.ends) ∙ jumps;
        nexts = λ n y. go n (subst (λ k. IsNext (next_of k b) n) m_is y);
      }
        where
          go : (n : ℕ) → IsNext (a ∷ []) n → (a ≤ n) × (n ≤ x) × (g n ≡ p)
          go n (inl y) = (omega (arith, y), omega (arith, y, test.le, body.le, xb), one n (omega (arith, y, test.le)) ∙ ap test.points y ∙ test.starts)
          go n (inr y) = absurd y

  pub flow_at : (a e e' : ℕ) (p q : Point) → e ≡ e' → Flow a e p q → Flow a e' p q
  flow_at a e e' p q s f = subst (λ n. Flow a n p q) s f
