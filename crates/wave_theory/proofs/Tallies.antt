-- How many labels each ticket has taken, its Passes and its Commit aside.
use Rattle.std.proofs.Common.{◌≡◌, ℕ, zero, suc, ◌+◌, ◌<◌, ◌≤◌, ◌⊎◌, inl, inr, nat_eq, Bool, true, false, refl, sym, ◌∙◌, ap, ap₂, subst, arith}
use Rattle.std.proofs.lemmas.Bool.Decides.{nat_tests}
use Rattle.wave_base.specs.declared.path.Path.{Path}
use Rattle.wave_base.specs.Paths.{path_eq}
use Rattle.wave_states.specs.Actors.{Actors}
use Rattle.wave_states.specs.States.{set}
use Rattle.wave_theory.proofs.Basics.{bool_cases, clash, number_cases, path_cases, set_at, set_there, differ}
use Rattle.wave_theory.proofs.Order.{Way, IsWay, Stage, Entering, Lined, Coming, There, Done}
use Rattle.wave_theory.proofs.Ranks.{entered_later}
use Rattle.wave_theory.proofs.Leaves.{Course}
use Rattle.wave_theory.proofs.Paths.{path_swap}
use Rattle.wave_theory.proofs.Shows

-- f 0 + .. below n
unfoldable pub sum_to : ℕ → (ℕ → ℕ) → ℕ
sum_to zero f = 0
sum_to (suc n) f = sum_to n f + f n

pub sum_zero : (f : ℕ → ℕ) → sum_to 0 f ≡ 0
unfolding sum_to
sum_zero f = refl

pub sum_more : (n : ℕ) (f : ℕ → ℕ) → sum_to (suc n) f ≡ sum_to n f + f n
unfolding sum_to
sum_more n f = refl

pub sum_same : (n : ℕ) (f h : ℕ → ℕ) → ((k : ℕ) → k < n → f k ≡ h k) → sum_to n f ≡ sum_to n h
unfolding sum_to
sum_same zero f h e = refl
sum_same (suc n) f h e = ap₂ (λ a b. a + b) (sum_same n f h (λ k l. e k (omega (arith, l)))) (e n (omega arith))

pub sum_less : (n : ℕ) (f h : ℕ → ℕ) → ((k : ℕ) → k < n → f k ≤ h k) → sum_to n f ≤ sum_to n h
unfolding sum_to
sum_less zero f h e = omega arith
sum_less (suc n) f h e = (let a = sum_less n f h (λ k l. e k (omega (arith, l))) in let c = e n (omega arith) in omega (arith, a, c))

-- a longer sum
pub sum_up : (n m : ℕ) (f : ℕ → ℕ) → n ≤ m → sum_to n f ≤ sum_to m f
sum_up n zero f l = (let z : n ≡ 0 = omega (arith, l) in subst (λ i. sum_to i f ≤ sum_to 0 f) (sym z) (omega arith))
sum_up n (suc m) f l = elim (at_or_below n m l) [
  | inr e ↦ subst (λ i. sum_to i f ≤ sum_to (suc m) f) (sym e) (omega arith)
  | inl k ↦ (let a = sum_up n m f k in let c = sum_more m f in omega (arith, a, c))
]
  where
    at_or_below : (a b : ℕ) → a ≤ suc b → (a ≤ b) ⊎ (a ≡ suc b)
    at_or_below a b l = grind arith

pub sum_one : (n : ℕ) (f h : ℕ → ℕ) (i : ℕ) → i < n → h i ≡ suc (f i) → ((k : ℕ) → k < n → nat_eq i k ≡ false → h k ≡ f k) → sum_to n h ≡ suc (sum_to n f)
unfolding sum_to
sum_one zero f h i l e o = absurd (omega (arith, l))
sum_one (suc n) f h i l e o = elim (number_cases i n) [
  | inl z ↦ (let a = sum_same n h f (λ k m. o k (omega (arith, m)) (differ i k (λ y. omega (arith, m, y, z)))) in let c : h n ≡ suc (f n) = subst (λ j. h j ≡ suc (f j)) z e in omega (arith, a, c))
  | inr z ↦ (let a = sum_one n f h i (less i n l z) e (λ k m. o k (omega (arith, m))) in let c = o n (omega arith) z in omega (arith, a, c))
]
  where
    less : (i n : ℕ) → i < suc n → nat_eq i n ≡ false → i < n
    less i n l e = grind (arith, nat_tests)

-- of a segment that is over: Queue, Grant, Start and Stop, and what frees the context; or Visit, Start and Stop
abbrev pub over_part : Bool → Bool → ℕ
over_part true true = 4
over_part true false = 5
over_part false h = 3

abbrev pub full_part : Bool → ℕ
full_part true = 5
full_part false = 3

-- of the segment that is next or out
abbrev pub stage_part : Bool → Stage → Bool → ℕ
stage_part f Entering o = 0
stage_part f Lined o = 1
stage_part f Coming o = 0
stage_part true There true = 3
stage_part true There false = 2
stage_part false There true = 2
stage_part false There false = 1
stage_part f Done o = 0

module _ {w : Way} (law : IsWay w) where
  -- a context that is entered was, for some segment
  pub entered_for : (t k : ℕ) (p : Path) → k ≤ suc (w.last t) → w.entered t k p ≡ true → (i : ℕ) × (i ≤ k) × (i ≤ w.last t) × (w.fresh t i ≡ true) × (w.place t i ≡ p)
  entered_for t zero p l e = (0, omega arith, omega arith, law.first_fresh t, law.first_place t ∙ sym (law.first_entered t p e))
  entered_for t (suc k) p l e = elim (law.new t k p (omega (arith, l)) e) [
    | inl o ↦ (let r = entered_for t k p (omega (arith, l)) o in (r.0, omega (arith, r.1), r.2, r.3, r.4))
    | inr o ↦ (suc k, omega arith, o.0, o.1, sym o.2)
  ]

  -- and only for one
  pub place_new : (t k i : ℕ) → k < i → i ≤ w.last t → w.fresh t i ≡ true → path_eq (w.place t i) (w.place t k) ≡ false
  place_new t k zero l m f = absurd (omega (arith, l))
  place_new t k (suc i) l m f = elim (path_cases (w.place t (suc i)) (w.place t k)) [
    | inr d ↦ d
    | inl d ↦ absurd (clash _ (subst (λ r. w.entered t i r ≡ true) (sym d) (entered_later law t k i (w.place t k) (omega (arith, l)) (law.held_entered t k (w.place t k) (law.at_held t k (omega (arith, l, m)))))) (law.once t i m f))
  ]

module _ {A F R J : Type 0} (sys : Actors A F R J) (w : Way) (course : Course sys) (low : ℕ) (is_real : ℕ → Type 0) where
  abbrev pub over_parts : Shows.Ghost F → ℕ → ℕ → ℕ
  over_parts g t k = over_part (w.fresh t k) (g.lines.holds (w.place t k) t)

  -- what the ticket has taken
  abbrev pub progress : Shows.Ghost F → ℕ → ℕ
  progress g t = suc (sum_to (g.lines.pos t) (over_parts g t) + stage_part (w.fresh t (g.lines.pos t)) (g.lines.stage t) (g.out t))

  pub record Tally (g : Shows.Ghost F) (c : ℕ → ℕ) : Type 0 where
    pub counted : (t : ℕ) → low < t → t ≤ g.lines.admitted → c t ≡ progress g t
    pub stale : (t : ℕ) → low < t → t ≤ g.lines.admitted → g.lines.stage t ≡ Coming → w.fresh t (g.lines.pos t) ≡ false

  -- a label of t
  pub tally_update : (g g' : Shows.Ghost F) (t : ℕ) (p : Path) (v : ℕ) (c : ℕ → ℕ) → Shows.Frame sys w course low is_real g g' t p v → g'.lines.admitted ≡ g.lines.admitted → low < t → t ≤ g.lines.admitted → Tally g c →
      (progress g' t ≡ suc (progress g t)) → (g'.lines.stage t ≡ Coming → w.fresh t (g'.lines.pos t) ≡ false) → Tally g' (set nat_eq c t (suc (c t)))
  tally_update g g' t p v c f same lt la y more st = record {
    counted = λ b lb l. elim (number_cases t b) [
      | inl z ↦ subst (λ i. set nat_eq c t (suc (c t)) i ≡ progress g' i) z (set_at c t (suc (c t)) ∙ ap suc (y.counted t lt la) ∙ sym more)
      | inr z ↦ set_there nat_eq c t (suc (c t)) b z ∙ y.counted b lb (subst (λ i. b ≤ i) same l) ∙ sym (others b z)
    ];
    stale = λ b lb l e. elim (number_cases t b) [
      | inl z ↦ subst (λ i. w.fresh i (g'.lines.pos i) ≡ false) z (st (ap g'.lines.stage z ∙ e))
      | inr z ↦ ap (w.fresh b) (f.pos b z) ∙ y.stale b lb (subst (λ i. b ≤ i) same l) (sym (f.stage b z) ∙ e)
    ];
  }
    where
      others : (b : ℕ) → nat_eq t b ≡ false → progress g' b ≡ progress g b
      others b z = ap suc (ap₂ (λ i j. i + j)
          (ap (λ n. sum_to n (over_parts g' b)) (f.pos b z) ∙ sum_same (g.lines.pos b) (over_parts g' b) (over_parts g b) (λ k l. ap (over_part (w.fresh b k)) (f.holds b (w.place b k) z)))
          (ap₂ (λ i j. stage_part (w.fresh b i) j (g'.out b)) (f.pos b z) (f.stage b z) ∙ ap (stage_part (w.fresh b (g.lines.pos b)) (g.lines.stage b)) (f.out b z)))

  -- where only the stage changes
  pub stage_more : (g g' : Shows.Ghost F) (t : ℕ) → g'.lines.pos t ≡ g.lines.pos t → ((k : ℕ) → k < g.lines.pos t → over_parts g' t k ≡ over_parts g t k) →
      stage_part (w.fresh t (g.lines.pos t)) (g'.lines.stage t) (g'.out t) ≡ suc (stage_part (w.fresh t (g.lines.pos t)) (g.lines.stage t) (g.out t)) → progress g' t ≡ suc (progress g t)
  stage_more g g' t pos_is same more = ap suc (ap₂ (λ i j. i + j) (ap (λ n. sum_to n (over_parts g' t)) pos_is ∙ sum_same (g.lines.pos t) (over_parts g' t) (over_parts g t) same)
      (ap (λ n. stage_part (w.fresh t n) (g'.lines.stage t) (g'.out t)) pos_is ∙ more) ∙ plus _ _)
    where
      plus : (a b : ℕ) → a + suc b ≡ suc (a + b)
      plus a b = omega arith

  -- where one of the contexts that it entered is freed of it
  pub free_more : IsWay w → (g g' : Shows.Ghost F) (t : ℕ) (p : Path) → g'.lines.pos t ≡ g.lines.pos t → g'.lines.stage t ≡ g.lines.stage t → g'.out t ≡ g.out t → g.lines.pos t ≤ suc (w.last t) →
      w.entered t (g.lines.pos t) p ≡ true → w.held t (g.lines.pos t) p ≡ false → g.lines.holds p t ≡ true → g'.lines.holds p t ≡ false → ((q : Path) → path_eq p q ≡ false → g'.lines.holds q t ≡ g.lines.holds q t) → progress g' t ≡ suc (progress g t)
  free_more law g g' t p pos_is stage_is out_is within entered gone holds freed others =
      let r = entered_for law t (g.lines.pos t) p within entered in
      let l : r.0 < g.lines.pos t = before r.0 (g.lines.pos t) r.1 (λ e. clash _ (subst (λ i. w.held t i p ≡ true) e (subst (λ q. w.held t r.0 q ≡ true) r.4 (law.at_held t r.0 r.2))) gone) in
      ap suc (ap₂ (λ i j. i + j) (ap (λ n. sum_to n (over_parts g' t)) pos_is ∙ sum_one (g.lines.pos t) (over_parts g t) (over_parts g' t) r.0 l
      (at_one r.0 r.3 (subst (λ q. g.lines.holds q t ≡ true) (sym r.4) holds) (subst (λ q. g'.lines.holds q t ≡ false) (sym r.4) freed))
      (λ k m n. elsewhere k m r.0 l n r.3 r.4 r.2))
      (ap₂ (λ i j. stage_part (w.fresh t i) j (g'.out t)) pos_is stage_is ∙ ap (stage_part (w.fresh t (g.lines.pos t)) (g.lines.stage t)) out_is) ∙ plus _ _)
    where
      plus : (a b : ℕ) → suc a + b ≡ suc (a + b)
      plus a b = omega arith

      before : (i n : ℕ) → i ≤ n → (i ≡ n → ⊥) → i < n
      before i n l e = grind arith

      at_one : (k : ℕ) → w.fresh t k ≡ true → g.lines.holds (w.place t k) t ≡ true → g'.lines.holds (w.place t k) t ≡ false → over_parts g' t k ≡ suc (over_parts g t k)
      at_one k f h h' = ap₂ over_part f h' ∙ sym (ap suc (ap₂ over_part f h))

      elsewhere : (k : ℕ) → k < g.lines.pos t → (i : ℕ) → i < g.lines.pos t → nat_eq i k ≡ false → w.fresh t i ≡ true → w.place t i ≡ p → i ≤ w.last t → over_parts g' t k ≡ over_parts g t k
      elsewhere k m i l n fi pl li = elim (bool_cases (w.fresh t k)) [
        | inr f ↦ ap (λ u. over_part u (g'.lines.holds (w.place t k) t)) f ∙ sym (ap (λ u. over_part u (g.lines.holds (w.place t k) t)) f)
        | inl f ↦ ap (over_part (w.fresh t k)) (others (w.place t k) (elim (order i k n) [
          | inl u ↦ subst (λ q. path_eq q (w.place t k) ≡ false) pl (path_swap (w.place t i) (w.place t k) ∙ place_new law t i k u (omega (arith, m, within)) f)
          | inr u ↦ subst (λ q. path_eq q (w.place t k) ≡ false) pl (place_new law t k i u li fi)
        ]))
      ]
        where
          order : (i k : ℕ) → nat_eq i k ≡ false → (i < k) ⊎ (k < i)
          order i k e = grind (arith, nat_tests)
