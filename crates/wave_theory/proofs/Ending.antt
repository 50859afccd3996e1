-- The fold ends: each job leaves room for those that it creates.
use Rattle.std.proofs.Common.{◌≡◌, ℕ, zero, suc, ◌+◌, ◌<◌, ◌≤◌, inl, inr, nat_lt, Bool, true, false, Some, None, List, [], ◌∷◌, ◌++◌, length, refl, sym, ◌∙◌, ap, ap₂, subst, arith}
use Rattle.std.specs.Prelude.{All, if◌then◌else◌, slice_get}
use Rattle.std.specs.List.{sum_by}
use Rattle.std.proofs.lemmas.List.Sums.{sum_by-cons, sum_by-append}
use Rattle.std.proofs.lemmas.Bool.Decides.{nat_tests}
use Rattle.std.proofs.Common.{length-append}
use Rattle.wave_base.specs.Fold.{Head, Progress, next_batch, begun, with_done}
use Rattle.wave_states.specs.Kinds.{Kind}
use Rattle.wave_states.specs.Alone.{fold_alone, job_after, run_alone}
use Rattle.wave_states.specs.Begins.{Begin}
use Rattle.wave_states.specs.Owes.{Owes, IsBegin}
use Rattle.wave_theory.proofs.Basics.{none_not, options, bool_cases}
use Rattle.wave_theory.proofs.Folds
use Rattle.wave_theory.proofs.Plans
use Rattle.wave_theory.proofs.Courses.{done_at}
use Rattle.wave_theory.proofs.Told
use Rattle.wave_theory.specs.Ends.{IsWorth, worth_of}

module _ {J : Type 0} where
  -- all but the first so many
  rest : ℕ → List J → List J
  rest zero xs = xs
  rest (suc n) [] = []
  rest (suc n) (x ∷ xs) = rest n xs

  rest_more : (n : ℕ) (xs ys : List J) → n ≤ length xs → rest n (xs ++ ys) ≡ rest n xs ++ ys
  unfolding rest
  rest_more zero xs ys l = refl
  rest_more (suc n) [] ys l = absurd (omega (arith, l))
  rest_more (suc n) (x ∷ xs) ys l = rest_more n xs ys (omega (arith, l))

  rest_next : (n : ℕ) (xs : List J) (j : J) → slice_get xs n ≡ Some j → rest n xs ≡ j ∷ rest (suc n) xs
  unfolding rest
  rest_next n [] j e = absurd (none_not e)
  rest_next zero (x ∷ xs) j e = ap (λ y. y ∷ xs) (Rattle.wave_theory.proofs.Basics.some_same x j e)
  rest_next (suc n) (x ∷ xs) j e = rest_next n xs j e

  rest_all : (n : ℕ) (xs : List J) → length xs ≤ n → rest n xs ≡ []
  unfolding rest
  rest_all zero [] l = refl
  rest_all zero (x ∷ xs) l = absurd (omega (arith, l))
  rest_all (suc n) [] l = refl
  rest_all (suc n) (x ∷ xs) l = rest_all n xs (omega (arith, l))

  slice_below : (n : ℕ) (xs : List J) (j : J) → slice_get xs n ≡ Some j → n < length xs
  slice_below n [] j e = absurd (none_not e)
  slice_below zero (x ∷ xs) j e = omega arith
  slice_below (suc n) (x ∷ xs) j e = (let r = slice_below n xs j e in omega (arith, r))

  module _ (worth : J → ℕ) where
    -- so many jobs may still come
    abbrev left : Head J → ℕ
    left h = sum_by worth (rest h.done h.known) + worth_of worth h.later

    abbrev InOrder : Head J → Type 0
    InOrder h = h.done ≤ length h.known

    begun_left : (h : Head J) (bs : List (List J)) → InOrder h → length h.known ≤ h.done → h.later ≡ bs → (left (begun h bs) ≡ left h) × InOrder (begun h bs)
    begun_left h [] o l e = (refl, o)
    begun_left h (x ∷ bs) o l e = (
      ap (λ ys. sum_by worth ys + worth_of worth bs) (rest_more h.done h.known x o ∙ ap (λ ys. ys ++ x) (rest_all h.done h.known l))
          ∙ sym (ap₂ (λ ys zs. sum_by worth ys + worth_of worth zs) (rest_all h.done h.known l) e ∙ ap (λ m. sum_by worth [] + m) (sum_by-cons (sum_by worth) x bs) ∙ none_first (sum_by worth x + worth_of worth bs)),
      subst (λ m. h.done ≤ m) (sym (length-append h.known x)) (omega (arith, o)),
    )
      where
        none_first : (a : ℕ) → 0 + a ≡ a
        none_first a = omega arith

    next_left : (h : Head J) → InOrder h → (left (next_batch h) ≡ left h) × InOrder (next_batch h)
    next_left h o = by (nat_lt h.done (length h.known)) refl
      where
        not_less : (a c : ℕ) → nat_lt a c ≡ false → c ≤ a
        not_less a c e = grind (arith, nat_tests)

        by : (i : Bool) → nat_lt h.done (length h.known) ≡ i → (left (if i then h else begun h h.later) ≡ left h) × InOrder (if i then h else begun h h.later)
        by true e = (refl, o)
        by false e = begun_left h h.later o (not_less h.done (length h.known) e) refl

    done_left : (h : Head J) (j : J) (created : List J) → slice_get h.known h.done ≡ Some j → suc (sum_by worth created) ≤ worth j → (suc (left (with_done h created)) ≤ left h) × InOrder (with_done h created)
    done_left h j created e l = (let n = next_left (record { known = h.known ++ created; later = h.later; done = suc h.done }) order in (
      at_most _ _ _ _ _ _ _ n.0 (ap (sum_by worth) (rest_more (suc h.done) h.known created below) ∙ sum_by-append worth (rest (suc h.done) h.known) created) (ap (sum_by worth) (rest_next h.done h.known j e) ∙ sum_by-cons worth j (rest (suc h.done) h.known)) l,
      n.1,
    ))
      where
        below : suc h.done ≤ length h.known
        below = slice_below h.done h.known j e

        order : suc h.done ≤ length (h.known ++ created)
        order = subst (λ m. suc h.done ≤ m) (sym (length-append h.known created)) (omega (arith, below))

        at_most : (x y z c w r t : ℕ) → x ≡ y + t → y ≡ r + c → z ≡ w + r → suc c ≤ w → suc x ≤ z + t
        at_most x y z c w r t a d e l = omega (arith, a, d, e, l)

module _ {A F R J : Type 0} (kind : Kind A F R J) (owes : Owes kind) (worth : J → ℕ) (is_worth : IsWorth kind worth) (b : Begin F) (batches : List (List J)) (begins : IsBegin kind b) (jobs : All (All kind.is_job) batches) where
  abbrev at : ℕ → Progress F R J
  at n = fold_alone kind.system b batches n

  -- what is done and what may still come is no more than may come of all
  still : (n : ℕ) → (left worth (at n).head + (at n).head.done ≤ worth_of worth batches) × InOrder worth (at n).head
  unfolding rest
  still zero = (let r = next_left worth (record { known = []; later = batches; done = 0 }) (omega arith) in (first _ _ _ _ r.0 (Folds.zero_done kind.system b batches) refl, r.1))
    where
      first : (x d t z : ℕ) → x ≡ z → d ≡ 0 → z ≡ 0 + t → x + d ≤ t
      first x d t z e f g = omega (arith, e, f, g)
  still (suc n) = elim (options (job_after kind.system b batches n)) [
    | inl e ↦ subst (λ (v : Progress F R J). (left worth v.head + v.head.done ≤ worth_of worth batches) × InOrder worth v.head) (sym (Folds.stays kind.system b batches n e)) (still n)
    | inr j ↦ (let h = still n in
        let p = Plans.holds kind owes b batches begins jobs n in
        let d = done_at kind owes b batches begins jobs n j.0 j.1 in
        let r = done_left worth (at n).head j.0 (kind.system.created (run_alone kind.system (suc b.before + n) (at n).tree j.0).result) j.1 (is_worth j.0 (suc b.before + n) (at n).tree (Plans.job_ok kind owes b batches begins jobs (at n) j.0 p j.1) p.fitting p.ordered) in
        subst (λ (v : Progress F R J). (left worth v.head + v.head.done ≤ worth_of worth batches) × InOrder worth v.head) (sym (Told.goes_on kind owes b batches begins jobs n j.0 j.1))
        (one_more _ _ _ _ _ r.0 (Folds.with_done_done (at n).head _) h.0, r.1))
  ]
    where
      one_more : (x y d e t : ℕ) → suc x ≤ y → e ≡ suc d → y + d ≤ t → x + e ≤ t
      one_more x y d e t l f m = omega (arith, l, f, m)

  pub ends : (n : ℕ) → worth_of worth batches ≤ n → job_after kind.system b batches n ≡ None
  ends n l = elim (options (job_after kind.system b batches n)) [
    | inl e ↦ e
    | inr j ↦ absurd (let h = still n in
        let p = Plans.holds kind owes b batches begins jobs n in
        let q = is_worth j.0 (suc b.before + n) (at n).tree (Plans.job_ok kind owes b batches begins jobs (at n) j.0 p j.1) p.fitting p.ordered in
        past _ _ _ _ _ _ _ h.0 (ap (sum_by worth) (rest_next (at n).head.done (at n).head.known j.0 j.1) ∙ sum_by-cons worth j.0 (rest (suc (at n).head.done) (at n).head.known)) q (done_at kind owes b batches begins jobs n j.0 j.1) l)
  ]
    where
      past : (s u d t w r n : ℕ) {c : ℕ} → s + u + d ≤ t → s ≡ w + r → suc c ≤ w → d ≡ n → t ≤ n → ⊥
      past s u d t w r n a e l f m = omega (arith, a, e, l, f, m)

pub upto : (n : ℕ) → n ≤ n
upto n = omega arith
