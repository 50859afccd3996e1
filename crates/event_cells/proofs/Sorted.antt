-- What a search among pairs in the order of their keys found, and that the edits there keep them in order.
use Rattle.std.proofs.Common.{◌≡◌, ◌∙◌, ℕ, zero, suc, ◌<◌, ◌≤◌, [], ◌∷◌, ◌++◌, List, Bool, true, false, cond, length, get_or, slice_get, None, Some, Result, Ok, Err, refl, sym, ap, subst, arith}
use Rattle.std.specs.BTreeMap.{is_at, insert_entry}
use Rattle.std.specs.Cmp.{IsTotalOrder}
use Rattle.std.specs.List.{AllByRecursion, filter, remove}
use Rattle.std.specs.List.Sorted.{IsStrictlySortedBy, IsBinarySearchResult, IsSearchInRange}
use Rattle.std.specs.Map.{keys_of, lookup, remove_entry}
use Rattle.std.specs.Ordering.{is_eq, match_ordering, ordering_index, ordering_reverse}
use Rattle.std.specs.declared.cmp.Ordering.{Ordering}
use Rattle.std.specs.declared.cmp.Ordering.TheVariants.{Less, Equal, Greater}
use Rattle.event_cells.specs.inner.Places.{IsThere, IsGap, IsPlace}

by_ordering : {P : Type 0} (r : Ordering) → (r ≡ Less → P) → (r ≡ Equal → P) → (r ≡ Greater → P) → P
by_ordering Less a b c = a refl
by_ordering Equal a b c = b refl
by_ordering Greater a b c = c refl

when : {X : Type 0} (x y : X) (b : Bool) → b ≡ true → cond b x y ≡ x
when x y b h = ap (λ c. cond c x y) h

unless : {X : Type 0} (x y : X) (b : Bool) → b ≡ false → cond b x y ≡ y
unless x y b h = ap (λ c. cond c x y) h

pub all_map : {K : Type 0} (P Q : K → Type 0) → ((y : K) → P y → Q y) → (ks : List K) → AllByRecursion P ks → AllByRecursion Q ks
all_map P Q f [] a = tt
all_map P Q f (k ∷ ks) a = (f k a.0, all_map P Q f ks a.1)

index_le : (r : Ordering) → ordering_index r ≤ 2
index_le Less = omega arith
index_le Equal = omega arith
index_le Greater = omega arith

-- no keys are in order
pub sorted_none : {K : Type 0} (cmp : K → K → Ordering) → IsStrictlySortedBy cmp []
unfolding IsStrictlySortedBy
sorted_none cmp = tt

module _ {K X : Type 0} where
  pub all_at : (P : K → Type 0) (es : List (K × X)) (i : ℕ) (d : K × X) → i < length es → AllByRecursion P (keys_of es) → P (get_or es i d).0
  all_at P [] i d l a = absurd (omega arith)
  all_at P (e ∷ es) zero d l a = a.0
  all_at P (e ∷ es) (suc i) d l a = all_at P es i d (omega arith) a.1

  pub all_removed : (P : K → Type 0) (es : List (K × X)) (i : ℕ) → AllByRecursion P (keys_of es) → AllByRecursion P (keys_of (remove es i))
  all_removed P [] zero a = tt
  all_removed P [] (suc i) a = tt
  all_removed P (e ∷ es) zero a = a.1
  all_removed P (e ∷ es) (suc i) a = (a.0, all_removed P es i a.1)

  pub all_pushed : (P : K → Type 0) (es : List (K × X)) (x : K × X) → AllByRecursion P (keys_of es) → P x.0 → AllByRecursion P (keys_of (es ++ x ∷ []))
  all_pushed P [] x a p = (p, tt)
  all_pushed P (e ∷ es) x a p = (a.0, all_pushed P es x a.1 p)

module _ {K : Type 0} (cmp : K → K → Ordering) (total : IsTotalOrder cmp) (exact : (x y : K) → cmp x y ≡ Equal → x ≡ y) (k : K) where
  flipped : (x : K) (r : Ordering) → cmp x k ≡ r → cmp k x ≡ ordering_reverse r
  flipped x r h = total.antisymm k x ∙ ap ordering_reverse h

  rises : (x y : K) → cmp x y ≡ Less → ordering_index (cmp x k) ≤ ordering_index (cmp y k)
  rises x y h = by_ordering (cmp y k)
      (λ a. let p : ordering_index (cmp x k) ≡ 0 = ap ordering_index (total.trans x y k h a) in omega (arith, p))
      (λ a. let p : ordering_index (cmp x k) ≡ 0 = ap ordering_index (sym (ap (cmp x) (exact y k a)) ∙ h) in omega (arith, p))
      (λ a. let p : ordering_index (cmp y k) ≡ 2 = ap ordering_index a in omega (arith, p, index_le (cmp x k)))

module _ {K : Type 0} (cmp : K → K → Ordering) (total : IsTotalOrder cmp) (exact : (x y : K) → cmp x y ≡ Equal → x ≡ y) {X : Type 0} where
  module _ (k : K) where
    -- the key is above the first i keys
    abbrev AboveFirst : List (K × X) → ℕ → Type 0
    AboveFirst es zero = Unit {0}
    AboveFirst [] (suc i) = ⊥
    AboveFirst (e ∷ es) (suc i) = (cmp k e.0 ≡ Greater) × AboveFirst es i

    -- how the key compares with the one at i, if there is one
    abbrev AnswersAt : List (K × X) → ℕ → Ordering → Type 0
    AnswersAt [] i r = Unit {0}
    AnswersAt (e ∷ es) zero r = cmp k e.0 ≡ r
    AnswersAt (e ∷ es) (suc i) r = AnswersAt es i r

    at : (es : List (K × X)) (i : ℕ) (r : Ordering) → ((d : K × X) → i < length es → cmp (get_or es i d).0 k ≡ r) → AnswersAt es i (ordering_reverse r)
    at [] i r h = tt
    at (e ∷ es) zero r h = flipped cmp total exact k e.0 r (h e (omega arith))
    at (e ∷ es) (suc i) r h = at es i r (λ d l. h d (omega arith))

    above : (es : List (K × X)) (i : ℕ) → i ≤ length es → ((j : ℕ) (d : K × X) → j < i → cmp (get_or es j d).0 k ≡ Less) → AboveFirst es i
    above es zero l h = tt
    above [] (suc i) l h = absurd (omega arith)
    above (e ∷ es) (suc i) l h = (flipped cmp total exact k e.0 Less (h 0 e (omega arith)), above es i (omega arith) (λ j d m. h (suc j) d (omega arith)))

    above_hit : (es : List (K × X)) (i : ℕ) → IsStrictlySortedBy cmp (keys_of es) → i < length es → ((d : K × X) → cmp (get_or es i d).0 k ≡ Equal) → AboveFirst es i
    unfolding IsStrictlySortedBy
    above_hit es zero s l h = tt
    above_hit [] (suc i) s l h = absurd (omega arith)
    above_hit (e ∷ es) (suc i) s l h =
        let less : cmp e.0 (get_or es i e).0 ≡ Less = all_at (λ y. cmp e.0 y ≡ Less) es i e (omega arith) s.0 in
        let same : (get_or es i e).0 ≡ k = exact (get_or es i e).0 k (h e) in
        (flipped cmp total exact k e.0 Less (sym (ap (cmp e.0) same) ∙ less), above_hit es i s.1 (omega arith) h)

    non_decreasing : (es : List (K × X)) → IsStrictlySortedBy cmp (keys_of es) → (i j : ℕ) (d : K × X) → i ≤ j → j < length es → ordering_index (cmp (get_or es i d).0 k) ≤ ordering_index (cmp (get_or es j d).0 k)
    unfolding IsStrictlySortedBy
    non_decreasing [] s i j d l m = absurd (omega arith)
    non_decreasing (e ∷ es) s zero zero d l m = omega arith
    non_decreasing (e ∷ es) s zero (suc j) d l m = rises cmp total exact k e.0 (get_or es j d).0 (all_at (λ y. cmp e.0 y ≡ Less) es j d (omega arith) s.0)
    non_decreasing (e ∷ es) s (suc i) zero d l m = absurd (omega arith)
    non_decreasing (e ∷ es) s (suc i) (suc j) d l m = non_decreasing es s.1 i j d (omega arith) (omega arith)

    same_value : (e x : K × X) → Some e ≡ Some x → Some e.1 ≡ Some x.1
    same_value e x h = cc

    same_key : (e x : K × X) → Some e ≡ Some x → e.0 ≡ x.0
    same_key e x h = cc

    put_step : (v : X) (e : K × X) (es : List (K × X)) (r : Ordering) → cmp k e.0 ≡ r → match_ordering r ((k, v) ∷ e ∷ es) ((e.0, v) ∷ es) (e ∷ insert_entry cmp es k v) ≡ insert_entry cmp (e ∷ es) k v
    put_step v e es r h = sym (ap (λ o. match_ordering o ((k, v) ∷ e ∷ es) ((e.0, v) ∷ es) (e ∷ insert_entry cmp es k v)) h)

    there : (es : List (K × X)) (i : ℕ) → i < length es → AboveFirst es i → AnswersAt es i Equal → IsThere cmp es k i
    there [] i l a b = absurd (omega arith)
    there (e ∷ es) zero l a b =
        let y = ap is_eq b in
        record {
          within = l;
          has_key = λ x h. sym (exact k e.0 b ∙ same_key e x h);
          found = λ x h. when _ _ _ y ∙ same_value e x h;
          sets = λ v. ap (λ x. (x, v) ∷ es) (exact k e.0 b) ∙ put_step v e es Equal b;
          removes = sym (when _ _ _ y);
        }
    there (e ∷ es) (suc i) l a b =
        let n = ap is_eq a.0 in
        let r = there es i (omega arith) a.1 b in
        record {
          within = l;
          has_key = λ x h. r.has_key x h;
          found = λ x h. unless _ _ _ n ∙ r.found x h;
          sets = λ v. ap (λ l. e ∷ l) (r.sets v) ∙ put_step v e es Greater a.0;
          removes = ap (λ l. e ∷ l) r.removes ∙ sym (unless _ _ _ n);
        }

    below_absent : (es : List (K × X)) → AllByRecursion (λ y. cmp k y ≡ Less) (keys_of es) → lookup (is_at (cmp k)) es ≡ None
    below_absent [] a = refl
    below_absent (e ∷ es) a = unless _ _ _ (ap is_eq a.0) ∙ below_absent es a.1

    below_without : (es : List (K × X)) → AllByRecursion (λ y. cmp k y ≡ Less) (keys_of es) → remove_entry (is_at (cmp k)) es ≡ es
    below_without [] a = refl
    below_without (e ∷ es) a = unless _ _ _ (ap is_eq a.0) ∙ ap (λ l. e ∷ l) (below_without es a.1)

    gap : (es : List (K × X)) (i : ℕ) → IsStrictlySortedBy cmp (keys_of es) → i ≤ length es → AboveFirst es i → AnswersAt es i Less → IsGap cmp es k i
    unfolding IsStrictlySortedBy
    gap [] zero s l a b = record { within = l; absent = refl; inserts = λ v. refl; removes_none = refl }
    gap [] (suc i) s l a b = absurd a
    gap (e ∷ es) zero s l a b =
        let all : AllByRecursion (λ y. cmp k y ≡ Less) (keys_of (e ∷ es)) = (b, all_map (λ y. cmp e.0 y ≡ Less) (λ y. cmp k y ≡ Less) (λ y h. total.trans k e.0 y b h) (keys_of es) s.0) in
        record {
          within = l;
          absent = below_absent (e ∷ es) all;
          inserts = λ v. put_step v e es Less b;
          removes_none = below_without (e ∷ es) all;
        }
    gap (e ∷ es) (suc i) s l a b =
        let n = ap is_eq a.0 in
        let r = gap es i s.1 (omega arith) a.1 b in
        record {
          within = l;
          absent = unless _ _ _ n ∙ r.absent;
          inserts = λ v. ap (λ l. e ∷ l) (r.inserts v) ∙ put_step v e es Greater a.0;
          removes_none = unless _ _ _ n ∙ ap (λ l. e ∷ l) r.removes_none;
        }

    -- what a binary search says of sorted pairs
    pub placed : (es : List (K × X)) (r : Result ℕ ℕ) → IsStrictlySortedBy cmp (keys_of es) → IsSearchInRange r (length es) → IsBinarySearchResult (λ (y : K × X). cmp y.0 k) es r → IsPlace cmp es k r
    placed es (Ok i) s b p = there es i b (above_hit es i s b (λ d. p d)) (at es i Equal (λ d _. p d))
    placed es (Err i) s b p =
        let q = p (non_decreasing es s) in
        gap es i s b (above es i b (λ j d m. q.0 j d (omega arith) m)) (at es i Greater (λ d m. q.1 i d (omega arith) m))

    got : (es : List (K × X)) (i : ℕ) (d x : K × X) → slice_get es i ≡ Some x → get_or es i d ≡ x
    got [] i d x h = cc
    got (e ∷ es) zero d x h = cc
    got (e ∷ es) (suc i) d x h = got es i d x h

    -- a key above the last one is above all
    above_last : (es : List (K × X)) (i : ℕ) (x : K × X) → IsStrictlySortedBy cmp (keys_of es) → suc i ≡ length es → slice_get es i ≡ Some x → cmp k x.0 ≡ Greater → AboveFirst es (length es)
    unfolding IsStrictlySortedBy
    above_last [] i x s l h g = absurd (omega arith)
    above_last (e ∷ []) zero x s l h g = (ap (cmp k) (same_key e x h) ∙ g, tt)
    above_last (e ∷ f ∷ es) zero x s l h g = absurd (omega arith)
    above_last (e ∷ es) (suc i) x s l h g =
        let less : cmp e.0 x.0 ≡ Less = subst (λ (y : K × X). cmp e.0 y.0 ≡ Less) (got es i e x h) (all_at (λ y. cmp e.0 y ≡ Less) es i e (omega arith) s.0) in
        let more : cmp x.0 k ≡ Less = total.antisymm x.0 k ∙ ap ordering_reverse g in
        (flipped cmp total exact k e.0 Less (total.trans e.0 x.0 k less more), above_last es i x s.1 (omega arith) h g)

    nothing_at : (es : List (K × X)) → AnswersAt es (length es) Less
    nothing_at [] = tt
    nothing_at (e ∷ es) = nothing_at es

    -- what the last key tells, where the key is not below it
    pub placed_last : (es : List (K × X)) (i : ℕ) (x : K × X) → IsStrictlySortedBy cmp (keys_of es) → suc i ≡ length es → slice_get es i ≡ Some x → cmp k x.0 ≡ Equal → IsThere cmp es k i
    placed_last es i x s l h g =
        let hit : (d : K × X) → cmp (get_or es i d).0 k ≡ Equal = λ d. ap (λ (y : K × X). cmp y.0 k) (got es i d x h) ∙ total.antisymm x.0 k ∙ ap ordering_reverse g in
        let within : i < length es = omega arith in
        there es i within (above_hit es i s within hit) (at es i Equal (λ d _. hit d))

    pub placed_behind : (es : List (K × X)) (i : ℕ) (x : K × X) → IsStrictlySortedBy cmp (keys_of es) → suc i ≡ length es → slice_get es i ≡ Some x → cmp k x.0 ≡ Greater → IsGap cmp es k (length es)
    placed_behind es i x s l h g = gap es (length es) s (omega arith) (above_last es i x s l h g) (nothing_at es)

    module _ (v : X) where
      pub all_put : (P : K → Type 0) (es : List (K × X)) → P k → AllByRecursion P (keys_of es) → AllByRecursion P (keys_of (insert_entry cmp es k v))
      all_put P [] p a = (p, tt)
      all_put P (e ∷ es) p a =
          let Q : List (K × X) → Type 0 = λ l. AllByRecursion P (keys_of l) in
          by_ordering (cmp k e.0)
          (λ h. subst Q (put_step v e es Less h) (p, a))
          (λ h. subst Q (put_step v e es Equal h) a)
          (λ h. subst Q (put_step v e es Greater h) (a.0, all_put P es p a.1))

      -- a put keeps the keys in order
      pub sorted_put : (es : List (K × X)) → IsStrictlySortedBy cmp (keys_of es) → IsStrictlySortedBy cmp (keys_of (insert_entry cmp es k v))
      unfolding IsStrictlySortedBy
      sorted_put [] s = (tt, tt)
      sorted_put (e ∷ es) s =
          let Q : List (K × X) → Type 0 = λ l. IsStrictlySortedBy cmp (keys_of l) in
          by_ordering (cmp k e.0)
          (λ h. subst Q (put_step v e es Less h) ((h, all_map (λ y. cmp e.0 y ≡ Less) (λ y. cmp k y ≡ Less) (λ y m. total.trans k e.0 y h m) (keys_of es) s.0), s))
          (λ h. subst Q (put_step v e es Equal h) s)
          (λ h. subst Q (put_step v e es Greater h) (all_put (λ y. cmp e.0 y ≡ Less) es (total.antisymm e.0 k ∙ ap ordering_reverse h) s.0, sorted_put es s.1))

    -- a key above all goes to the end
    pub put_last : (v : X) (es : List (K × X)) → AllByRecursion (λ y. cmp k y ≡ Greater) (keys_of es) → es ++ (k, v) ∷ [] ≡ insert_entry cmp es k v
    put_last v [] a = refl
    put_last v (e ∷ es) a = ap (λ l. e ∷ l) (put_last v es a.1) ∙ put_step v e es Greater a.0

  -- a removal keeps the keys in order
  pub sorted_removed : (es : List (K × X)) (i : ℕ) → IsStrictlySortedBy cmp (keys_of es) → IsStrictlySortedBy cmp (keys_of (remove es i))
  unfolding IsStrictlySortedBy
  sorted_removed [] zero s = tt
  sorted_removed [] (suc i) s = tt
  sorted_removed (e ∷ es) zero s = s.1
  sorted_removed (e ∷ es) (suc i) s = (all_removed (λ y. cmp e.0 y ≡ Less) es i s.0, sorted_removed es i s.1)

  kept_by : (P : List (K × X) → Type 0) (b : Bool) (x y : List (K × X)) → P x → P y → P (cond b x y)
  kept_by P true x y p q = p
  kept_by P false x y p q = q

  -- what a test keeps is in order
  all_kept : (test : K × X → Bool) (P : K → Type 0) (es : List (K × X)) → AllByRecursion P (keys_of es) → AllByRecursion P (keys_of (filter test es))
  all_kept test P [] a = tt
  all_kept test P (e ∷ es) a =
      let rest = all_kept test P es a.1 in
      kept_by (λ l. AllByRecursion P (keys_of l)) (test e) (e ∷ filter test es) (filter test es) (a.0, rest) rest

  pub sorted_kept : (test : K × X → Bool) (es : List (K × X)) → IsStrictlySortedBy cmp (keys_of es) → IsStrictlySortedBy cmp (keys_of (filter test es))
  unfolding IsStrictlySortedBy
  sorted_kept test [] s = tt
  sorted_kept test (e ∷ es) s =
      let rest = sorted_kept test es s.1 in
      kept_by (λ l. IsStrictlySortedBy cmp (keys_of l)) (test e) (e ∷ filter test es) (filter test es) (all_kept test (λ y. cmp e.0 y ≡ Less) es s.0, rest) rest
