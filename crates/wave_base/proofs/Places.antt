-- What a search among sorted pairs found, and that the edits there keep the pairs sorted.
use Rattle.std.proofs.Common.{◌≡◌, ◌∙◌, ℕ, ℤ, zero, suc, ◌<◌, ◌≤◌, [], ◌∷◌, List, Bool, true, false, cond, if◌then◌else◌, length, get_or, None, Some, is_some, Result, Ok, Err, refl, sym, ap, subst, arith}
use Rattle.std.specs.List.{AllByRecursion, insert, remove}
use Rattle.std.specs.List.Sorted.{IsStrictlySortedBy, IsBinarySearchResult, IsSearchInRange}
use Rattle.std.specs.Map.{keys_of}
use Rattle.std.specs.Ordering.{int_cmp, is_eq, match_ordering, ordering_index, ordering_reverse}
use Rattle.std.specs.declared.cmp.Ordering.{Ordering}
use Rattle.std.specs.declared.cmp.Ordering.TheVariants.{Less, Equal, Greater}
use Rattle.std.proofs.lemmas.Cmp.{int_cmp_total}
use Rattle.std.proofs.lemmas.Map.Lookups.{exact_signed}
use Rattle.wave_base.specs.Tables.{IsTable, value_at, with_pair, without}
use Rattle.std.specs.List.{slice_get}
use Rattle.std.specs.Option.{option_map}
use Rattle.std.proofs.lemmas.Option.{slice_get-map}
use Rattle.std.proofs.lemmas.List.{length-set}
use Rattle.std.proofs.lemmas.List.Edits.{length-insert, length-remove}
use Rattle.std.proofs.Common.{slice_set}
use Rattle.wave_base.specs.inner.Places.{IsThere, IsGap, IsPlace}

by_ordering : {P : Type 0} (r : Ordering) → (r ≡ Less → P) → (r ≡ Equal → P) → (r ≡ Greater → P) → P
by_ordering Less a b c = a refl
by_ordering Equal a b c = b refl
by_ordering Greater a b c = c refl

when : {X : Type 0} (x y : X) (b : Bool) → b ≡ true → cond b x y ≡ x
when x y b h = ap (λ c. cond c x y) h

unless : {X : Type 0} (x y : X) (b : Bool) → b ≡ false → cond b x y ≡ y
unless x y b h = ap (λ c. cond c x y) h

all_map : (P Q : ℤ → Type 0) → ((y : ℤ) → P y → Q y) → (ks : List ℤ) → AllByRecursion P ks → AllByRecursion Q ks
all_map P Q f [] a = tt
all_map P Q f (k ∷ ks) a = (f k a.0, all_map P Q f ks a.1)

all_at : (P : ℤ → Type 0) (es : List (ℤ × ℤ)) (i : ℕ) (d : ℤ × ℤ) → i < length es → AllByRecursion P (keys_of es) → P (get_or es i d).0
all_at P [] i d l a = absurd (omega arith)
all_at P (e ∷ es) zero d l a = a.0
all_at P (e ∷ es) (suc i) d l a = all_at P es i d (omega arith) a.1

module _ (k : ℤ) where
  -- the key is above the first i keys
  abbrev pub AboveFirst : List (ℤ × ℤ) → ℕ → Type 0
  AboveFirst es zero = Unit {0}
  AboveFirst [] (suc i) = ⊥
  AboveFirst (e ∷ es) (suc i) = (int_cmp k e.0 ≡ Greater) × AboveFirst es i

  -- how the key compares with the one at i, if there is one
  abbrev pub AnswersAt : List (ℤ × ℤ) → ℕ → Ordering → Type 0
  AnswersAt [] i r = Unit {0}
  AnswersAt (e ∷ es) zero r = int_cmp k e.0 ≡ r
  AnswersAt (e ∷ es) (suc i) r = AnswersAt es i r

  flipped : (x : ℤ) (r : Ordering) → int_cmp x k ≡ r → int_cmp k x ≡ ordering_reverse r
  flipped x r h = int_cmp_total.antisymm k x ∙ ap ordering_reverse h

  at : (es : List (ℤ × ℤ)) (i : ℕ) (r : Ordering) → ((d : ℤ × ℤ) → i < length es → int_cmp (get_or es i d).0 k ≡ r) → AnswersAt es i (ordering_reverse r)
  at [] i r h = tt
  at (e ∷ es) zero r h = flipped e.0 r (h e (omega arith))
  at (e ∷ es) (suc i) r h = at es i r (λ d l. h d (omega arith))

  above : (es : List (ℤ × ℤ)) (i : ℕ) → i ≤ length es → ((j : ℕ) (d : ℤ × ℤ) → j < i → int_cmp (get_or es j d).0 k ≡ Less) → AboveFirst es i
  above es zero l h = tt
  above [] (suc i) l h = absurd (omega arith)
  above (e ∷ es) (suc i) l h = (flipped e.0 Less (h 0 e (omega arith)), above es i (omega arith) (λ j d m. h (suc j) d (omega arith)))

  above_hit : (es : List (ℤ × ℤ)) (i : ℕ) → IsStrictlySortedBy int_cmp (keys_of es) → i < length es → ((d : ℤ × ℤ) → int_cmp (get_or es i d).0 k ≡ Equal) → AboveFirst es i
  unfolding IsStrictlySortedBy
  above_hit es zero s l h = tt
  above_hit [] (suc i) s l h = absurd (omega arith)
  above_hit (e ∷ es) (suc i) s l h =
      let less : int_cmp e.0 (get_or es i e).0 ≡ Less = all_at (λ y. int_cmp e.0 y ≡ Less) es i e (omega arith) s.0 in
      let same : (get_or es i e).0 ≡ k = exact_signed (get_or es i e).0 k (h e) in
      (flipped e.0 Less (sym (ap (int_cmp e.0) same) ∙ less), above_hit es i s.1 (omega arith) h)

  index_le : (r : Ordering) → ordering_index r ≤ 2
  index_le Less = omega arith
  index_le Equal = omega arith
  index_le Greater = omega arith

  rises : (x y : ℤ) → int_cmp x y ≡ Less → ordering_index (int_cmp x k) ≤ ordering_index (int_cmp y k)
  rises x y h = by_ordering (int_cmp y k)
      (λ a. let p : ordering_index (int_cmp x k) ≡ 0 = ap ordering_index (int_cmp_total.trans x y k h a) in omega (arith, p))
      (λ a. let p : ordering_index (int_cmp x k) ≡ 0 = ap ordering_index (sym (ap (int_cmp x) (exact_signed y k a)) ∙ h) in omega (arith, p))
      (λ a. let p : ordering_index (int_cmp y k) ≡ 2 = ap ordering_index a in omega (arith, p, index_le (int_cmp x k)))

  pub non_decreasing : (es : List (ℤ × ℤ)) → IsStrictlySortedBy int_cmp (keys_of es) → (i j : ℕ) (d : ℤ × ℤ) → i ≤ j → j < length es → ordering_index (int_cmp (get_or es i d).0 k) ≤ ordering_index (int_cmp (get_or es j d).0 k)
  unfolding IsStrictlySortedBy
  non_decreasing [] s i j d l m = absurd (omega arith)
  non_decreasing (e ∷ es) s zero zero d l m = omega arith
  non_decreasing (e ∷ es) s zero (suc j) d l m = rises e.0 (get_or es j d).0 (all_at (λ y. int_cmp e.0 y ≡ Less) es j d (omega arith) s.0)
  non_decreasing (e ∷ es) s (suc i) zero d l m = absurd (omega arith)
  non_decreasing (e ∷ es) s (suc i) (suc j) d l m = non_decreasing es s.1 i j d (omega arith) (omega arith)

  there : (es : List (ℤ × ℤ)) (i : ℕ) → i < length es → AboveFirst es i → AnswersAt es i Equal → IsThere es k i
  there [] i l a b = absurd (omega arith)
  there (e ∷ es) zero l a b =
      let y = ap is_eq b in
      record {
        within = l;
        value = when _ _ _ y;
        found = ap is_some (when (Some e.1) (value_at es k) _ y);
        sets = λ v. ap (λ x. (x, v) ∷ es) (exact_signed k e.0 b) ∙ sym (ap (λ o. match_ordering o ((k, v) ∷ e ∷ es) ((e.0, v) ∷ es) (e ∷ with_pair es k v)) b);
        removes = sym (when _ _ _ y);
      }
  there (e ∷ es) (suc i) l a b =
      let n = ap is_eq a.0 in
      let r = there es i (omega arith) a.1 b in
      record {
        within = l;
        value = unless _ _ _ n ∙ r.value;
        found = ap is_some (unless (Some e.1) (value_at es k) _ n) ∙ r.found;
        sets = λ v. ap (λ l. e ∷ l) (r.sets v) ∙ sym (ap (λ o. match_ordering o ((k, v) ∷ e ∷ es) ((e.0, v) ∷ es) (e ∷ with_pair es k v)) a.0);
        removes = ap (λ l. e ∷ l) r.removes ∙ sym (unless _ _ _ n);
      }

  below_absent : (es : List (ℤ × ℤ)) → AllByRecursion (λ y. int_cmp k y ≡ Less) (keys_of es) → value_at es k ≡ None
  below_absent [] a = refl
  below_absent (e ∷ es) a = unless _ _ _ (ap is_eq a.0) ∙ below_absent es a.1

  below_without : (es : List (ℤ × ℤ)) → AllByRecursion (λ y. int_cmp k y ≡ Less) (keys_of es) → without es k ≡ es
  below_without [] a = refl
  below_without (e ∷ es) a = unless _ _ _ (ap is_eq a.0) ∙ ap (λ l. e ∷ l) (below_without es a.1)

  gap : (es : List (ℤ × ℤ)) (i : ℕ) → IsStrictlySortedBy int_cmp (keys_of es) → i ≤ length es → AboveFirst es i → AnswersAt es i Less → IsGap es k i
  unfolding IsStrictlySortedBy
  gap [] zero s l a b = record { within = l; absent = refl; inserts = λ v. refl; removes_none = refl }
  gap [] (suc i) s l a b = absurd a
  gap (e ∷ es) zero s l a b =
      let all : AllByRecursion (λ y. int_cmp k y ≡ Less) (keys_of (e ∷ es)) = (b, all_map (λ y. int_cmp e.0 y ≡ Less) (λ y. int_cmp k y ≡ Less) (λ y h. int_cmp_total.trans k e.0 y b h) (keys_of es) s.0) in
      record {
        within = l;
        absent = below_absent (e ∷ es) all;
        inserts = λ v. sym (ap (λ o. match_ordering o ((k, v) ∷ e ∷ es) ((e.0, v) ∷ es) (e ∷ with_pair es k v)) b);
        removes_none = below_without (e ∷ es) all;
      }
  gap (e ∷ es) (suc i) s l a b =
      let n = ap is_eq a.0 in
      let r = gap es i s.1 (omega arith) a.1 b in
      record {
        within = l;
        absent = unless _ _ _ n ∙ r.absent;
        inserts = λ v. ap (λ l. e ∷ l) (r.inserts v) ∙ sym (ap (λ o. match_ordering o ((k, v) ∷ e ∷ es) ((e.0, v) ∷ es) (e ∷ with_pair es k v)) a.0);
        removes_none = unless _ _ _ n ∙ ap (λ l. e ∷ l) r.removes_none;
      }

  -- what a binary search says that found the key
  pub hit : (es : List (ℤ × ℤ)) (i : ℕ) → IsStrictlySortedBy int_cmp (keys_of es) → i < length es → ((d : ℤ × ℤ) → int_cmp (get_or es i d).0 k ≡ Equal) → IsThere es k i
  hit es i s l h = there es i l (above_hit es i s l h) (at es i Equal (λ d _. h d))

  -- what one says that did not
  pub miss : (es : List (ℤ × ℤ)) (i : ℕ) → IsStrictlySortedBy int_cmp (keys_of es) → i ≤ length es → ((j : ℕ) (d : ℤ × ℤ) → j < i → int_cmp (get_or es j d).0 k ≡ Less) → ((j : ℕ) (d : ℤ × ℤ) → i ≤ j → j < length es → int_cmp (get_or es j d).0 k ≡ Greater) → IsGap es k i
  miss es i s l low high = gap es i s l (above es i l low) (at es i Greater (λ d m. high i d (omega arith) m))

module _ (k v : ℤ) where
  put_step : (e : ℤ × ℤ) (es : List (ℤ × ℤ)) (r : Ordering) → int_cmp k e.0 ≡ r → match_ordering r ((k, v) ∷ e ∷ es) ((e.0, v) ∷ es) (e ∷ with_pair es k v) ≡ with_pair (e ∷ es) k v
  put_step e es r h = sym (ap (λ o. match_ordering o ((k, v) ∷ e ∷ es) ((e.0, v) ∷ es) (e ∷ with_pair es k v)) h)

  all_put : (P : ℤ → Type 0) (es : List (ℤ × ℤ)) → P k → AllByRecursion P (keys_of es) → AllByRecursion P (keys_of (with_pair es k v))
  all_put P [] p a = (p, tt)
  all_put P (e ∷ es) p a =
      let Q : List (ℤ × ℤ) → Type 0 = λ l. AllByRecursion P (keys_of l) in
      by_ordering (int_cmp k e.0)
      (λ h. subst Q (put_step e es Less h) (p, a))
      (λ h. subst Q (put_step e es Equal h) a)
      (λ h. subst Q (put_step e es Greater h) (a.0, all_put P es p a.1))

  -- a put keeps the keys in order
  pub sorted_put : (es : List (ℤ × ℤ)) → IsStrictlySortedBy int_cmp (keys_of es) → IsStrictlySortedBy int_cmp (keys_of (with_pair es k v))
  unfolding IsStrictlySortedBy
  sorted_put [] s = (tt, tt)
  sorted_put (e ∷ es) s =
      let Q : List (ℤ × ℤ) → Type 0 = λ l. IsStrictlySortedBy int_cmp (keys_of l) in
      by_ordering (int_cmp k e.0)
      (λ h. subst Q (put_step e es Less h) ((h, all_map (λ y. int_cmp e.0 y ≡ Less) (λ y. int_cmp k y ≡ Less) (λ y m. int_cmp_total.trans k e.0 y h m) (keys_of es) s.0), s))
      (λ h. subst Q (put_step e es Equal h) s)
      (λ h. subst Q (put_step e es Greater h) (all_put (λ y. int_cmp e.0 y ≡ Less) es (int_cmp_total.antisymm e.0 k ∙ ap ordering_reverse h) s.0, sorted_put es s.1))

all_removed : (P : ℤ → Type 0) (es : List (ℤ × ℤ)) (i : ℕ) → AllByRecursion P (keys_of es) → AllByRecursion P (keys_of (remove es i))
all_removed P [] zero a = tt
all_removed P [] (suc i) a = tt
all_removed P (e ∷ es) zero a = a.1
all_removed P (e ∷ es) (suc i) a = (a.0, all_removed P es i a.1)

-- a removal keeps the keys in order
pub sorted_removed : (es : List (ℤ × ℤ)) (i : ℕ) → IsStrictlySortedBy int_cmp (keys_of es) → IsStrictlySortedBy int_cmp (keys_of (remove es i))
unfolding IsStrictlySortedBy
sorted_removed [] zero s = tt
sorted_removed [] (suc i) s = tt
sorted_removed (e ∷ es) zero s = s.1
sorted_removed (e ∷ es) (suc i) s = (all_removed (λ y. int_cmp e.0 y ≡ Less) es i s.0, sorted_removed es i s.1)

-- no pairs are in order
pub sorted_none : IsStrictlySortedBy int_cmp (keys_of {X = ℤ} [])
unfolding IsStrictlySortedBy
sorted_none = tt

-- what a binary search says of sorted pairs
pub placed : (k : ℤ) (es : List (ℤ × ℤ)) (r : Result ℕ ℕ) → IsStrictlySortedBy int_cmp (keys_of es) → IsSearchInRange r (length es) → IsBinarySearchResult (λ (y : ℤ × ℤ). int_cmp y.0 k) es r → IsPlace es k r
placed k es (Ok i) s b p = hit k es i s b p
placed k es (Err i) s b p = let q = p (non_decreasing k es s) in miss k es i s b (λ j d m. q.0 j d (omega arith) m) q.1

-- the tables after an edit at a place
pub table_set : (es : List (ℤ × ℤ)) (k v : ℤ) (i : ℕ) → IsTable es → IsThere es k i → IsTable (slice_set es i (k, v))
table_set es k v i t h = record { rises = rw (h.sets v) (sorted_put k v es t.rises); short = omega (arith, t.short, length-set es i (k, v)) }

pub table_inserted : (es : List (ℤ × ℤ)) (k v : ℤ) (i : ℕ) → IsTable es → IsGap es k i → length es < 1000 → IsTable (insert es i (k, v))
table_inserted es k v i t h l = record { rises = rw (h.inserts v) (sorted_put k v es t.rises); short = omega (arith, l, length-insert es i (k, v) h.within) }

pub table_removed : (es : List (ℤ × ℤ)) (i : ℕ) → IsTable es → i < length es → IsTable (remove es i)
table_removed es i t l = record { rises = sorted_removed es i t.rises; short = omega (arith, t.short, length-remove es i l) }

pub table_none : IsTable []
table_none = record { rises = sorted_none; short = omega arith }

-- what a place says, of the same pairs and of the same key
pub there_in : (es fs : List (ℤ × ℤ)) (j k : ℤ) (i : ℕ) → es ≡ fs → j ≡ k → IsThere es j i → IsThere fs k i
there_in es fs j k i e h t = subst (λ l. IsThere l k i) e (subst (λ q. IsThere es q i) h t)

pub gap_in : (es fs : List (ℤ × ℤ)) (j k : ℤ) (i : ℕ) → es ≡ fs → j ≡ k → IsGap es j i → IsGap fs k i
gap_in es fs j k i e h t = subst (λ l. IsGap l k i) e (subst (λ q. IsGap es q i) h t)

pub table_either : (b : Bool) (es fs : List (ℤ × ℤ)) → IsTable es → IsTable fs → IsTable (if b then es else fs)
table_either true es fs t u = t
table_either false es fs t u = u

-- the value that stands at the place of a key
pub value_there : (es : List (ℤ × ℤ)) (k : ℤ) (i : ℕ) (p : ℤ × ℤ) → IsThere es k i → slice_get es i ≡ Some p → value_at es k ≡ Some p.1
value_there es k i p h e = h.value ∙ slice_get-map (λ (q : ℤ × ℤ). q.1) es i ∙ ap (option_map (λ (q : ℤ × ℤ). q.1)) e
