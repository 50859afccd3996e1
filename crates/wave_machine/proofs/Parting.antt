-- Lists in two parts, and what an edit at the place between them makes of them.
use Rattle.std.proofs.Common.{◌≡◌, ◌≢◌, ◌∙◌, ℕ, zero, suc, ◌+◌, ◌<◌, ◌≤◌, ◌==◌, ◌&&◌, Bool, true, false, List, [], ◌∷◌, ◌++◌, length, map, take, drop, Some, Result, refl, sym, ap, arith, true≢false}
use Rattle.std.specs.Prelude.{slice_get, is_ok, IsOk, if◌then◌else◌}
use Rattle.std.specs.List.{AllByRecursion, insert}
use Rattle.wave_states.specs.Labels.{Act, Label, ticket_of}
use Rattle.wave_theory.specs.Listed.{kind_rank}
use Rattle.wave_machine.specs.inner.Index.{Parted, by_none, is_of, act_number, under}
use Rattle.wave_machine.specs.declared.ready.Ready.{Ready}

module _ {X : Type 0} (test : X → Bool) where
  -- what passes is in the first part, and what doesn't in the second
  pub in_lower : (low high : List X) → AllByRecursion (λ x. test x ≡ false) high → (i : ℕ) (x : X) → slice_get (low ++ high) i ≡ Some x → test x ≡ true → i < length low
  in_lower [] high none i x at pass = absurd (true≢false (sym pass ∙ each high none i at))
    where
      each : (ys : List X) → AllByRecursion (λ y. test y ≡ false) ys → (j : ℕ) → slice_get ys j ≡ Some x → test x ≡ false
      each [] a j e = cc
      each (y ∷ ys) a zero e = let same : y ≡ x = cc in ap test (sym same) ∙ a.0
      each (y ∷ ys) a (suc j) e = each ys a.1 j e
  in_lower (y ∷ low) high none zero x at pass = omega arith
  in_lower (y ∷ low) high none (suc i) x at pass = let more = in_lower low high none i x at pass in omega (arith, more)

  pub in_higher : (low high : List X) → AllByRecursion (λ x. test x ≡ true) low → (i : ℕ) (x : X) → slice_get (low ++ high) i ≡ Some x → test x ≡ false → length low ≤ i
  in_higher [] high all i x at fail = omega arith
  in_higher (y ∷ low) high all zero x at fail = let same : y ≡ x = cc in absurd (true≢false (sym all.0 ∙ ap test same ∙ fail))
  in_higher (y ∷ low) high all (suc i) x at fail = let more = in_higher low high all.1 i x at fail in omega (arith, more)

module _ {X Y : Type 0} (f : X → Y) where
  pub inserted : (xs : List X) (low high : List Y) (x : X) → map f xs ≡ low ++ high → map f (insert xs (length low) x) ≡ low ++ f x ∷ high
  inserted xs [] high x e = ap (λ ys. f x ∷ ys) e
  inserted [] (y ∷ low) high x e = cc
  inserted (z ∷ xs) (y ∷ low) high x e =
      let head : f z ≡ y = cc in
      let tail : map f xs ≡ low ++ high = cc in
      λ i. head i ∷ inserted xs low high x tail i

  -- all but the first ones, and all but one
  pub dropped : (xs : List X) (own high : List Y) → map f xs ≡ own ++ high → map f (drop (length own) xs) ≡ high
  dropped xs [] high e = e
  dropped [] (y ∷ own) high e = cc
  dropped (x ∷ xs) (y ∷ own) high e = let tail : map f xs ≡ own ++ high = cc in dropped xs own high tail

  pub taken : (xs : List X) (low high : List Y) → map f xs ≡ low ++ high → map f (take (length low) xs) ≡ low
  taken xs [] high e = refl
  taken [] (y ∷ low) high e = cc
  taken (x ∷ xs) (y ∷ low) high e =
      let head : f x ≡ y = cc in
      let tail : map f xs ≡ low ++ high = cc in
      λ i. head i ∷ taken xs low high tail i

  pub but_one : (xs : List X) (low : List Y) (y : Y) (high : List Y) → map f xs ≡ low ++ y ∷ high → map f (take (length low) xs ++ drop (suc (length low)) xs) ≡ low ++ high
  but_one [] [] y high e = cc
  but_one (x ∷ xs) [] y high e = let tail : map f xs ≡ high = cc in tail
  but_one [] (z ∷ low) y high e = cc
  but_one (x ∷ xs) (z ∷ low) y high e =
      let head : f x ≡ z = cc in
      let tail : map f xs ≡ low ++ y ∷ high = cc in
      λ i. head i ∷ but_one xs low y high tail i

pub drop_one : {X : Type 0} (xs : List X) (i : ℕ) → drop 1 (drop i xs) ≡ drop (i + 1) xs
drop_one xs i = let next : suc i ≡ i + 1 = omega arith in more xs i ∙ ap (λ n. drop n xs) next
  where
    more : {X : Type 0} (ys : List X) (j : ℕ) → drop 1 (drop j ys) ≡ drop (suc j) ys
    more [] zero = refl
    more [] (suc j) = refl
    more (y ∷ ys) zero = refl
    more (y ∷ ys) (suc j) = more ys j

slice_of_map : {X Y : Type 0} (f : X → Y) (xs : List X) (i : ℕ) (x : X) → slice_get xs i ≡ Some x → slice_get (map f xs) i ≡ Some (f x)
slice_of_map f [] i x e = cc
slice_of_map f (y ∷ xs) zero x e = let same : y ≡ x = cc in ap (λ z. Some (f z)) same
slice_of_map f (y ∷ xs) (suc i) x e = slice_of_map f xs i x e

-- where one that is read belongs
module _ (index : List Ready) (kind t k : ℕ) (low high : List Label) (p : Parted (map by_none index) kind t k low high) (i : ℕ) (x : Ready) (at : slice_get index i ≡ Some x) where
  there : slice_get (low ++ high) i ≡ Some (by_none x)
  there = ap (λ ls. slice_get ls i) (sym p.all) ∙ slice_of_map by_none index i x at

  pub is_lower : under kind t k (by_none x).act ≡ true → i < length low
  is_lower e = in_lower (λ (l : Label). under kind t k l.act) low high p.higher i (by_none x) there e

  pub is_higher : under kind t k (by_none x).act ≡ false → length low ≤ i
  is_higher e = in_higher (λ (l : Label). under kind t k l.act) low high p.lower i (by_none x) there e

pub put_in : (old : List Ready) (kind t k at : ℕ) (x : Ready) (low high : List Label) → at ≡ length low → Parted (map by_none old) kind t k low high → map by_none (insert old at x) ≡ low ++ by_none x ∷ high
put_in old kind t k at x low high e p = ap (λ j. map by_none (insert old j x)) e ∙ inserted by_none old low high x p.all

-- what can be done is done
pub done_by : {A T E : Type 0} (r : Result T E) (a b : A) → IsOk r → (if is_ok r then a else b) ≡ a
done_by r a b h = ap (λ t. if t then a else b) h

-- ---- what is taken out at a place
module _ (kind t k : ℕ) where
  abbrev pub is_slot : Act → Bool
  is_slot a = (kind_rank a == kind) && ((ticket_of a == t) && (act_number a == k))

  abbrev pub first_is : List Label → Bool
  first_is [] = false
  first_is (l ∷ ls) = is_slot l.act

  pub at_place : (old : List Ready) (low rest : List Label) → map by_none old ≡ low ++ rest → is_of kind t k (slice_get old (length low)) ≡ first_is rest
  at_place [] [] [] e = refl
  at_place [] [] (l ∷ rest) e = cc
  at_place (r ∷ old) [] [] e = cc
  at_place (r ∷ old) [] (l ∷ rest) e = let head : by_none r ≡ l = cc in ap (λ (x : Label). is_slot x.act) head
  at_place [] (l ∷ low) rest e = cc
  at_place (r ∷ old) (l ∷ low) rest e = let tail : map by_none old ≡ low ++ rest = cc in at_place old low rest tail

  pub is_within : (old : List Ready) (i : ℕ) → is_of kind t k (slice_get old i) ≡ true → i < length old
  is_within [] i e = absurd (true≢false (sym e))
  is_within (r ∷ old) zero e = omega arith
  is_within (r ∷ old) (suc i) e = let more = is_within old i e in omega (arith, more)

  pub first_none : (ls : List Label) → AllByRecursion (λ (l : Label). is_slot l.act ≡ false) ls → first_is ls ≡ false
  first_none [] a = refl
  first_none (l ∷ ls) a = a.0

  -- what stands there is among these
  pub hit_some : (old : List Ready) (at : ℕ) (low own high : List Label) → at ≡ length low → map by_none old ≡ low ++ (own ++ high) → AllByRecursion (λ (l : Label). is_slot l.act ≡ false) high
      → is_of kind t k (slice_get old at) ≡ true → own ≢ []
  hit_some old at low [] high e all none hit = λ r. absurd (true≢false (sym hit ∙ ap (λ i. is_of kind t k (slice_get old i)) e ∙ at_place old low high all ∙ first_none high none))
  hit_some old at low (l ∷ own) high e all none hit = λ r. cc

  -- what stands there is the only one, and there is none where another stands there
  pub cut_hit : (old : List Ready) (at : ℕ) (low own high : List Label) → at ≡ length low → map by_none old ≡ low ++ (own ++ high) → length own ≤ 1 → AllByRecursion (λ (l : Label). is_slot l.act ≡ false) high
      → is_of kind t k (slice_get old at) ≡ true → map by_none (take at old ++ drop (at + 1) old) ≡ low ++ high
  cut_hit old at low [] high e all few none hit = absurd (true≢false (sym hit ∙ ap (λ i. is_of kind t k (slice_get old i)) e ∙ at_place old low high all ∙ first_none high none))
  cut_hit old at low (l ∷ []) high e all few none hit =
      let next : at + 1 ≡ suc (length low) = omega (arith, e) in
      (λ i. map by_none (take (e i) old ++ drop (next i) old)) ∙ but_one by_none old low l high all
  cut_hit old at low (l ∷ (x ∷ own)) high e all few none hit = absurd (omega (arith, few))

  pub cut_miss : (old : List Ready) (at : ℕ) (low own high : List Label) → at ≡ length low → map by_none old ≡ low ++ (own ++ high) → AllByRecursion (λ (l : Label). is_slot l.act ≡ true) own
      → is_of kind t k (slice_get old at) ≡ false → map by_none old ≡ low ++ high
  cut_miss old at low [] high e all own miss = all
  cut_miss old at low (l ∷ ls) high e all own miss = absurd (true≢false (sym own.0 ∙ sym (at_place old low (l ∷ (ls ++ high)) all) ∙ ap (λ i. is_of kind t k (slice_get old i)) (sym e) ∙ miss))
