-- Names that are the first of their kind differ.
use Rattle.std.proofs.Common.{◌≡◌, ◌<◌, ◌≤◌, ◌+◌, ℕ, zero, suc, Bool, true, false, cond, not, ◌&&◌, ◌||◌, List, [], ◌∷◌, length, map, position, get_or, Some, refl, sym, ap, ◌∙◌, arith}
use Rattle.std.specs.List.{position_from, list_any}
use Rattle.std.proofs.lemmas.Bool.{leb-true}
use Rattle.std.proofs.lemmas.Iterator.Adapters.{position_from-zero}
use Rattle.wave_base.specs.Names.{same_bytes, all_differ}
use Rattle.type_rules.specs.Known.{none_before}

-- where an element passes, the first that does is no later
module _ {X : Type 0} (p : X → Bool) where
  from_within : (xs : List X) (i k : ℕ) (d : X) → k < length xs → p (get_or xs k d) ≡ true → (m : ℕ) × (position_from p i xs ≡ Some m) × (m ≤ i + k)
  from_within [] i k d l h = absurd (omega arith)
  from_within (x ∷ xs) i zero d l h = (i, ap (λ b. cond b (Some i) (position_from p (i + 1) xs)) h, omega arith)
  from_within (x ∷ xs) i (suc k) d l h = by (p x) refl (from_within xs (i + 1) k d (omega arith) h)
    where
      by : (b : Bool) → p x ≡ b → ((m : ℕ) × (position_from p (i + 1) xs ≡ Some m) × (m ≤ i + 1 + k)) → (m : ℕ) × (position_from p i (x ∷ xs) ≡ Some m) × (m ≤ i + suc k)
      by true e r = (i, ap (λ b. cond b (Some i) (position_from p (i + 1) xs)) e, omega arith)
      by false e r =
          let within : r.0 ≤ i + 1 + k = r.2 in
          (r.0, ap (λ b. cond b (Some i) (position_from p (i + 1) xs)) e ∙ r.1, omega arith)

  pub position_within : (xs : List X) (k : ℕ) (d : X) → k < length xs → p (get_or xs k d) ≡ true → (m : ℕ) × (position p xs ≡ Some m) × (m ≤ k)
  position_within xs k d l h = let r = from_within xs 0 k d l h in let within : r.0 ≤ 0 + k = r.2 in (r.0, position_from-zero p xs ∙ r.1, omega arith)

-- nothing before the n-th passes
pub none_passes : {X : Type 0} (p : X → Bool) (xs : List X) (n k : ℕ) (d : X) → none_before n (position p xs) ≡ true → k < n → k < length xs → p (get_or xs k d) ≡ false
none_passes p xs n k d h before l = by (p (get_or xs k d)) refl
  where
    by : (b : Bool) → p (get_or xs k d) ≡ b → p (get_or xs k d) ≡ false
    by false e = e
    by true e =
        let r = position_within p xs k d l e in
        let first : n ≤ r.0 = leb-true n r.0 (sym (ap (none_before n) r.1) ∙ h) in
        let within : r.0 ≤ k = r.2 in
        absurd (omega arith)

-- each name is the first of its kind
abbrev pub AreFirst : {X : Type 0} → (X → List ℕ) → List X → Type 0
AreFirst {X} name xs = (k : ℕ) (d : X) → k < length xs → none_before k (position (λ x. same_bytes (name x) (name (get_or xs k d))) xs) ≡ true

module _ {X : Type 0} (name : X → List ℕ) where
  -- no two are the same
  abbrev Apart : List X → Type 0
  Apart xs = (i j : ℕ) (d : X) → i < j → j < length xs → same_bytes (name (get_or xs i d)) (name (get_or xs j d)) ≡ false

  apart : (xs : List X) → AreFirst name xs → Apart xs
  apart xs h i j d before l = none_passes (λ x. same_bytes (name x) (name (get_or xs j d))) xs j i d (h j d l) before (omega arith)

  none_like : (x : X) (xs : List X) → ((j : ℕ) (d : X) → j < length xs → same_bytes (name x) (name (get_or xs j d)) ≡ false) → list_any (same_bytes (name x)) (map name xs) ≡ false
  none_like x [] h = refl
  none_like x (y ∷ xs) h =
      ap (λ b. b || list_any (same_bytes (name x)) (map name xs)) (h 0 y (omega arith)) ∙ none_like x xs (λ j d l. h (suc j) d (omega arith))

  differ : (xs : List X) → Apart xs → all_differ (map name xs) ≡ true
  differ [] h = refl
  differ (x ∷ xs) h =
      ap (λ b. not b && all_differ (map name xs)) (none_like x xs (λ j d l. h 0 (suc j) d (omega arith) (omega arith)))
      ∙ differ xs (λ i j d before l. h (suc i) (suc j) d (omega arith) (omega arith))

  pub names_of_first : (xs : List X) → AreFirst name xs → all_differ (map name xs) ≡ true
  names_of_first xs h = differ xs (apart xs h)
