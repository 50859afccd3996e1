-- The first place of a list that passes a test.
use Rattle.std.proofs.Common.{◌≡◌, ℕ, ◌<◌, Bool, true, false, if◌then◌else◌, nat_lt, List, [], ◌∷◌, length, get_or, Some, None, slice_get, refl, ap, ◌∙◌, arith}
use Rattle.std.proofs.lemmas.Bool.Decides.{nat_tests}
use Rattle.std.proofs.lemmas.List.Sums.{position_or_len_is}
use Rattle.std.proofs.lemmas.Option.{get_or_from_slice_get, slice_get-get_or}
use Rattle.std.specs.List.{position, position_or_len}

module _ {X : Type 0} (p : X → Bool) where
  -- no place below i passes
  abbrev pub NoneBelow : List X → ℕ → Type 0
  NoneBelow xs i = (k : ℕ) → k < i → (x : X) → slice_get xs k ≡ Some x → p x ≡ false

  is_some_at : (n i len : ℕ) → n ≡ i → i < len → (if nat_lt n len then Some n else None) ≡ Some i
  is_some_at n i len e h = rw e (grind (arith, nat_tests))

  is_none_at : (n len : ℕ) → n ≡ len → (if nat_lt n len then Some n else None) ≡ None
  is_none_at n len e = rw e (grind (arith, nat_tests))

  pub first_at : (xs : List X) (i : ℕ) (x : X) → i < length xs → NoneBelow xs i → slice_get xs i ≡ Some x → p x ≡ true → position p xs ≡ Some i
  first_at xs i x l none e h =
      let at : position_or_len p xs ≡ i = position_or_len_is p xs i x (omega arith) (λ k m. none k m (get_or xs k x) (slice_get-get_or xs k x (omega arith))) (λ _. ap p (get_or_from_slice_get xs i x x e) ∙ h) in
      is_some_at (position_or_len p xs) i (length xs) at l

  pub none_at : (xs : List X) → NoneBelow xs (length xs) → position p xs ≡ None
  none_at [] none = refl
  none_at (x ∷ xs) none =
      is_none_at (position_or_len p (x ∷ xs)) (length (x ∷ xs)) (position_or_len_is p (x ∷ xs) (length (x ∷ xs)) x (omega arith) (λ k m. none k m (get_or (x ∷ xs) k x) (slice_get-get_or (x ∷ xs) k x m)) (λ l. absurd (omega arith)))
