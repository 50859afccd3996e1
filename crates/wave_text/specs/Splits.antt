-- A text cut at a byte.
use Rattle.std.specs.Prelude.{◌≡◌, ℕ, Bool, true, ◌==◌, not, List, [], ◌∷◌, ◌++◌}
use Rattle.std.specs.List.{list_all}

abbrev pub is_other : ℕ → ℕ → Bool
is_other b c = not (c == b)

-- the byte is nowhere
abbrev pub HasNone : ℕ → List ℕ → Type 0
HasNone b bs = list_all (is_other b) bs ≡ true

-- what stands before the first such byte, and behind it
pub record IsSplit (b : ℕ) (text front rest : List ℕ) : Type 0 where
  pub spelled : text ≡ front ++ b ∷ rest
  pub first : HasNone b front

-- the parts before and behind the first such byte; all of the text and nothing where there is none
pub record ArePartsAt (b : ℕ) (text front rest : List ℕ) : Type 0 where
  pub cut : (f r : List ℕ) → HasNone b f → text ≡ f ++ b ∷ r → (front ≡ f) × (rest ≡ r)
  pub whole : HasNone b text → (front ≡ text) × (rest ≡ [])
