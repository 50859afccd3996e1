-- The number that a text writes.
use Rattle.std.specs.Prelude.{ℕ, ◌==◌, nat_le, ◌&&◌, ℤ, pos, neg_ℤ, Bool, if◌then◌else◌, List, [], ◌∷◌, length}
use Rattle.std.specs.Str.Parse.{digits_value}
use Rattle.wave_base.specs.Names.{is_digits}

-- its digits, after a minus or not
abbrev pub number_in : List ℕ → ℤ
number_in [] = pos 0
number_in (b ∷ bs) = if b == 45 then neg_ℤ (pos (digits_value 10 bs)) else pos (digits_value 10 (b ∷ bs))

-- what stands behind the minus, if there is one
abbrev pub after_minus : List ℕ → List ℕ
after_minus [] = []
after_minus (b ∷ bs) = if b == 45 then bs else b ∷ bs

-- whether it has the form of a number: a minus or none, and 1 to 19 digits
abbrev pub is_number : List ℕ → Bool
is_number t = nat_le (length (after_minus t)) 19 && is_digits (after_minus t)
