-- The numbers that digits stand for. What is written of a number is std's `decimal`, and `signed_decimal`.
use Rattle.std.specs.Prelude.{◌≡◌, ℕ, ◌<◌, ◌^◌, ℤ, pos, neg_ℤ, ◌==◌, nat_lt, nat_le, if◌then◌else◌, List, [], ◌∷◌, Option, Some, None}
use Rattle.std.specs.Fmt.{decimal}
use Rattle.std.specs.Str.Parse.{digits_value}

-- the number that digits stand for, whatever its size
abbrev pub number_of : List ℕ → ℕ
number_of digits = digits_value 10 digits

-- where the text is that of a number of so many bits, this one is found
abbrev pub IsNumberOf : ℕ → List ℕ → Option ℕ → Type 0
IsNumberOf bits text found = (n : ℕ) → n < 2 ^ bits → text ≡ decimal n → found ≡ Some n

-- a number and its negative, where they fit 64 bits with sign
abbrev pub positive_int : ℕ → Option ℤ
positive_int n = if nat_lt n (2 ^ 63) then Some (pos n) else None

abbrev pub negative_int : ℕ → Option ℤ
negative_int n = if nat_le n (2 ^ 63) then Some (neg_ℤ (pos n)) else None

-- the number that an optional minus and digits stand for, where it fits
abbrev pub whole_of : List ℕ → Option ℤ
whole_of [] = None
whole_of (b ∷ bs) = if b == 45 then negative_int (number_of bs) else positive_int (number_of (b ∷ bs))
