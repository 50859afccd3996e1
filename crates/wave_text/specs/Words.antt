-- Words and numbers as they stand in a text.
use Rattle.std.specs.Prelude.{ℕ, Bool, ◌||◌, ◌==◌, if◌then◌else◌, List, [], ◌∷◌}
use Rattle.wave_base.specs.Names.{is_digits}

-- a space or a tab
abbrev pub is_blank : ℕ → Bool
is_blank b = b == 32 || b == 9

abbrev pub without_minus : List ℕ → List ℕ
without_minus [] = []
without_minus (b ∷ bs) = if b == 45 then bs else b ∷ bs

-- an optional minus, and then one or more digits
abbrev pub is_whole : List ℕ → Bool
is_whole bs = is_digits (without_minus bs)
