-- What is said of a text.
use Rattle.std.specs.Prelude.{◌≡◌}

-- it may be said, and nothing else
abbrev pub IsOnly : {V : Type 0} → (V → Type 0) → V → Type 0
IsOnly {V} May said = May said × ((other : V) → May other → other ≡ said)
