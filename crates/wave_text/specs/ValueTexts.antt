-- Values as they are printed.
use Rattle.std.specs.Prelude.{ℕ, ◌+◌, ◌==◌, ℤ, if◌then◌else◌, List, [], ◌∷◌, ◌++◌, codes}
use Rattle.std.specs.Fmt.{signed_decimal}
use Rattle.wave_base.specs.declared.value.Value.{Value}
use Rattle.wave_base.specs.declared.value.Value.TheVariants.{Int, Bool, Str, Map}
use Rattle.wave_base.specs.Text.{quoted_text}

-- 1: 5
abbrev pub pair_text : ℤ × ℤ → List ℕ
pair_text p = signed_decimal p.0 ++ codes ": " ++ signed_decimal p.1

-- before all pairs but the first
abbrev pub comma_before : ℕ → List ℕ
comma_before i = if i == 0 then [] else codes ", "

-- the pairs from the i-th on
abbrev pub pairs_from : ℕ → List (ℤ × ℤ) → List ℕ
pairs_from i [] = []
pairs_from i (p ∷ ps) = comma_before i ++ pair_text p ++ pairs_from (i + 1) ps

-- a comma between pairs
abbrev pub pairs_text : List (ℤ × ℤ) → List ℕ
pairs_text ps = pairs_from 0 ps

-- a whole number in decimal, a truth value by its word, a text in quotes, a map in braces in the order of its keys
abbrev pub value_text : Value → List ℕ
value_text (Int n) = signed_decimal n
value_text (Bool b) = if b then codes "true" else codes "false"
value_text (Str t) = quoted_text t
value_text (Map m) = codes "{" ++ pairs_text m ++ codes "}"
