-- The lines of a text.
use Rattle.std.specs.Prelude.{ℕ, Bool, ◌==◌, if◌then◌else◌, List, [], ◌∷◌, map}
use Rattle.wave_text.specs.Splits.{is_other}

-- no line feed
abbrev pub is_inside : ℕ → Bool
is_inside = is_other 10

abbrev pub onto_first : ℕ → List (List ℕ) → List (List ℕ)
onto_first b [] = (b ∷ []) ∷ []
onto_first b (l ∷ ls) = (b ∷ l) ∷ ls

-- cut at each line feed
abbrev pub cut_lines : List ℕ → List (List ℕ)
cut_lines [] = [] ∷ []
cut_lines (b ∷ bs) = if is_inside b then onto_first b (cut_lines bs) else [] ∷ cut_lines bs

-- without one carriage return at the end
abbrev pub without_return : List ℕ → List ℕ
without_return [] = []
without_return (b ∷ []) = if b == 13 then [] else b ∷ []
without_return (b ∷ c ∷ bs) = b ∷ without_return (c ∷ bs)

-- each line ends at a line feed or at the text's end, and one carriage return before that end is dropped
abbrev pub lines_of : List ℕ → List (List ℕ)
lines_of bs = map without_return (cut_lines bs)
