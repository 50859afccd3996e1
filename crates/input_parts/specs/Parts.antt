-- An input: the text of a service, and behind the first line of four dashes a script.
use Rattle.std.specs.Prelude.{ℕ, ◌||◌, Bool, if◌then◌else◌, Option, Some, None, List, [], ◌∷◌, ◌++◌, codes}
use Rattle.std.specs.List.{flat_map, join_with_byte}
use Rattle.std.specs.Option.{option_map_or}
use Rattle.std.specs.Str.{bytes_eq}
use Rattle.wave_text.specs.Lines.{cut_lines}

-- four dashes, and one carriage return behind them or none
abbrev pub is_dashes : List ℕ → Bool
is_dashes line = bytes_eq line (codes "----") || bytes_eq line (codes "----" ++ 13 ∷ [])

abbrev pub with_first : List ℕ → Option (List (List ℕ) × List (List ℕ)) → Option (List (List ℕ) × List (List ℕ))
with_first l None = None
with_first l (Some x) = Some (l ∷ x.0, x.1)

-- the lines before the first one of dashes, and those behind it, where there is one
abbrev pub line_parts : List (List ℕ) → Option (List (List ℕ) × List (List ℕ))
line_parts [] = None
line_parts (l ∷ ls) = if is_dashes l then Some ([], ls) else with_first l (line_parts ls)

-- each line with the line feed that ends it
abbrev pub lines_text : List (List ℕ) → List ℕ
lines_text = flat_map (λ l. l ++ 10 ∷ [])

-- the text before the first line of dashes, and all where there is none
abbrev pub service_of : List ℕ → List ℕ
service_of input = option_map_or (λ (x : List (List ℕ) × List (List ℕ)). lines_text x.0) (line_parts (cut_lines input)) input

abbrev pub text_behind : Option (List (List ℕ) × List (List ℕ)) → Option (List ℕ)
text_behind None = None
text_behind (Some x) = Some (join_with_byte 10 x.1)

-- the text behind the first line of dashes, where there is one
abbrev pub script_of : List ℕ → Option (List ℕ)
script_of input = text_behind (line_parts (cut_lines input))
