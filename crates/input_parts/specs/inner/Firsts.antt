-- The first line of a text.
use Rattle.std.specs.Prelude.{◌≡◌, ℕ, ◌⊎◌, List, [], ◌∷◌, ◌++◌}
use Rattle.wave_text.specs.Lines.{cut_lines}

-- a line, its line feed, and the rest
pub record Ends (text line rest : List ℕ) : Type 0 where
  pub whole : text ≡ line ++ 10 ∷ rest
  pub lines : cut_lines text ≡ line ∷ cut_lines rest

-- a last line, which has no line feed
pub record IsLast (text line rest : List ℕ) : Type 0 where
  pub whole : text ≡ line
  pub lines : cut_lines text ≡ line ∷ []
  pub none : rest ≡ []

abbrev pub IsFirst : List ℕ → List ℕ → List ℕ → Type 0
IsFirst text line rest = Ends text line rest ⊎ IsLast text line rest
