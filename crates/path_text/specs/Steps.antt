-- The form of a path's text: `/`, or `/Class[key]` for each step.
use Rattle.std.specs.Prelude.{◌≡◌, ℕ, Bool, true, ◌&&◌, nat_le, List, [], ◌∷◌, ◌++◌, length}
use Rattle.std.specs.List.{list_all}
use Rattle.wave_base.specs.Names.{is_word}
use Rattle.wave_text.specs.Words.{is_whole, without_minus}
use Rattle.path_text.specs.declared.written.Written.{Written}

-- an optional minus and 1 to 19 digits
abbrev pub is_key : List ℕ → Bool
is_key bs = is_whole bs && nat_le (length (without_minus bs)) 19

abbrev pub is_step : Written → Bool
is_step s = is_word s.name && is_key s.key

-- /name[key]
abbrev pub step_text : Written → List ℕ
step_text s = 47 ∷ (s.name ++ 91 ∷ (s.key ++ 93 ∷ []))

abbrev pub steps_text : List Written → List ℕ
steps_text [] = []
steps_text (s ∷ ss) = step_text s ++ steps_text ss

-- the root's is a slash alone
abbrev pub written_text : List Written → List ℕ
written_text [] = 47 ∷ []
written_text (s ∷ ss) = steps_text (s ∷ ss)

-- the text has a path's form, with these steps
pub record HasSteps (text : List ℕ) (steps : List Written) : Type 0 where
  pub spelled : text ≡ written_text steps
  pub form : list_all is_step steps ≡ true

-- the text has a path's form
abbrev pub HasSomeSteps : List ℕ → Type 0
HasSomeSteps text = (steps : List Written) × HasSteps text steps

-- nothing else are its steps
abbrev pub HasOnlySteps : List ℕ → List Written → Type 0
HasOnlySteps text steps = (others : List Written) → HasSteps text others → others ≡ steps

-- the text has no path's form
abbrev pub HasNoSteps : List ℕ → Type 0
HasNoSteps text = (steps : List Written) → HasSteps text steps → ⊥
