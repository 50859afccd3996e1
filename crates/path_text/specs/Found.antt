-- What a reader takes a text for: where it is written for a path, it can be no other.
use Rattle.std.specs.Prelude.{◌≡◌, ◌≤◌, ℕ, true, List, length, Option, Some, FitsSigned, All}
use Rattle.std.specs.Int.{w64}
use Rattle.wave_base.specs.declared.limits.TheConstants.{CLASS_DEPTH}
use Rattle.wave_base.specs.declared.path.Path.{Path}
use Rattle.wave_base.specs.declared.path.Step.{Step}
use Rattle.wave_base.specs.declared.shape.Shape.{Shape}
use Rattle.wave_base.specs.Shapes.{is_path}
use Rattle.path_text.specs.PathTexts.{path_text}

-- as the types of the program have it: no more steps than may be, with keys of 64 bits
pub record HasKeys (p : Path) : Type 0 where
  pub short : length p ≤ CLASS_DEPTH
  pub keys : All (λ (s : Step). FitsSigned w64 s.key) p

-- a path of the shape
pub record IsPath (shape : Shape) (p : Path) : Type 0 where
  pub path : is_path shape p ≡ true
  pub keys : HasKeys p

-- where the text is written for a path, this one is found
abbrev pub IsPathOf : Shape → List ℕ → Option Path → Type 0
IsPathOf shape text o = (p : Path) → IsPath shape p → text ≡ path_text shape p → o ≡ Some p
