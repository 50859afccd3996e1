-- The text of a path.
use Rattle.std.specs.Prelude.{◌≡◌, ℕ, List, map, Some, None}
use Rattle.std.specs.Fmt.{signed_decimal}
use Rattle.wave_base.specs.Shapes.{class_name}
use Rattle.wave_base.specs.declared.path.Path.{Path}
use Rattle.wave_base.specs.declared.path.Step.{Step}
use Rattle.wave_base.specs.declared.shape.Shape.{Shape}
use Rattle.path_text.specs.declared.written.Written.{Written}
use Rattle.path_text.specs.Steps.{HasSteps, written_text}
use Rattle.path_text.specs.Paths.{path_of}

abbrev pub written_step : Shape → Step → Written
written_step shape s = record { name = class_name shape s.class.0; key = signed_decimal s.key }

-- the one text of a path
abbrev pub path_text : Shape → Path → List ℕ
path_text shape p = written_text (map (written_step shape) p)

-- the text is one of the path: it may have zeros in front of a key's digits
pub record IsPathText (shape : Shape) (text : List ℕ) (p : Path) : Type 0 where
  pub steps : List Written
  pub spelled : HasSteps text steps
  pub path : path_of shape steps ≡ Some p

-- the text has a path's form, but there is no such path
pub record IsUnknownPath (shape : Shape) (text : List ℕ) : Type 0 where
  pub steps : List Written
  pub spelled : HasSteps text steps
  pub path : path_of shape steps ≡ None
