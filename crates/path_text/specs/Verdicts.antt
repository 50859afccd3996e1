-- What a text is to a reader of paths.
use Rattle.std.specs.Prelude.{List, ℕ, Result, Ok, Err}
use Rattle.wave_base.specs.declared.path.Path.{Path}
use Rattle.wave_base.specs.declared.shape.Shape.{Shape}
use Rattle.wave_text.specs.Verdicts.{IsOnly}
use Rattle.path_text.specs.declared.parse.PathError.{PathError}
use Rattle.path_text.specs.declared.parse.PathError.TheVariants.{Syntax, UnknownClass, OutOfMemory}
use Rattle.path_text.specs.PathTexts.{IsPathText, IsUnknownPath}
use Rattle.path_text.specs.Steps.{HasNoSteps}

-- a path of the shape; no path's form; or that form, and no such path
abbrev pub IsVerdict : Shape → List ℕ → Result Path PathError → Type 0
IsVerdict shape text (Ok p) = IsPathText shape text p
IsVerdict shape text (Err Syntax) = HasNoSteps text
IsVerdict shape text (Err UnknownClass) = IsUnknownPath shape text
IsVerdict shape text (Err (OutOfMemory _)) = ⊥

-- it says so, and nothing else is to be said; want of memory says nothing
abbrev pub IsOnlyVerdict : Shape → List ℕ → Result Path PathError → Type 0
IsOnlyVerdict shape text (Err (OutOfMemory _)) = Unit {0}
IsOnlyVerdict shape text r = IsOnly (IsVerdict shape text) r
