-- What a text is to a reader of snapshots.
use Rattle.std.specs.Prelude.{◌≡◌, ℕ, ◌+◌, ◌⊎◌, true, false, List, [], ◌∷◌, ◌++◌, length, codes, All, Result, Ok, Err, Some, None}
use Rattle.wave_base.specs.declared.path.Path.{Path}
use Rattle.wave_base.specs.declared.shape.Shape.{Shape}
use Rattle.wave_base.specs.declared.shot.Shot.{Shot}
use Rattle.path_text.specs.declared.written.Written.{Written}
use Rattle.wave_text.specs.Splits.{HasNone}
use Rattle.path_text.specs.Paths.{path_of}
use Rattle.path_text.specs.ShotTexts.{shot_text}
use Rattle.wave_text.specs.Counted.{counted_lines, HasNoHead}
use Rattle.wave_text.specs.Verdicts.{IsOnly}
use Rattle.snapshot_text.specs.declared.error.Fault.{Fault}
use Rattle.snapshot_text.specs.declared.error.Fault.TheVariants as fault
use Rattle.snapshot_text.specs.declared.error.ShotError.{ShotError}
use Rattle.snapshot_text.specs.declared.error.ShotError.TheVariants as error
use Rattle.snapshot_text.specs.Forms.{HasForm, HasNoForm}
use Rattle.snapshot_text.specs.Shots.{IsShot, comes_next, paths_of, are_in_order}
use Rattle.snapshot_text.specs.SnapshotTexts.{IsSnapshotText, head_text, shots_text}

-- ---- a line, behind those of the shots before it

-- the line is that of a shot
pub record IsLineOf (shape : Shape) (line : List ℕ) (shot : Shot) : Type 0 where
  pub spelled : line ≡ shot_text shape shot
  pub fits : IsShot shape shot

abbrev pub IsLineOfNone : Shape → List ℕ → Type 0
IsLineOfNone shape line = (shot : Shot) → IsLineOf shape line shot → ⊥

-- it has the form, and its path is one of the shape, but its fields are not those of the class
pub record HasOtherFields (shape : Shape) (line : List ℕ) : Type 0 where
  pub steps : List Written
  pub path : Path
  pub form : HasForm line steps
  pub path_is : path_of shape steps ≡ Some path
  pub none : IsLineOfNone shape line

-- it has the form, and its path is none of the shape
pub record HasUnknownPath (shape : Shape) (line : List ℕ) : Type 0 where
  pub steps : List Written
  pub form : HasForm line steps
  pub path_is : path_of shape steps ≡ None

-- it is that of a shot, which does not come next
pub record IsOutOfOrder (shape : Shape) (before : List Shot) (line : List ℕ) : Type 0 where
  pub shot : Shot
  pub line_of : IsLineOf shape line shot
  pub order : comes_next (paths_of before) shot.path ≡ false

-- what is wrong with a line
abbrev pub IsFault : Shape → List Shot → List ℕ → Fault → Type 0
IsFault shape before line fault.Syntax = HasNoForm line
IsFault shape before line fault.Class = HasUnknownPath shape line
IsFault shape before line fault.Field = HasOtherFields shape line
IsFault shape before line fault.Order = IsOutOfOrder shape before line

-- ---- the text

-- a head that tells that no lines follow, and none do
abbrev pub IsEmpty : List ℕ → Type 0
IsEmpty text = text ≡ head_text 0 ++ 10 ∷ []

-- the rest begins with a line that has this fault; what stands behind the last line feed has no form
abbrev pub BeginsWithFault : Shape → List Shot → List ℕ → Fault → Type 0
BeginsWithFault shape before rest f =
    ((line : List ℕ) × (after : List ℕ) × (rest ≡ line ++ 10 ∷ after) × HasNone 10 line × IsFault shape before line f) ⊎ (HasNone 10 rest × (rest ≡ [] → ⊥) × (f ≡ fault.Syntax))

-- behind the lines of these shots stands one that has a fault
pub record StopsAfter (shape : Shape) (text : List ℕ) (before : List Shot) (f : Fault) : Type 0 where
  pub rest : List ℕ
  pub spelled : text ≡ counted_lines (codes "snapshot ") (shots_text shape before ++ rest)
  pub each : All (IsShot shape) before
  pub order : are_in_order [] (paths_of before) ≡ true
  pub wrong : BeginsWithFault shape before rest f

-- line n is the first that is not as it has to be, and this is wrong with it
abbrev pub IsRefused : Shape → List ℕ → Fault → ℕ → Type 0
IsRefused shape text f n =
    (HasNoHead (codes "snapshot ") text × (f ≡ fault.Syntax) × (n ≡ 1)) ⊎ ((IsEmpty text × (f ≡ fault.Order) × (n ≡ 1)) ⊎ ((before : List Shot) × StopsAfter shape text before f × (n ≡ length before + 2)))

abbrev pub IsVerdict : Shape → List ℕ → Result (List Shot) ShotError → Type 0
IsVerdict shape text (Ok shots) = IsSnapshotText shape text shots
IsVerdict shape text (Err (error.Syntax n)) = IsRefused shape text fault.Syntax n
IsVerdict shape text (Err (error.Class n)) = IsRefused shape text fault.Class n
IsVerdict shape text (Err (error.Field n)) = IsRefused shape text fault.Field n
IsVerdict shape text (Err (error.Order n)) = IsRefused shape text fault.Order n
IsVerdict shape text (Err (error.OutOfMemory _)) = ⊥

-- it says so, and nothing else is to be said; want of memory says nothing
abbrev pub IsOnlyVerdict : Shape → List ℕ → Result (List Shot) ShotError → Type 0
IsOnlyVerdict shape text (Err (error.OutOfMemory _)) = Unit {0}
IsOnlyVerdict shape text r = IsOnly (IsVerdict shape text) r
