-- The lines of a checkpoint, as its reader goes through them.
use Rattle.std.specs.Prelude.{◌≡◌, ◌<◌, ◌^◌, ◌⊎◌, ◌+◌, ℕ, true, List, [], ◌++◌, map, All, Option, Some, Err, codes}
use Rattle.wave_base.specs.Memory.{the_refusal}
use Rattle.wave_base.specs.declared.finished.Place.{Place}
use Rattle.wave_base.specs.declared.path.Path.{Path}
use Rattle.wave_base.specs.declared.shape.Shape.{Shape}
use Rattle.wave_text.specs.Splits.{HasNone, IsSplit}
use Rattle.path_text.specs.PathTexts.{path_text}
use Rattle.path_text.specs.PlaceTexts.{place_text}
use Rattle.snapshot_text.specs.declared.error.ShotError.{ShotError}
use Rattle.snapshot_text.specs.declared.error.ShotError.TheVariants as shot
use Rattle.snapshot_text.specs.Verdicts.{IsOnlyVerdict as IsOnlySnapshot}
use Rattle.checkpoint_store.specs.declared.error.CheckError.{CheckError}
use Rattle.checkpoint_store.specs.declared.error.CheckError.TheVariants as error
use Rattle.checkpoint_store.specs.declared.error.Fault.{Fault}
use Rattle.checkpoint_store.specs.declared.error.Fault.TheVariants as fault
use Rattle.checkpoint_store.specs.declared.form.Form.{Form}
use Rattle.checkpoint_store.specs.declared.form.Form.TheVariants as form
use Rattle.checkpoint_store.specs.declared.numbers.Numbers.{Numbers}
use Rattle.checkpoint_store.specs.CheckpointTexts.{numbers_text, lines_text}
use Rattle.checkpoint_store.specs.Dues.{Due, First, Counts, Classes, ClassOf, PlaceOf, Last, IsDue}
use Rattle.checkpoint_store.specs.Forms.{cut_at, is_numbers, is_count, is_class_line, IsPlaceLine}
use Rattle.checkpoint_store.specs.Points.{AreInRange}
use Rattle.checkpoint_store.specs.Refusals.{error_at}
use Rattle.checkpoint_store.specs.Verdicts.{Begins, BeginsWrong, StopsAt, IsWrongTail}

-- ---- numbers

abbrev pub AreNumbersOf : List ℕ → Option Numbers → Type 0
AreNumbersOf line o = (n : Numbers) → AreInRange n → line ≡ numbers_text n → o ≡ Some n

-- the line is that of these numbers
pub record IsNumbersLine (line : List ℕ) (n : Numbers) : Type 0 where
  pub spelled : line ≡ numbers_text n
  pub range : AreInRange n

-- the text begins with the line of these numbers
pub record BeginsWithNumbers (text : List ℕ) (n : Numbers) (rest : List ℕ) : Type 0 where
  pub line : List ℕ
  pub split : IsSplit 10 text line rest
  pub numbers : IsNumbersLine line n

abbrev pub HasNoNumbers : List ℕ → Type 0
HasNoNumbers line = (n : Numbers) → AreInRange n → line ≡ numbers_text n → ⊥

-- ---- places

-- where the line is that of a place, this host is found
abbrev pub IsHostOf : List ℕ → Option ℕ → Type 0
IsHostOf line o = (shape : Shape) (x : Place) → HasNone 32 (path_text shape x.path) → x.host.0 < 2 ^ 8 → line ≡ place_text shape x → o ≡ Some x.host.0

-- the line is that of this place, of the context at a path
pub record IsPlaceLineOf (shape : Shape) (hosts : ℕ) (path : Path) (line : List ℕ) (x : Place) : Type 0 where
  pub spelled : line ≡ place_text shape x
  pub path_is : x.path ≡ path
  pub below : x.host.0 < hosts

abbrev pub HasNoPlace : Shape → ℕ → Path → List ℕ → Type 0
HasNoPlace shape hosts path line = IsDue shape hosts (PlaceOf path) line → ⊥

-- ---- what a line looks like

-- whether it has the form of such a line, where more than one line has it
abbrev pub LooksLike : Form → List ℕ → Type 0
LooksLike form.Word line = ⊥
LooksLike form.Numbers line = is_numbers (cut_at 32 line) ≡ true
LooksLike form.Count line = is_count (cut_at 32 line) ≡ true
LooksLike form.Class line = is_class_line (cut_at 32 line) ≡ true
LooksLike form.Place line = IsPlaceLine (cut_at 32 line)

abbrev pub form_of : Due → Form
form_of First = form.Word
form_of Counts = form.Numbers
form_of Classes = form.Count
form_of (ClassOf c) = form.Class
form_of (PlaceOf p) = form.Place
form_of Last = form.Word

-- what is wrong with a line that looks so and tells something else
abbrev pub other_of : Form → Fault
other_of form.Word = fault.Syntax
other_of form.Numbers = fault.Tree
other_of form.Count = fault.Service
other_of form.Class = fault.Service
other_of form.Place = fault.Tree

-- what is wrong with a line that is not as it is to be, by what it looks like
abbrev pub IsFaultBy : Form → List ℕ → Fault → Type 0
IsFaultBy form line f = ((LooksLike form line → ⊥) × (f ≡ fault.Syntax)) ⊎ (LooksLike form line × (f ≡ other_of form))

abbrev pub BeginsWrongBy : Form → List ℕ → Fault → Type 0
BeginsWrongBy form text f = (HasNone 10 text × (f ≡ fault.Syntax)) ⊎ ((line : List ℕ) × (rest : List ℕ) × IsSplit 10 text line rest × IsFaultBy form line f)

-- ---- refusals

-- the line at the front has this fault; want of memory says nothing
abbrev pub IsRefusal : Shape → ℕ → Due → List ℕ → ℕ → CheckError → Type 0
IsRefusal shape hosts due text n e = (e ≡ error.OutOfMemory the_refusal) ⊎ ((f : Fault) × BeginsWrong shape hosts due text f × (e ≡ error_at f n))

-- the text does not begin with such a line
abbrev pub BeginsOther : Shape → ℕ → Due → List ℕ → Type 0
BeginsOther shape hosts due text = (rest : List ℕ) → Begins shape hosts due text rest → ⊥

-- whatever line of the form was to be here, it is refused for this
abbrev pub IsRefusalBy : Form → List ℕ → ℕ → CheckError → Type 0
IsRefusalBy form text n e = (shape : Shape) (hosts : ℕ) (due : Due) → form_of due ≡ form → BeginsOther shape hosts due text → IsRefusal shape hosts due text n e

-- the same where the line was to be this one
abbrev pub IsRefusalFor : Form → List ℕ → List ℕ → ℕ → CheckError → Type 0
IsRefusalFor form wanted text n e = (shape : Shape) (hosts : ℕ) (due : Due) → form_of due ≡ form → ((line : List ℕ) → IsDue shape hosts due line → line ≡ wanted) → IsRefusal shape hosts due text n e

-- one of these lines is refused, and `before` others stand before them
abbrev pub StopsWith : Shape → ℕ → List Due → List ℕ → ℕ → CheckError → Type 0
StopsWith shape hosts dues text before e = (e ≡ error.OutOfMemory the_refusal) ⊎ ((f : Fault) × (n : ℕ) × StopsAt shape hosts dues text f n × (e ≡ error_at f (before + n)))

-- the lines of these places begin the text
pub record HasPlaces (shape : Shape) (hosts : ℕ) (paths : List Path) (places : List Place) (text rest : List ℕ) : Type 0 where
  pub spelled : text ≡ lines_text (map (place_text shape) places) ++ rest
  pub paths_are : map (λ x. x.path) places ≡ paths
  pub below : All (λ (x : Place). x.host.0 < hosts) places

abbrev pub IsTailRefusal : Shape → ℕ → List Path → List ℕ → ℕ → CheckError → Type 0
IsTailRefusal shape hosts paths text before e = (e ≡ error.OutOfMemory the_refusal) ⊎ ((f : Fault) × (n : ℕ) × IsWrongTail shape hosts paths text f n × (e ≡ error_at f (before + n)))

-- ---- the snapshot within the text

-- the line that an error of a snapshot tells
abbrev pub line_in : ShotError → ℕ
line_in (shot.Syntax n) = n
line_in (shot.Class n) = n
line_in (shot.Field n) = n
line_in (shot.Order n) = n
line_in (shot.OutOfMemory _) = 0

-- what such an error is here
abbrev pub refusal_behind : ShotError → ℕ → CheckError
refusal_behind (shot.Syntax n) before = error.Syntax (before + n)
refusal_behind (shot.Class n) before = error.Tree (before + n)
refusal_behind (shot.Field n) before = error.Tree (before + n)
refusal_behind (shot.Order n) before = error.Tree (before + n)
refusal_behind (shot.OutOfMemory w) before = error.OutOfMemory w

-- the snapshot is refused, and `before` lines stand before it
abbrev pub IsShotRefusal : Shape → List ℕ → ℕ → CheckError → Type 0
IsShotRefusal shape part before e = (s : ShotError) × IsOnlySnapshot shape part (Err s) × (e ≡ refusal_behind s before)

-- ---- the last line

-- it is not there, or something stands behind it
abbrev pub IsLastRefusal : List ℕ → ℕ → CheckError → Type 0
IsLastRefusal text before e =
    IsRefusalFor form.Word (codes "end") text (before + 1) e ⊎ ((rest : List ℕ) × IsSplit 10 text (codes "end") rest × (rest ≡ [] → ⊥) × (e ≡ error.Syntax (before + 2)))
