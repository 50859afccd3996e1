-- What the lines of a checkpoint are to be, and what may be wrong with one.
use Rattle.std.specs.Prelude.{◌≡◌, ◌<◌, ◌⊎◌, ℕ, true, List, [], ◌∷◌, ◌++◌, map, codes}
use Rattle.wave_base.specs.declared.path.Path.{Path}
use Rattle.wave_base.specs.declared.shape.ClassInfo.{ClassInfo}
use Rattle.wave_base.specs.declared.shape.Shape.{Shape}
use Rattle.path_text.specs.PlaceTexts.{place_text}
use Rattle.checkpoint_store.specs.declared.error.Fault.{Fault}
use Rattle.checkpoint_store.specs.declared.error.Fault.TheVariants as fault
use Rattle.checkpoint_store.specs.declared.numbers.Numbers.{Numbers}
use Rattle.checkpoint_store.specs.CheckpointTexts.{first_line, numbers_text, count_text, class_text}
use Rattle.checkpoint_store.specs.Forms.{cut_at, is_numbers, is_count, is_class_line, IsPlaceLine}
use Rattle.checkpoint_store.specs.Points.{AreInRange}

-- the lines before and behind the snapshot, each by what it tells
pub data Due : Type 0 where
  First : Due
  Counts : Due
  Classes : Due
  ClassOf : ClassInfo → Due
  PlaceOf : Path → Due
  Last : Due

abbrev pub HasForm : Due → List ℕ → Type 0
HasForm First line = line ≡ first_line
HasForm Counts line = is_numbers (cut_at 32 line) ≡ true
HasForm Classes line = is_count (cut_at 32 line) ≡ true
HasForm (ClassOf c) line = is_class_line (cut_at 32 line) ≡ true
HasForm (PlaceOf p) line = IsPlaceLine (cut_at 32 line)
HasForm Last line = line ≡ codes "end"

-- the line is as it is to be, of a service of this shape and with so many hosts
abbrev pub IsDue : Shape → ℕ → Due → List ℕ → Type 0
IsDue shape hosts First line = line ≡ first_line
IsDue shape hosts Counts line = (n : Numbers) × AreInRange n × (line ≡ numbers_text n)
IsDue shape hosts Classes line = line ≡ count_text shape
IsDue shape hosts (ClassOf c) line = line ≡ class_text shape c
IsDue shape hosts (PlaceOf p) line = (h : ℕ) × (h < hosts) × (line ≡ place_text shape (record { path = p; host = record { 0 = h } }))
IsDue shape hosts Last line = line ≡ codes "end"

-- what is wrong with a line that has the form and tells something else
abbrev pub other : Due → Fault
other First = fault.Syntax
other Counts = fault.Tree
other Classes = fault.Service
other (ClassOf c) = fault.Service
other (PlaceOf p) = fault.Tree
other Last = fault.Syntax

-- what is wrong with a line: it has not the form; or it has, and is not as it is to be
abbrev pub IsFault : Shape → ℕ → Due → List ℕ → Fault → Type 0
IsFault shape hosts due line f = ((HasForm due line → ⊥) × (f ≡ fault.Syntax)) ⊎ (HasForm due line × (IsDue shape hosts due line → ⊥) × (f ≡ other due))

-- the lines before the snapshot
abbrev pub front_dues : Shape → List Due
front_dues shape = First ∷ Counts ∷ Classes ∷ map (λ c. ClassOf c) shape.classes

-- the lines behind it, for contexts at these paths
abbrev pub tail_dues : List Path → List Due
tail_dues paths = map (λ p. PlaceOf p) paths ++ Last ∷ []
