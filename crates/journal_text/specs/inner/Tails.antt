-- The lines behind a journal's head.
use Rattle.std.specs.Prelude.{◌≡◌, ℕ, ◌+◌, List, [], ◌++◌, length, All, Result, Ok, Err}
use Rattle.wave_base.specs.declared.shape.Shape.{Shape}
use Rattle.wave_labels.specs.declared.label.Label.{Label}
use Rattle.journal_text.specs.declared.error.JournalError.{JournalError}
use Rattle.journal_text.specs.declared.error.JournalError.TheVariants.{Syntax, OutOfMemory}
use Rattle.journal_text.specs.Fits.{IsLabel}
use Rattle.journal_text.specs.JournalTexts.{labels_text}
use Rattle.journal_text.specs.Verdicts.{HasNoLine}

-- the lines of these labels begin it, and no line of a label stands behind them
pub record IsParted (shape : Shape) (tail : List ℕ) (before : List Label) (rest : List ℕ) : Type 0 where
  pub spelled : tail ≡ labels_text shape 1 before ++ rest
  pub fit : All (IsLabel shape) before
  pub none : HasNoLine shape (length before + 1) rest

-- and it can be parted so in no other way
pub record IsOnlyParted (shape : Shape) (tail : List ℕ) (before : List Label) (rest : List ℕ) : Type 0 where
  pub parted : IsParted shape tail before rest
  pub only : (others : List Label) (left : List ℕ) → IsParted shape tail others left → (others ≡ before) × (left ≡ rest)

-- all lines are those of labels, or one is none; want of memory says nothing
abbrev pub AreRead : Shape → List ℕ → Result (List Label) JournalError → Type 0
AreRead shape tail (Ok labels) = IsOnlyParted shape tail labels []
AreRead shape tail (Err (Syntax n)) = (before : List Label) × (rest : List ℕ) × IsOnlyParted shape tail before rest × (rest ≡ [] → ⊥) × (n ≡ length before + 2)
AreRead shape tail (Err (OutOfMemory _)) = Unit {0}
