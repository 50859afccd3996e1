-- What a text is to a reader of journals.
use Rattle.std.specs.Prelude.{◌≡◌, ℕ, ◌+◌, ◌⊎◌, List, [], ◌∷◌, ◌++◌, length, codes, All, Result, Ok, Err}
use Rattle.wave_base.specs.declared.shape.Shape.{Shape}
use Rattle.wave_labels.specs.declared.label.Label.{Label}
use Rattle.journal_text.specs.declared.error.JournalError.{JournalError}
use Rattle.journal_text.specs.declared.error.JournalError.TheVariants.{Syntax, OutOfMemory}
use Rattle.journal_text.specs.Fits.{IsLabel}
use Rattle.wave_text.specs.Counted.{counted_lines, HasNoHead}
use Rattle.wave_text.specs.Verdicts.{IsOnly}
use Rattle.journal_text.specs.JournalTexts.{IsJournalText, labels_text}
use Rattle.journal_text.specs.LabelTexts.{line_text}

-- no line of a label with this number begins the text
abbrev pub HasNoLine : Shape → ℕ → List ℕ → Type 0
HasNoLine shape i text = (l : Label) (rest : List ℕ) → IsLabel shape l → text ≡ line_text shape i l ++ 10 ∷ rest → ⊥

-- behind the head and the lines of these labels stands a line that is none
pub record StopsAfter (shape : Shape) (text : List ℕ) (before : List Label) (rest : List ℕ) : Type 0 where
  pub spelled : text ≡ counted_lines (codes "journal ") (labels_text shape 1 before ++ rest)
  pub fit : All (IsLabel shape) before
  pub some : rest ≡ [] → ⊥
  pub none : HasNoLine shape (length before + 1) rest

-- line n is the first one that is not as it has to be
abbrev pub IsRefused : Shape → List ℕ → ℕ → Type 0
IsRefused shape text n = (HasNoHead (codes "journal ") text × (n ≡ 1)) ⊎ ((before : List Label) × (rest : List ℕ) × StopsAfter shape text before rest × (n ≡ length before + 2))

-- the labels of the text, or its first line that is refused
abbrev pub IsVerdict : Shape → List ℕ → Result (List Label) JournalError → Type 0
IsVerdict shape text (Ok labels) = IsJournalText shape text labels
IsVerdict shape text (Err (Syntax n)) = IsRefused shape text n
IsVerdict shape text (Err (OutOfMemory _)) = ⊥

-- it says so, and nothing else is to be said; want of memory says nothing
abbrev pub IsOnlyVerdict : Shape → List ℕ → Result (List Label) JournalError → Type 0
IsOnlyVerdict shape text (Err (OutOfMemory _)) = Unit {0}
IsOnlyVerdict shape text r = IsOnly (IsVerdict shape text) r
