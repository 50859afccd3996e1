-- A line without its line feed, to the reader of a journal.
use Rattle.std.specs.Prelude.{◌≡◌, ℕ, List}
use Rattle.wave_base.specs.declared.shape.Shape.{Shape}
use Rattle.wave_labels.specs.declared.label.Label.{Label}
use Rattle.journal_text.specs.Fits.{IsLabel}
use Rattle.journal_text.specs.LabelTexts.{line_text}

-- it is the line of this label, and of no other
pub record IsOnlyLine (shape : Shape) (i : ℕ) (line : List ℕ) (label : Label) : Type 0 where
  pub spelled : line ≡ line_text shape i label
  pub fits : IsLabel shape label
  pub only : (other : Label) → IsLabel shape other → line ≡ line_text shape i other → other ≡ label

abbrev pub IsNoLine : Shape → ℕ → List ℕ → Type 0
IsNoLine shape i line = (label : Label) → IsLabel shape label → line ≡ line_text shape i label → ⊥

-- ---- the front of a text
