-- The one text of a journal: a head that tells how many lines follow, and a line for each label.
use Rattle.std.specs.Prelude.{◌≡◌, ℕ, ◌+◌, List, [], ◌∷◌, ◌++◌, length, codes, All}
use Rattle.std.specs.Fmt.{decimal}
use Rattle.wave_base.specs.declared.shape.Shape.{Shape}
use Rattle.wave_labels.specs.declared.label.Label.{Label}
use Rattle.journal_text.specs.Fits.{IsLabel}
use Rattle.journal_text.specs.LabelTexts.{line_text}

-- journal n
abbrev pub head_text : ℕ → List ℕ
head_text n = codes "journal " ++ decimal n

-- a line for each label, the first of them with this number; each ends with a line feed
abbrev pub labels_text : Shape → ℕ → List Label → List ℕ
labels_text shape i [] = []
labels_text shape i (l ∷ ls) = line_text shape i l ++ 10 ∷ labels_text shape (i + 1) ls

abbrev pub journal_text : Shape → List Label → List ℕ
journal_text shape ls = head_text (length ls) ++ 10 ∷ labels_text shape 1 ls

-- the text is that of these labels
pub record IsJournalText (shape : Shape) (text : List ℕ) (labels : List Label) : Type 0 where
  pub spelled : text ≡ journal_text shape labels
  pub fit : All (IsLabel shape) labels

-- ---- lines of any text
