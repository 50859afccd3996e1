-- The head of a journal, and the number of lines behind it.
use Rattle.std.proofs.Common.{◌≡◌, ◌+◌, ◌<◌, ◌≤◌, ◌^◌, ℕ, List, [], ◌∷◌, length, All, refl, length-append, arith}
use Rattle.std.proofs.lemmas.List.Elements.{All-head, All-tail}
use Rattle.wave_base.specs.declared.shape.Shape.{Shape}
use Rattle.wave_base.specs.Names.{HasNames}
use Rattle.wave_labels.specs.declared.label.Label.{Label}
use Rattle.journal_text.specs.Fits.{IsLabel}
use Rattle.wave_text.specs.Counted.{line_count}
use Rattle.wave_text.proofs.CountedLemmas.{line_more}
use Rattle.journal_text.specs.JournalTexts.{labels_text}
use Rattle.journal_text.specs.LabelTexts.{line_text}
use Rattle.journal_text.proofs.LineLemmas.{line_has_none}

module _ (shape : Shape) (names : HasNames shape) where
  pub labels_many : (i : ℕ) (ls : List Label) → length ls ≤ length (labels_text shape i ls)
  labels_many i [] = omega arith
  labels_many i (l ∷ ls) = omega (arith, labels_many (i + 1) ls, length-append (line_text shape i l) (10 ∷ labels_text shape (i + 1) ls))

  pub lines_are : (i : ℕ) (ls : List Label) → i + length ls < 2 ^ 64 → All (IsLabel shape) ls → line_count (labels_text shape i ls) ≡ length ls
  lines_are i [] short h = refl
  lines_are i (l ∷ ls) short h =
      let below : i < 2 ^ 64 = omega arith in
      let rest = lines_are (i + 1) ls (omega arith) (All-tail (IsLabel shape) l ls h) in
      let more = line_more (line_text shape i l) (labels_text shape (i + 1) ls) (line_has_none shape names i l below (All-head (IsLabel shape) l ls h)) in
      omega (arith, rest, more)
