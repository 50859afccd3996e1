-- How far the lines behind a head were read.
use Rattle.std.proofs.Common.{◌≡◌, ◌+◌, ◌<◌, ◌^◌, ℕ, List, [], ◌∷◌, ◌++◌, length, All, sym, ap, subst, ◌∙◌, append_assoc, append-nil, length-append, arith}
use Rattle.std.proofs.lemmas.List.Elements.{All-nil, All-cons, All-head, All-tail, All-append}
use Rattle.wave_base.specs.declared.shape.Shape.{Shape}
use Rattle.wave_base.specs.Names.{HasNames}
use Rattle.wave_labels.specs.declared.label.Label.{Label}
use Rattle.wave_text.specs.Splits.{IsSplit}
use Rattle.journal_text.specs.Fits.{IsLabel}
use Rattle.journal_text.specs.JournalTexts.{labels_text}
use Rattle.journal_text.specs.LabelTexts.{line_text}
use Rattle.journal_text.specs.Verdicts.{HasNoLine}
use Rattle.journal_text.specs.inner.Lines.{IsOnlyLine}
use Rattle.journal_text.specs.inner.Tails.{IsParted, IsOnlyParted}
use Rattle.journal_text.proofs.LineLemmas.{front_line}

-- the labels that others have behind these
pub record AreMore (shape : Shape) (before : List Label) (rest : List ℕ) (others : List Label) (left : List ℕ) : Type 0 where
  pub more : List Label
  pub all : others ≡ before ++ more
  pub spelled : rest ≡ labels_text shape (length before + 1) more ++ left
  pub fit : All (IsLabel shape) more

-- these labels were read, and this is left; however the lines are parted, it begins with these labels
pub record AreReadTo (shape : Shape) (tail : List ℕ) (before : List Label) (rest : List ℕ) : Type 0 where
  pub spelled : tail ≡ labels_text shape 1 before ++ rest
  pub fit : All (IsLabel shape) before
  pub only : (others : List Label) (left : List ℕ) → IsParted shape tail others left → AreMore shape before rest others left

module _ (shape : Shape) where
  labels-append : (i : ℕ) (xs : List Label) (l : Label) (rest : List ℕ) → labels_text shape i (xs ++ l ∷ []) ++ rest ≡ labels_text shape i xs ++ (line_text shape (i + length xs) l ++ 10 ∷ rest)
  labels-append i [] l rest =
      let same : i + 0 ≡ i = omega arith in
      append_assoc (line_text shape i l) (10 ∷ []) rest ∙ ap (λ k. line_text shape k l ++ 10 ∷ rest) (sym same)
  labels-append i (x ∷ xs) l rest =
      let next : i + 1 + length xs ≡ i + length (x ∷ xs) = omega arith in
      append_assoc (line_text shape i x) (10 ∷ labels_text shape (i + 1) (xs ++ l ∷ [])) rest
      ∙ ap (λ z. line_text shape i x ++ 10 ∷ z) (labels-append (i + 1) xs l rest)
      ∙ sym (append_assoc (line_text shape i x) (10 ∷ labels_text shape (i + 1) xs) (line_text shape (i + 1 + length xs) l ++ 10 ∷ rest))
      ∙ ap (λ k. (line_text shape i x ++ 10 ∷ labels_text shape (i + 1) xs) ++ (line_text shape k l ++ 10 ∷ rest)) next

  one_more : (before : List Label) (rest after : List ℕ) (l : Label) (others : List Label) (left : List ℕ) → HasNames shape → (line : List ℕ) → length before + 1 < 2 ^ 64 → IsSplit 10 rest line after → IsOnlyLine shape (length before + 1) line l
      → HasNoLine shape (length others + 1) left → (more : List Label) → others ≡ before ++ more → rest ≡ labels_text shape (length before + 1) more ++ left → All (IsLabel shape) more → AreMore shape (before ++ l ∷ []) after others left
  one_more before rest after l others left names line below s only none [] all spelled fit =
      let count : length others + 1 ≡ length before + 1 = ap (λ xs. length xs + 1) (all ∙ append-nil before) in
      let front : left ≡ line_text shape (length before + 1) l ++ 10 ∷ after = sym spelled ∙ s.spelled ∙ ap (λ z. z ++ 10 ∷ after) only.spelled in
      absurd (subst (λ k. HasNoLine shape k left) count none l after only.fits front)
  one_more before rest after l others left names line below s only none (m ∷ more) all spelled fit =
      let head : IsLabel shape m = All-head (IsLabel shape) m more fit in
      let front : rest ≡ line_text shape (length before + 1) m ++ 10 ∷ (labels_text shape (length before + 1 + 1) more ++ left) =
      spelled ∙ append_assoc (line_text shape (length before + 1) m) (10 ∷ labels_text shape (length before + 1 + 1) more) left in
      let parts = front_line shape names (length before + 1) rest line after below s m (labels_text shape (length before + 1 + 1) more ++ left) head front in
      let same : m ≡ l = only.only m head parts.0 in
      let count : length before + 1 + 1 ≡ length (before ++ l ∷ []) + 1 = ap (λ k. k + 1) (sym (length-append before (l ∷ []))) in
      record {
        more = more;
        all = all ∙ ap (λ x. before ++ x ∷ more) same ∙ sym (append_assoc before (l ∷ []) more);
        spelled = parts.1 ∙ ap (λ k. labels_text shape k more ++ left) count;
        fit = All-tail (IsLabel shape) m more fit;
      }

  pub line_read : (tail : List ℕ) (before : List Label) (rest : List ℕ) → HasNames shape → AreReadTo shape tail before rest → (line after : List ℕ) (l : Label) → length before + 1 < 2 ^ 64 → IsSplit 10 rest line after → IsOnlyLine shape (length before + 1) line l
      → AreReadTo shape tail (before ++ l ∷ []) after
  line_read tail before rest names h line after l below s only =
      let number : 1 + length before ≡ length before + 1 = omega arith in
      record {
        spelled = h.spelled ∙ ap (λ z. labels_text shape 1 before ++ z) (s.spelled ∙ ap (λ z. z ++ 10 ∷ after) only.spelled)
            ∙ ap (λ k. labels_text shape 1 before ++ (line_text shape k l ++ 10 ∷ after)) (sym number) ∙ sym (labels-append 1 before l after);
        fit = All-append (IsLabel shape) before (l ∷ []) h.fit (All-cons (IsLabel shape) l [] only.fits (All-nil (IsLabel shape)));
        only = λ others left p.
            let m = h.only others left p in
            one_more before rest after l others left names line below s only p.none m.more m.all m.spelled m.fit;
      }

  at_end : (before : List Label) (rest : List ℕ) (others : List Label) (left : List ℕ) → HasNoLine shape (length before + 1) rest → (more : List Label) → others ≡ before ++ more → rest ≡ labels_text shape (length before + 1) more ++ left → All (IsLabel shape) more
      → (others ≡ before) × (left ≡ rest)
  at_end before rest others left none [] all spelled fit = (all ∙ append-nil before, sym spelled)
  at_end before rest others left none (m ∷ more) all spelled fit =
      absurd (none m (labels_text shape (length before + 1 + 1) more ++ left) (All-head (IsLabel shape) m more fit)
      (spelled ∙ append_assoc (line_text shape (length before + 1) m) (10 ∷ labels_text shape (length before + 1 + 1) more) left))

  -- where no line of a label stands behind them, the labels are these
  pub all_read : (tail : List ℕ) (before : List Label) (rest : List ℕ) → AreReadTo shape tail before rest → HasNoLine shape (length before + 1) rest → IsOnlyParted shape tail before rest
  all_read tail before rest h none = record {
    parted = record { spelled = h.spelled; fit = h.fit; none = none };
    only = λ others left p. (let m = h.only others left p in at_end before rest others left none m.more m.all m.spelled m.fit);
  }

  -- nothing stands behind the last line
  pub nothing_left : (i : ℕ) → HasNoLine shape i []
  nothing_left i l rest h e = absurd (no_front (line_text shape i l) rest e)
    where
      no_front : (xs ys : List ℕ) → [] ≡ xs ++ 10 ∷ ys → ⊥
      no_front [] ys f = cc
      no_front (x ∷ xs) ys f = cc
