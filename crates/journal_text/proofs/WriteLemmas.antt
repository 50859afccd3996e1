-- Lines as they are written, one after the other.
use Rattle.std.proofs.Common.{◌≡◌, ◌+◌, ◌<◌, ◌≤◌, ℕ, suc, List, [], ◌∷◌, ◌++◌, length, drop, take, get_or, All, sym, ap, subst, ◌∙◌, append_assoc, append-nil, drop-cons, arith}
use Rattle.std.proofs.lemmas.List.{drop_all, take_all}
use Rattle.wave_base.specs.declared.shape.Shape.{Shape}
use Rattle.wave_labels.specs.declared.label.Label.{Label}
use Rattle.journal_text.specs.Fits.{HasPath, IsLabel}
use Rattle.journal_text.specs.JournalTexts.{IsJournalText, journal_text, labels_text}
use Rattle.journal_text.specs.LabelTexts.{line_text}

module _ (shape : Shape) where
  -- one line more is written
  pub line_put : (out out' out'' whole : List ℕ) (labels : List Label) (i : ℕ) (l : Label) → i < length labels → l ≡ get_or labels i l → out' ≡ out ++ line_text shape (i + 1) l → out'' ≡ out' ++ 10 ∷ []
      → out ++ labels_text shape (i + 1) (drop i labels) ≡ whole → out'' ++ labels_text shape (i + 1 + 1) (drop (i + 1) labels) ≡ whole
  line_put out out' out'' whole labels i l below at e f h =
      let next : i + 1 ≡ suc i = omega arith in
      let rest : List ℕ = labels_text shape (i + 1 + 1) (drop (i + 1) labels) in
      let front : drop i labels ≡ l ∷ drop (i + 1) labels = drop-cons labels i l below ∙ (λ j. sym at j ∷ drop (sym next j) labels) in
      ap (λ z. z ++ rest) (f ∙ ap (λ z. z ++ 10 ∷ []) e)
      ∙ append_assoc (out ++ line_text shape (i + 1) l) (10 ∷ []) rest ∙ append_assoc out (line_text shape (i + 1) l) (10 ∷ rest)
      ∙ ap (λ ls. out ++ labels_text shape (i + 1) ls) (sym front) ∙ h

  pub all_put : (out text : List ℕ) (labels journal : List Label) (i : ℕ) → length labels ≤ i → labels ≡ journal → text ≡ out → out ++ labels_text shape (i + 1) (drop i labels) ≡ journal_text shape labels → All (IsLabel shape) (take i labels)
      → IsJournalText shape text journal
  all_put out text labels journal i end same e h fit = record {
    spelled = e ∙ sym (append-nil out) ∙ ap (λ ls. out ++ labels_text shape (i + 1) ls) (sym (drop_all i labels end)) ∙ h ∙ ap (journal_text shape) same;
    fit = subst (All (IsLabel shape)) (take_all i labels end ∙ same) fit;
  }

  pub label_fits : (labels journal : List Label) (i : ℕ) (l : Label) → i < length labels → labels ≡ journal → l ≡ get_or labels i l → All (λ (x : Label). HasPath shape x.act) journal → HasPath shape l.act
  label_fits labels journal i l below same at all =
      subst (λ (x : Label). HasPath shape x.act) (ap (λ ls. get_or ls i l) (sym same) ∙ sym at) (all i l (subst (λ (ls : List Label). i < length ls) same below))
