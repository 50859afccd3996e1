-- What is said of a whole text, from what is known of its head and of the lines behind it.
use Rattle.std.proofs.Common.{◌≡◌, ◌+◌, ◌<◌, ◌≤◌, ◌^◌, ℕ, List, [], ◌∷◌, ◌++◌, length, Result, Ok, Err, inl, inr, refl, sym, ap, ◌∙◌, append-nil, length-append, arith}
use Rattle.std.specs.Prelude.{codes}
use Rattle.wave_base.specs.declared.limits.TheConstants.{PLACED_BYTES}
use Rattle.wave_base.specs.declared.shape.Shape.{Shape}
use Rattle.wave_base.specs.Names.{HasNames}
use Rattle.wave_labels.specs.declared.label.Label.{Label}
use Rattle.journal_text.specs.declared.error.JournalError.{JournalError}
use Rattle.journal_text.specs.declared.error.JournalError.TheVariants.{Syntax, OutOfMemory}
use Rattle.wave_text.specs.Counted.{HasNoHead, IsBehindHead, line_count}
use Rattle.journal_text.specs.JournalTexts.{IsJournalText, head_text, labels_text}
use Rattle.journal_text.specs.Verdicts.{StopsAfter, IsVerdict, IsOnlyVerdict}
use Rattle.journal_text.specs.inner.Tails.{IsParted, IsOnlyParted, AreRead}
use Rattle.journal_text.proofs.HeadLemmas.{lines_are, labels_many}
use Rattle.journal_text.proofs.TailLemmas.{nothing_left}

module _ (shape : Shape) (names : HasNames shape) (text : List ℕ) (short : length text ≤ PLACED_BYTES) where
  -- ---- other verdicts on a text with a head

  few_labels : (labels : List Label) (front : List ℕ) → text ≡ front ++ 10 ∷ labels_text shape 1 labels → 1 + length labels < 2 ^ 64
  few_labels labels front e =
      let whole = ap length e in
      omega (arith, whole, length-append front (10 ∷ labels_text shape 1 labels), labels_many shape names 1 labels)

  -- a journal's labels part what stands behind the head
  journal_parts : (tail : List ℕ) → IsBehindHead (codes "journal ") text tail → (labels : List Label) → IsJournalText shape text labels → IsParted shape tail labels []
  journal_parts tail b labels j =
      let count = lines_are shape names 1 labels (few_labels labels (head_text (length labels)) j.spelled) j.fit in
      let same = b.only (labels_text shape 1 labels) (j.spelled ∙ ap (λ n. head_text n ++ 10 ∷ labels_text shape 1 labels) (sym count)) in
      record { spelled = sym same ∙ sym (append-nil (labels_text shape 1 labels)); fit = j.fit; none = nothing_left shape (length labels + 1) }

  stop_parts : (tail : List ℕ) → IsBehindHead (codes "journal ") text tail → (before : List Label) (rest : List ℕ) → StopsAfter shape text before rest → IsParted shape tail before rest
  stop_parts tail b before rest s = record { spelled = sym (b.only (labels_text shape 1 before ++ rest) s.spelled); fit = s.fit; none = s.none }

  -- ---- all lines are those of labels

  whole_text : (tail : List ℕ) → IsBehindHead (codes "journal ") text tail → (labels : List Label) → IsParted shape tail labels [] → IsJournalText shape text labels
  whole_text tail b labels p =
      let lines : tail ≡ labels_text shape 1 labels = p.spelled ∙ append-nil (labels_text shape 1 labels) in
      let spelled : text ≡ head_text (line_count (labels_text shape 1 labels)) ++ 10 ∷ labels_text shape 1 labels = b.spelled ∙ ap (λ t. head_text (line_count t) ++ 10 ∷ t) lines in
      let count = lines_are shape names 1 labels (few_labels labels (head_text (line_count (labels_text shape 1 labels))) spelled) p.fit in
      record { spelled = spelled ∙ ap (λ n. head_text n ++ 10 ∷ labels_text shape 1 labels) count; fit = p.fit }

  pub all_labels : (tail : List ℕ) → IsBehindHead (codes "journal ") text tail → (labels : List Label) → IsOnlyParted shape tail labels [] → IsOnlyVerdict shape text (Ok labels)
  all_labels tail b labels p = (whole_text tail b labels p.parted, only)
    where
      only : (other : Result (List Label) JournalError) → IsVerdict shape text other → other ≡ Ok labels
      only (Ok others) v = ap (λ ls. Ok ls) (p.only others [] (journal_parts tail b others v)).0
      only (Err (Syntax n)) (inl h) = absurd (h.0 tail b.spelled)
      only (Err (Syntax n)) (inr h) = absurd (h.2.some (p.only h.0 h.1 (stop_parts tail b h.0 h.1 h.2)).1)
      only (Err (OutOfMemory _)) v = absurd v

  -- ---- a line behind the head is none

  pub some_labels : (tail : List ℕ) → IsBehindHead (codes "journal ") text tail → (before : List Label) (rest : List ℕ) (n : ℕ) → IsOnlyParted shape tail before rest → (rest ≡ [] → ⊥) → n ≡ length before + 2 → IsOnlyVerdict shape text (Err (Syntax n))
  some_labels tail b before rest n p some e = (inr (before, rest, stop, e), only)
    where
      stop : StopsAfter shape text before rest
      stop = record {
        spelled = b.spelled ∙ ap (λ t. head_text (line_count t) ++ 10 ∷ t) p.parted.spelled;
        fit = p.parted.fit;
        some = some;
        none = p.parted.none;
      }

      only : (other : Result (List Label) JournalError) → IsVerdict shape text other → other ≡ Err (Syntax n)
      only (Ok others) v = absurd (some (sym (p.only others [] (journal_parts tail b others v)).1))
      only (Err (Syntax m)) (inl h) = absurd (h.0 tail b.spelled)
      only (Err (Syntax m)) (inr h) =
          let same = p.only h.0 h.1 (stop_parts tail b h.0 h.1 h.2) in
          ap (λ k. Err (Syntax k)) (h.3 ∙ ap (λ ls. length ls + 2) same.0 ∙ sym e)
      only (Err (OutOfMemory _)) v = absurd v

  -- ---- there is no head

  pub headless : HasNoHead (codes "journal ") text → IsOnlyVerdict shape text (Err (Syntax 1))
  headless none = (inl (none, refl), only)
    where
      only : (other : Result (List Label) JournalError) → IsVerdict shape text other → other ≡ Err (Syntax 1)
      only (Ok others) v =
          let count = lines_are shape names 1 others (few_labels others (head_text (length others)) v.spelled) v.fit in
          absurd (none (labels_text shape 1 others) (v.spelled ∙ ap (λ n. head_text n ++ 10 ∷ labels_text shape 1 others) (sym count)))
      only (Err (Syntax m)) (inl h) = ap (λ k. Err (Syntax k)) h.1
      only (Err (Syntax m)) (inr h) = absurd (none (labels_text shape 1 h.0 ++ h.1) h.2.spelled)
      only (Err (OutOfMemory _)) v = absurd v

  pub read_verdict : (tail : List ℕ) → IsBehindHead (codes "journal ") text tail → (r : Result (List Label) JournalError) → AreRead shape tail r → IsOnlyVerdict shape text r
  read_verdict tail b (Ok labels) h = all_labels tail b labels h
  read_verdict tail b (Err (Syntax n)) h = some_labels tail b h.0 h.1 n h.2 h.3 h.4
  read_verdict tail b (Err (OutOfMemory _)) h = tt
