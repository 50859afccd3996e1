-- The words of a label.
use Rattle.std.proofs.Common.{◌≡◌, ◌<◌, ◌^◌, ℕ, List, [], ◌∷◌, Some, refl, sym, ap, ◌∙◌, lit<, arith}
use Rattle.std.specs.Fmt.{decimal}
use Rattle.wave_base.specs.declared.shape.Shape.{Shape}
use Rattle.wave_labels.specs.declared.label.Act.{Act}
use Rattle.wave_labels.specs.declared.label.Label.{Label}
use Rattle.wave_text.specs.Splits.{HasNone}
use Rattle.journal_text.specs.Fits.{IsLabel}
use Rattle.journal_text.specs.LabelTexts.{words_text, act_words, line_text}
use Rattle.journal_text.specs.inner.Parts.{IsWordOf}
use Rattle.journal_text.specs.inner.Verbs.{word_of, verb_in, operands}
use Rattle.journal_text.proofs.ActLemmas.{act_is}
use Rattle.journal_text.proofs.SolidLemmas.{IsSolid, solid-append, solid_has_none, decimal_solid}

-- ---- the first three words of a line

pub record AreWords (shape : Shape) (l : Label) (w2 w3 rest : List ℕ) : Type 0 where
  pub worker : w2 ≡ 119 ∷ decimal l.worker.0
  pub host : w3 ≡ 104 ∷ decimal l.host.0
  pub act : rest ≡ words_text (act_words shape l.act)

marked_has_none : (b mark n : ℕ) → b < 33 → IsSolid (mark ∷ []) → n < 2 ^ 8 → HasNone b (mark ∷ decimal n)
marked_has_none b mark n low h k =
    let wide : n < 2 ^ 64 = omega arith in
    solid_has_none b low (mark ∷ decimal n) (solid-append (mark ∷ []) (decimal n) h (decimal_solid n wide))

module _ (shape : Shape) (line w1 r1 w2 r2 w3 r3 : List ℕ) (first : IsWordOf line w1 r1) (second : IsWordOf r1 w2 r2) (third : IsWordOf r2 w3 r3) where
  pub label_parts : (i : ℕ) (l : Label) → i < 2 ^ 64 → IsLabel shape l → line ≡ line_text shape i l → AreWords shape l w2 w3 r3
  label_parts i l below h e =
      let act = act_is shape l.act in
      let words : line ≡ words_text (decimal i ∷ (119 ∷ decimal l.worker.0) ∷ (104 ∷ decimal l.host.0) ∷ word_of (verb_in l.act) ∷ operands shape l.act) =
      e ∙ ap (λ ws. words_text (decimal i ∷ (119 ∷ decimal l.worker.0) ∷ (104 ∷ decimal l.host.0) ∷ ws)) act in
      let one = first (decimal i) ((119 ∷ decimal l.worker.0) ∷ (104 ∷ decimal l.host.0) ∷ word_of (verb_in l.act) ∷ operands shape l.act) (solid_has_none 32 (lit< tt) (decimal i) (decimal_solid i below)) words in
      let two = second (119 ∷ decimal l.worker.0) ((104 ∷ decimal l.host.0) ∷ word_of (verb_in l.act) ∷ operands shape l.act) (marked_has_none 32 119 l.worker.0 (lit< tt) refl h.worker) one.1 in
      let three = third (104 ∷ decimal l.host.0) (word_of (verb_in l.act) ∷ operands shape l.act) (marked_has_none 32 104 l.host.0 (lit< tt) refl h.host) two.1 in
      record { worker = two.0; host = three.0; act = three.1 ∙ ap words_text (sym act) }

pub label_found : (w h : ℕ) (a : Act) (l : Label) → w ≡ l.worker.0 → h ≡ l.host.0 → a ≡ l.act → Some (record { worker = record { 0 = w }; host = record { 0 = h }; act = a }) ≡ Some l
label_found w h a l p q r = λ i. Some (record { worker = record { 0 = p i }; host = record { 0 = q i }; act = r i })
