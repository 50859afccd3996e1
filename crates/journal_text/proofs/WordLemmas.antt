-- The first word of a line.
use Rattle.std.proofs.Common.{◌≡◌, ℕ, List, [], ◌∷◌, Option, Some, Result, Ok, Err, IfOk, sym, subst, ◌∙◌}
use Rattle.wave_text.specs.Splits.{HasNone, ArePartsAt}
use Rattle.journal_text.specs.LabelTexts.{words_text}
use Rattle.journal_text.specs.inner.Parts.{IsWordOf}

pub word_parts : (text front rest : List ℕ) → ArePartsAt 32 text front rest → IsWordOf text front rest
word_parts text front rest p w [] none e =
    let whole = p.whole (subst (HasNone 32) (sym e) none) in
    (whole.0 ∙ e, whole.1)
word_parts text front rest p w (v ∷ ws) none e = p.cut w (words_text (v ∷ ws)) none e

-- two words at the front
module _ (text w1 r1 w2 r2 : List ℕ) (first : IsWordOf text w1 r1) (second : IsWordOf r1 w2 r2) (a b : List ℕ) (ws : List (List ℕ)) where
  pub two_words : HasNone 32 a → HasNone 32 b → text ≡ words_text (a ∷ b ∷ ws) → (w1 ≡ a) × (r1 ≡ words_text (b ∷ ws)) × (w2 ≡ b) × (r2 ≡ words_text ws)
  two_words f g e =
      let one = first a (b ∷ ws) f e in
      let two = second b ws g one.1 in
      (one.0, one.1, two.0, two.1)

pub both_found : {A B : Type 0} (o : Option A) (q : Option B) (a x : A) (b y : B) → o ≡ Some a → o ≡ Some x → q ≡ Some b → q ≡ Some y → ◌≡◌ {A = Option (A × B)} (Some (a, b)) (Some (x, y))
both_found o q a x b y e f g h =
    let first : a ≡ x = cc in
    let second : b ≡ y = cc in
    λ i. Some (first i, second i)

pub on_if_ok : {T E : Type 0} (P Q : T → Type 0) (r : Result T E) → IfOk r P → ((x : T) → P x → Q x) → IfOk r Q
on_if_ok P Q (Ok x) h f = f x h
on_if_ok P Q (Err e) h f = h
