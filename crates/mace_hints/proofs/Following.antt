-- The words of a front and a word of a hint in their layout: how they are cut, and what can follow.
use Rattle.std.proofs.Common.{◌≡◌, ℕ, zero, suc, pos, ◌≤◌, Bool, true, false, List, [], ◌∷◌, ◌++◌, length, take, fold, refl, sym, ◌∙◌, subst, ap, arith, append_assoc}
use Rattle.std.specs.Prelude.{◌↔◌, if◌then◌else◌}
use Rattle.std.specs.Ordering.{int_eq}
use Rattle.std.proofs.lemmas.List.Elements.{All-nil}
use Rattle.mace_lexer.specs.declared.token.Token.{Token}
use Rattle.mace_lexer.specs.declared.token.Word.{Word}
use Rattle.mace_lexer.specs.declared.token.Word.TheVariants as word
use Rattle.mace_lexer.specs.Words.{keyword}
use Rattle.wave_base.specs.Text.{IsPrintable}
use Rattle.mace_grammar.specs.Words.{is_finish}
use Rattle.mace_grammar.specs.Nest.{Pieces, past_sign, past_word, no_pieces, nest, IsShallow}
use Rattle.mace_grammar.specs.Spelled.{words}
use Rattle.mace_printer.specs.Layout.{line_of, layout}
use Rattle.mace_printer.specs.Written.{IsCutInto}
use Rattle.mace_printer.proofs.Standing.{CanStand, Stand, layout_cut}
use Rattle.mace_printer.proofs.Holds.{Good, cuts_good, stand_both}
use Rattle.mace_hints.specs.declared.hint.Hint.{Hint}
use Rattle.mace_hints.specs.declared.hint.Hint.TheVariants as h
use Rattle.mace_hints.specs.Hints.{hint_of, word_of, AreAlike, CanFollow}
use Rattle.mace_hints.specs.inner.Fronts.{IsFront}
use Rattle.mace_hints.proofs.Going.{begun_goes_on, goes_on_begun}
use Rattle.mace_hints.proofs.Standing.{Stands}

-- ---- which words can stand

good_stand : (ts : List Token) → Good ts → Stand (words ts)
good_stand [] g = tt
good_stand (t ∷ ts) g = (g.0, good_stand ts g.1)

stand_take : (k : ℕ) (ws : List Word) → Stand ws → Stand (take k ws)
stand_take zero ws s = tt
stand_take (suc k) [] s = tt
stand_take (suc k) (w ∷ ws) s = (s.0, stand_take k ws s.1)

word_stands : (x : Hint) → CanStand (word_of x)
unfolding keyword
word_stands h.Name = (refl, omega arith, refl)
word_stands h.Finish = (refl, omega arith, refl)
word_stands h.Number = (1, omega arith, refl)
word_stands h.Two = (2, omega arith, refl)
word_stands h.Text = (All-nil IsPrintable, omega arith)
word_stands (h.Key j) = tt
word_stands (h.Sign j) = tt

-- ---- the layout of one more word

pub layout_one_more : (ws : List Word) (v : Word) → layout (ws ++ v ∷ []) ≡ layout ws ++ layout (v ∷ [])
unfolding layout
layout_one_more [] v = refl
layout_one_more (w ∷ ws) v = ap (λ l. line_of w ++ l) (layout_one_more ws v) ∙ sym (append_assoc (line_of w) (layout ws) (layout (v ∷ [])))

pub front_cut : (bytes text : List ℕ) (ws : List Word) (x : Hint) → IsFront bytes ws → text ≡ bytes ++ layout (word_of x ∷ []) → IsCutInto text (ws ++ word_of x ∷ [])
front_cut bytes text ws x f e =
    let read = cuts_good f.read.1 in
    let stands : Stand ws = subst (λ l. Stand l) (sym f.front) (stand_take f.size (words f.tokens) (good_stand f.tokens read)) in
    let all : Stand (ws ++ word_of x ∷ []) = stand_both ws (word_of x ∷ []) stands (word_stands x, tt) in
    let same : layout (ws ++ word_of x ∷ []) ≡ text = layout_one_more ws (word_of x) ∙ ap (λ l. l ++ layout (word_of x ∷ [])) (sym f.laid) ∙ sym e in
    subst (λ l. IsCutInto l (ws ++ word_of x ∷ [])) same (layout_cut (ws ++ word_of x ∷ []) all)

-- ---- words of one hint

word_hint : (x : Hint) → hint_of (word_of x) ≡ x
word_hint h.Name = refl
word_hint h.Finish = refl
word_hint h.Number = refl
word_hint h.Two = refl
word_hint h.Text = refl
word_hint (h.Key j) = refl
word_hint (h.Sign j) = refl

abbrev past_hint : Pieces → Hint → Pieces
past_hint p (h.Sign j) = past_sign j p
past_hint p _ = p

past_same : (p : Pieces) (w : Word) → past_word p w ≡ past_hint p (hint_of w)
past_same p (word.Name t) = of_name (is_finish t)
  where
    of_name : (b : Bool) → p ≡ past_hint p (if b then h.Finish else h.Name)
    of_name true = refl
    of_name false = refl
past_same p (word.Number n) = of_number (int_eq n (pos 2))
  where
    of_number : (b : Bool) → p ≡ past_hint p (if b then h.Two else h.Number)
    of_number true = refl
    of_number false = refl
past_same p (word.Text t) = refl
past_same p (word.Key j) = refl
past_same p (word.Sign j) = refl

pieces_alike : (k : ℕ) (ws vs : List Word) (p : Pieces) → AreAlike ws vs → fold past_word p (take k ws) ≡ fold past_word p (take k vs)
pieces_alike zero ws vs p a = refl
pieces_alike (suc k) [] [] p a = refl
pieces_alike (suc k) [] (v ∷ vs) p a = absurd a
pieces_alike (suc k) (w ∷ ws) [] p a = absurd a
pieces_alike (suc k) (w ∷ ws) (v ∷ vs) p a =
    let one : past_word p w ≡ past_word p v = past_same p w ∙ ap (past_hint p) a.0 ∙ sym (past_same p v) in
    ap (λ q. fold past_word q (take k ws)) one ∙ pieces_alike k ws vs (past_word p v) a.1

alike_length : (ws vs : List Word) → AreAlike ws vs → length ws ≡ length vs
alike_length [] [] a = refl
alike_length [] (v ∷ vs) a = absurd a
alike_length (w ∷ ws) [] a = absurd a
alike_length (w ∷ ws) (v ∷ vs) a = ap suc (alike_length ws vs a.1)

shallow_alike : (ws vs : List Word) → AreAlike ws vs → IsShallow ws → IsShallow vs
shallow_alike ws vs a s = λ k l. subst (λ n. n ≤ 64) (ap nest (pieces_alike k ws vs no_pieces a)) (s k (subst (λ n. k ≤ n) (sym (alike_length ws vs a)) l))

one_alike : (ws : List Word) (w v : Word) → hint_of w ≡ hint_of v → AreAlike (ws ++ w ∷ []) (ws ++ v ∷ [])
one_alike [] w v e = (e, tt)
one_alike (u ∷ ws) w v e = (refl, one_alike ws w v e)

-- a hint is told by its own word
pub follows_by_word : (ws : List Word) (x : Hint) → Stands (ws ++ word_of x ∷ []) ↔ CanFollow ws x
follows_by_word ws x = (
  (λ s. record { next = word_of x; told = word_hint x; goes_on = s.0; shallow = s.1 }),
  (λ f.
      let a : AreAlike (ws ++ f.next ∷ []) (ws ++ word_of x ∷ []) = one_alike ws f.next (word_of x) (f.told ∙ sym (word_hint x)) in
      (begun_goes_on (ws ++ f.next ∷ []) (ws ++ word_of x ∷ []) a (goes_on_begun (ws ++ f.next ∷ []) f.goes_on), shallow_alike (ws ++ f.next ∷ []) (ws ++ word_of x ∷ []) a f.shallow)),
)
