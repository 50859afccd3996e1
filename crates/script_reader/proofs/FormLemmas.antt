-- The forms of lines, and what lines say.
use Rattle.std.proofs.Common.{◌≡◌, ◌-◌, ◌≤◌, ℕ, true, false, List, [], ◌∷◌, length, take, drop, get_or, refl, sym, ap, subst, ◌∙◌, arith}
use Rattle.std.specs.Prelude.{codes}
use Rattle.std.specs.List.{list_all}
use Rattle.std.proofs.lemmas.Bool.{and_parts, false≢true}
use Rattle.std.proofs.lemmas.List.{take_all}
use Rattle.wave_base.specs.Names.{is_digits}
use Rattle.path_text.specs.Steps.{is_step, written_text}
use Rattle.script_reader.specs.declared.form.Form.{Form}
use Rattle.script_reader.specs.declared.form.Form.TheVariants.{Hosts, Request, Move, Snapshot, Settle}
use Rattle.script_reader.specs.declared.piece.Piece.{Piece}
use Rattle.script_reader.specs.declared.piece.Piece.TheVariants.{Run}
use Rattle.script_reader.specs.declared.said.Said.{Said}
use Rattle.script_reader.specs.declared.said.Said.TheVariants.{Nothing, Unknown, Says}
use Rattle.script_reader.specs.Forms.{form_word, form_rest, HasNoFormOf, HasForm, HasNoForm, is_skipped}
use Rattle.script_reader.specs.inner.Parts.{IsNumber, IsTo, IsNoMove, Spells, SpellsOnly, SpellsNone}
use Rattle.script_reader.specs.inner.Begins.{first_run, is_form_word}
use Rattle.script_reader.specs.Pieces.{without_blanks, ArePieces, AreOnlyPieces, HasNoPieces}
use Rattle.script_reader.specs.Scripts.{IsSaid, IsOnlySaid}
use Rattle.script_reader.proofs.FrontLemmas.{front_run}

pub no_move : (rest : List Piece) → IsNoMove rest → HasNoFormOf (codes "move") rest
no_move rest none (Hosts n) h = cc (h.word_is)
no_move rest none (Request name args) h = cc (h.word_is)
no_move rest none (Move steps to) h = none (written_text steps) to (record { rest_is = h.rest_is; form_is = (and_parts (list_all is_step steps) (is_digits to) h.form_is).1 })
no_move rest none Snapshot h = cc (h.word_is)
no_move rest none Settle h = cc (h.word_is)

-- ---- what a line says

-- no form at all
says_unknown : (line : List ℕ) → is_skipped line ≡ false → HasNoForm line → IsOnlySaid line Unknown
says_unknown line h none = ((h, none), λ other k. by_said other k)
  where
    by_said : (other : Said) → IsSaid line other → other ≡ Unknown
    by_said Nothing k = absurd (cc (sym h ∙ k))
    by_said Unknown k = refl
    by_said (Says f) k = absurd (none f k.1)

pub form_words : (f : Form) → is_form_word (form_word f) ≡ true
form_words (Hosts n) = refl
form_words (Request name args) = refl
form_words (Move steps to) = refl
form_words Snapshot = refl
form_words Settle = refl

-- it begins with a word of none
pub says_no_word : (line word : List ℕ) → is_skipped line ≡ false → word ≡ first_run (without_blanks line) → is_form_word word ≡ false → IsOnlySaid line Unknown
says_no_word line word h at none =
    says_unknown line h (λ f k.
    let same : form_word f ≡ word = front_run (without_blanks line) (form_word f) k.cut.0 k.cut.1 ∙ sym at in
    let is : is_form_word word ≡ true = ap is_form_word (sym same) ∙ form_words f in
    false≢true (sym none ∙ is))

pub says_no_pieces : (line : List ℕ) → is_skipped line ≡ false → HasNoPieces line → IsOnlySaid line Unknown
says_no_pieces line h none = says_unknown line h (λ f k. none (Run (form_word f) ∷ form_rest f) k.cut)

-- the pieces of a line that has a form
spelled : (line : List ℕ) (ps : List Piece) (f : Form) → AreOnlyPieces line ps → HasForm line f → Spells ps f
spelled line ps f o k = record { pieces_are = o.1 (Run (form_word f) ∷ form_rest f) k.cut; form_is = k.form_is }

pub says_no_form : (line : List ℕ) (ps : List Piece) → is_skipped line ≡ false → AreOnlyPieces line ps → SpellsNone ps → IsOnlySaid line Unknown
says_no_form line ps h o none = says_unknown line h (λ f k. none f (spelled line ps f o k))

pub says_form : (line : List ℕ) (ps : List Piece) (f : Form) → is_skipped line ≡ false → AreOnlyPieces line ps → SpellsOnly ps f → IsOnlySaid line (Says f)
says_form line ps f h o s = ((h, record { cut = subst (ArePieces line) (sym s.0.pieces_are) o.0; form_is = s.0.form_is }), λ other k. by_said other k)
  where
    by_said : (other : Said) → IsSaid line other → other ≡ Says f
    by_said Nothing k = absurd (cc (sym h ∙ k))
    by_said Unknown k = absurd (k.1 f (record { cut = subst (ArePieces line) (sym s.0.pieces_are) o.0; form_is = s.0.form_is }))
    by_said (Says g) k = ap (λ z. Says z) (s.1 g (spelled line ps g o k.1))

-- ---- the first piece, and the rest

pub cons_of : {A : Type 0} (xs : List A) (x : A) → 1 ≤ length xs → x ≡ get_or xs 0 x → xs ≡ x ∷ take (length xs - 1) (drop 1 xs)
cons_of [] x h e = absurd (omega arith)
cons_of (y ∷ ys) x h e = (λ i. sym e i ∷ ys) ∙ ap (λ z. x ∷ z) (sym (take_all (length (y ∷ ys) - 1) ys (omega arith)))

pub to_there : (rest : List Piece) (piece : Piece) (to digits : List ℕ) → 1 ≤ length rest → piece ≡ get_or rest 0 piece → piece ≡ Run to → to ≡ codes "to" → IsNumber (take (length rest - 1) (drop 1 rest)) digits → IsTo rest digits
to_there rest piece to digits h e p t n = record {
  rest_is = (λ i. Run (sym t i) ∷ n.rest_is i) ∙ ap (λ z. z ∷ take (length rest - 1) (drop 1 rest)) (sym p) ∙ sym (cons_of rest piece h e);
  form_is = n.form_is;
}
