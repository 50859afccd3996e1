-- The parts of a script line, as its reader finds them.
use Rattle.std.specs.Prelude.{◌≡◌, ℕ, Bool, true, false, ◌||◌, List, [], ◌∷◌, codes}
use Rattle.std.specs.List.{list_all}
use Rattle.wave_base.specs.Names.{is_digits, is_word, same_bytes}
use Rattle.wave_text.specs.Words.{is_whole}
use Rattle.script_reader.specs.declared.form.Form.{Form}
use Rattle.script_reader.specs.declared.form.Literal.{Literal}
use Rattle.script_reader.specs.declared.piece.Piece.{Piece}
use Rattle.script_reader.specs.declared.piece.Piece.TheVariants.{Run, Text, Open, Close, Comma}
use Rattle.script_reader.specs.Forms.{literal_piece, is_literal, literal_pieces, form_word, form_rest, is_form}

pub record IsLiteralPiece (piece : Piece) (literal : Literal) : Type 0 where
  pub piece_is : literal_piece literal ≡ piece
  pub form_is : is_literal literal ≡ true

-- a number or a truth value
abbrev pub is_literal_run : List ℕ → Bool
is_literal_run bs = is_whole bs || (same_bytes bs (codes "true") || same_bytes bs (codes "false"))

abbrev pub spells_literal : Piece → Bool
spells_literal (Run bs) = is_literal_run bs
spells_literal (Text t) = true
spells_literal _ = false

-- behind an opening parenthesis these pieces are the literals and their end
pub record AreLiterals (pieces : List Piece) (literals : List Literal) : Type 0 where
  pub pieces_are : literal_pieces literals ≡ pieces
  pub form_is : list_all is_literal literals ≡ true

abbrev pub SpellLiterals : List Piece → Type 0
SpellLiterals pieces = (literals : List Literal) × AreLiterals pieces literals

abbrev pub AreOnlyLiterals : List Piece → List Literal → Type 0
AreOnlyLiterals pieces literals = AreLiterals pieces literals × ((others : List Literal) → AreLiterals pieces others → others ≡ literals)

abbrev pub AreNoLiterals : List Piece → Type 0
AreNoLiterals pieces = (literals : List Literal) → AreLiterals pieces literals → ⊥

-- ---- what stands behind a literal

pub data Next : Type 0 where
  More : List Piece → Next
  End : Next
  Wrong : Next

abbrev pub behind_in : List Piece → Next
behind_in (Comma ∷ rest) = More rest
behind_in (Close ∷ []) = End
behind_in _ = Wrong

-- ---- the rest of a line behind its first word

pub record IsNumber (rest : List Piece) (digits : List ℕ) : Type 0 where
  pub rest_is : Run digits ∷ [] ≡ rest
  pub form_is : is_digits digits ≡ true

abbrev pub IsNoNumber : List Piece → Type 0
IsNoNumber rest = (digits : List ℕ) → IsNumber rest digits → ⊥

pub record IsNamed (rest : List Piece) (name : List ℕ) (args : List Piece) : Type 0 where
  pub rest_is : Run name ∷ Open ∷ args ≡ rest
  pub form_is : is_word name ≡ true

abbrev pub IsNotNamed : List Piece → Type 0
IsNotNamed rest = (name : List ℕ) (args : List Piece) → IsNamed rest name args → ⊥

pub record IsTo (rest : List Piece) (digits : List ℕ) : Type 0 where
  pub rest_is : Run (codes "to") ∷ Run digits ∷ [] ≡ rest
  pub form_is : is_digits digits ≡ true

abbrev pub IsNotTo : List Piece → Type 0
IsNotTo rest = (digits : List ℕ) → IsTo rest digits → ⊥

pub record IsMove (rest : List Piece) (path digits : List ℕ) : Type 0 where
  pub rest_is : Run path ∷ Run (codes "to") ∷ Run digits ∷ [] ≡ rest
  pub form_is : is_digits digits ≡ true

abbrev pub IsNoMove : List Piece → Type 0
IsNoMove rest = (path digits : List ℕ) → IsMove rest path digits → ⊥

-- ---- the whole line

pub record Spells (pieces : List Piece) (form : Form) : Type 0 where
  pub pieces_are : Run (form_word form) ∷ form_rest form ≡ pieces
  pub form_is : is_form form ≡ true

abbrev pub SpellsOnly : List Piece → Form → Type 0
SpellsOnly pieces form = Spells pieces form × ((other : Form) → Spells pieces other → other ≡ form)

abbrev pub SpellsNone : List Piece → Type 0
SpellsNone pieces = (form : Form) → Spells pieces form → ⊥
