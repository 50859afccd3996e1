-- The forms of a script line.
use Rattle.std.specs.Prelude.{◌≡◌, ℕ, Bool, true, ◌&&◌, ◌==◌, if◌then◌else◌, List, [], ◌∷◌, codes}
use Rattle.std.specs.List.{list_all}
use Rattle.wave_base.specs.Names.{is_digits, is_word}
use Rattle.wave_text.specs.Words.{is_whole}
use Rattle.path_text.specs.Steps.{is_step, written_text}
use Rattle.script_reader.specs.declared.form.Form.{Form}
use Rattle.script_reader.specs.declared.form.Form.TheVariants.{Hosts, Request, Move, Snapshot, Settle}
use Rattle.script_reader.specs.declared.form.Literal.{Literal}
use Rattle.script_reader.specs.declared.form.Literal.TheVariants.{Number, Truth, Text as Quoted}
use Rattle.script_reader.specs.declared.piece.Piece.{Piece}
use Rattle.script_reader.specs.declared.piece.Piece.TheVariants.{Run, Text, Open, Close, Comma}
use Rattle.script_reader.specs.Pieces.{ArePieces, without_blanks}

-- ---- literals: a number, a truth value, a text

abbrev pub truth_word : Bool → List ℕ
truth_word b = if b then codes "true" else codes "false"

abbrev pub literal_piece : Literal → Piece
literal_piece (Number n) = Run n
literal_piece (Truth b) = Run (truth_word b)
literal_piece (Quoted t) = Text t

-- a number is an optional minus and digits
abbrev pub is_literal : Literal → Bool
is_literal (Number n) = is_whole n
is_literal _ = true

-- what stands behind a literal: the others, each behind a comma, and the closing parenthesis
abbrev pub more_pieces : List Literal → List Piece
more_pieces [] = Close ∷ []
more_pieces (a ∷ ls) = Comma ∷ literal_piece a ∷ more_pieces ls

-- what stands behind an opening parenthesis
abbrev pub literal_pieces : List Literal → List Piece
literal_pieces [] = Close ∷ []
literal_pieces (a ∷ ls) = literal_piece a ∷ more_pieces ls

-- ---- lines: hosts n, request name(literals), move path to h, snapshot, settle

abbrev pub form_word : Form → List ℕ
form_word (Hosts n) = codes "hosts"
form_word (Request name args) = codes "request"
form_word (Move steps h) = codes "move"
form_word Snapshot = codes "snapshot"
form_word Settle = codes "settle"

-- what stands behind the first word
abbrev pub form_rest : Form → List Piece
form_rest (Hosts n) = Run n ∷ []
form_rest (Request name args) = Run name ∷ Open ∷ literal_pieces args
form_rest (Move steps h) = Run (written_text steps) ∷ Run (codes "to") ∷ Run h ∷ []
form_rest Snapshot = []
form_rest Settle = []

-- numbers are digits, names are words, and paths have the form of a path
abbrev pub is_form : Form → Bool
is_form (Hosts n) = is_digits n
is_form (Request name args) = is_word name && list_all is_literal args
is_form (Move steps h) = list_all is_step steps && is_digits h
is_form Snapshot = true
is_form Settle = true

-- the word and these pieces are a line of that form
pub record IsFormOf (word : List ℕ) (rest : List Piece) (form : Form) : Type 0 where
  pub word_is : form_word form ≡ word
  pub rest_is : form_rest form ≡ rest
  pub form_is : is_form form ≡ true

abbrev pub IsOnlyFormOf : List ℕ → List Piece → Form → Type 0
IsOnlyFormOf word rest form = IsFormOf word rest form × ((other : Form) → IsFormOf word rest other → other ≡ form)

abbrev pub HasNoFormOf : List ℕ → List Piece → Type 0
HasNoFormOf word rest = (form : Form) → IsFormOf word rest form → ⊥

-- the line has that form
pub record HasForm (line : List ℕ) (form : Form) : Type 0 where
  pub cut : ArePieces line (Run (form_word form) ∷ form_rest form)
  pub form_is : is_form form ≡ true

abbrev pub HasNoForm : List ℕ → Type 0
HasNoForm line = (form : Form) → HasForm line form → ⊥

abbrev pub is_remark : List ℕ → Bool
is_remark [] = true
is_remark (b ∷ bs) = b == 35

-- nothing but blanks, or a comment behind them
abbrev pub is_skipped : List ℕ → Bool
is_skipped line = is_remark (without_blanks line)
