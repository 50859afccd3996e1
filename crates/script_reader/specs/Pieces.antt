-- The pieces of a script line: runs of bytes, texts in quotes, and signs, with blanks before, between and behind them.
use Rattle.std.specs.Prelude.{◌≡◌, ℕ, Bool, true, false, not, ◌||◌, ◌&&◌, ◌==◌, if◌then◌else◌, List, [], ◌∷◌, ◌++◌, All}
use Rattle.std.specs.List.{list_all}
use Rattle.wave_base.specs.Text.{IsPrintable}
use Rattle.wave_base.specs.Text.{quoted_text}
use Rattle.wave_text.specs.Words.{is_blank}
use Rattle.script_reader.specs.declared.piece.Piece.{Piece}
use Rattle.script_reader.specs.declared.piece.Piece.TheVariants.{Run, Text, Open, Close, Comma}

-- a quote, a parenthesis or a comma
abbrev pub is_sign : ℕ → Bool
is_sign b = b == 34 || b == 40 || b == 41 || b == 44

-- a byte of a word, a number, a name or a path
abbrev pub is_solid : ℕ → Bool
is_solid b = not (is_blank b || is_sign b)

-- one or more of these
abbrev pub is_run : List ℕ → Bool
is_run [] = false
is_run (b ∷ bs) = is_solid b && list_all is_solid bs

-- how a piece is written
abbrev pub piece_text : Piece → List ℕ
piece_text (Run bs) = bs
piece_text (Text t) = quoted_text t
piece_text Open = 40 ∷ []
piece_text Close = 41 ∷ []
piece_text Comma = 44 ∷ []

abbrev pub IsPiece : Piece → Type 0
IsPiece (Run bs) = is_run bs ≡ true
IsPiece (Text t) = All IsPrintable t
IsPiece _ = Unit {0}

abbrev pub begins_sign : List ℕ → Bool
begins_sign [] = false
begins_sign (b ∷ bs) = is_sign b

abbrev pub begins_solid : List ℕ → Bool
begins_solid [] = false
begins_solid (b ∷ bs) = is_solid b

-- a run goes as far as it can, so that a blank or a sign stands between two of them
abbrev pub Ends : Piece → List ℕ → Type 0
Ends (Run bs) rest = begins_solid rest ≡ false
Ends _ rest = Unit {0}

-- the text begins with this piece, and this is what stands behind it
pub record IsFront (text : List ℕ) (piece : Piece) (rest : List ℕ) : Type 0 where
  pub spelled : text ≡ piece_text piece ++ rest
  pub form : IsPiece piece
  pub ends : Ends piece rest

-- with this piece and no other
pub record IsOnlyFront (text : List ℕ) (piece : Piece) (rest : List ℕ) : Type 0 where
  pub front : IsFront text piece rest
  pub only : (other : Piece) (left : List ℕ) → IsFront text other left → (other ≡ piece) × (left ≡ rest)

-- no piece stands there
abbrev pub HasNoFront : List ℕ → Type 0
HasNoFront text = (piece : Piece) (rest : List ℕ) → IsFront text piece rest → ⊥

-- without the blanks in front
abbrev pub without_blanks : List ℕ → List ℕ
without_blanks [] = []
without_blanks (b ∷ bs) = if is_blank b then without_blanks bs else b ∷ bs

-- these are the pieces of a text that has no blanks in front
abbrev pub ArePiecesOf : List ℕ → List Piece → Type 0
ArePiecesOf text [] = text ≡ []
ArePiecesOf text (p ∷ ps) = (rest : List ℕ) × IsFront text p rest × ArePiecesOf (without_blanks rest) ps

-- these are the pieces of the line
abbrev pub ArePieces : List ℕ → List Piece → Type 0
ArePieces line ps = ArePiecesOf (without_blanks line) ps

abbrev pub AreOnlyPieces : List ℕ → List Piece → Type 0
AreOnlyPieces line ps = ArePieces line ps × ((others : List Piece) → ArePieces line others → others ≡ ps)

abbrev pub HasNoPieces : List ℕ → Type 0
HasNoPieces line = (ps : List Piece) → ArePieces line ps → ⊥
