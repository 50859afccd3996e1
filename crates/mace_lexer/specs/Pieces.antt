-- The piece at the front of a text: the longest front that is one.
use Rattle.std.specs.Prelude.{◌≡◌, ℕ, pos, ◌<◌, ◌≤◌, ◌⊎◌, true, List, length, take, All, Some, None}
use Rattle.wave_base.specs.Names.{is_digits, is_word}
use Rattle.wave_base.specs.declared.limits.TheConstants.{NAME_BYTES, LITERAL_BYTES}
use Rattle.wave_base.specs.Text.{IsPrintable}
use Rattle.mace_lexer.specs.declared.token.Word.{Word}
use Rattle.mace_lexer.specs.declared.token.Word.TheVariants as word
use Rattle.mace_lexer.specs.declared.fault.LexFault.{LexFault}
use Rattle.mace_lexer.specs.declared.fault.LexFault.TheVariants.{BadByte, NumberRange, OpenText, NameLong, TextLong}
use Rattle.mace_lexer.specs.Words.{is_blank, is_comment, value_of, greatest, keyword, sign}
use Rattle.wave_base.specs.Text.{quoted_text}

-- a blank or a comment, a word, or what has the form of a word and is too large for one
pub data Piece : Type 0 where
  Gap : Piece
  Spell : Word → Piece
  Wrong : LexFault → Piece

-- these bytes are this piece
abbrev pub IsPiece : Piece → List ℕ → Type 0
IsPiece Gap bs = (is_blank bs ≡ true) ⊎ (is_comment bs ≡ true)
IsPiece (Spell (word.Name t)) bs = (is_word bs ≡ true) × (length bs ≤ NAME_BYTES) × (keyword bs ≡ None) × (t ≡ bs)
IsPiece (Spell (word.Key k)) bs = keyword bs ≡ Some k
IsPiece (Spell (word.Number n)) bs = (is_digits bs ≡ true) × (value_of bs ≤ greatest) × (n ≡ pos (value_of bs))
IsPiece (Spell (word.Text t)) bs = (bs ≡ quoted_text t) × All IsPrintable t × (length t ≤ LITERAL_BYTES)
IsPiece (Spell (word.Sign s)) bs = sign bs ≡ Some s
IsPiece (Wrong NameLong) bs = (is_word bs ≡ true) × (NAME_BYTES < length bs)
IsPiece (Wrong NumberRange) bs = (is_digits bs ≡ true) × (greatest < value_of bs)
IsPiece (Wrong TextLong) bs = (t : List ℕ) × (bs ≡ quoted_text t) × All IsPrintable t × (LITERAL_BYTES < length t)
IsPiece (Wrong BadByte) bs = ⊥
IsPiece (Wrong OpenText) bs = ⊥

-- the first n bytes of the text are this piece, and no longer front of it is a piece
pub record IsLongest (text : List ℕ) (n : ℕ) (p : Piece) : Type 0 where
  pub within : n ≤ length text
  pub piece : IsPiece p (take n text)
  pub longest : (k : ℕ) (q : Piece) → n < k → k ≤ length text → IsPiece q (take k text) → ⊥

-- no front of the text is a piece
abbrev pub HasNone : List ℕ → Type 0
HasNone text = (k : ℕ) (q : Piece) → k ≤ length text → IsPiece q (take k text) → ⊥
