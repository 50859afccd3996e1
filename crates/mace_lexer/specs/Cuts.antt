-- A text cut into pieces, and the first fault.
use Rattle.std.specs.Prelude.{◌≡◌, ℕ, suc, ◌+◌, ◌<◌, ◌⊎◌, ◌==◌, if◌then◌else◌, List, [], ◌∷◌, ◌++◌, length, take, drop, slice_index, All}
use Rattle.wave_base.specs.declared.span.Span.{Span}
use Rattle.mace_lexer.specs.declared.token.Word.{Word}
use Rattle.mace_lexer.specs.declared.token.Token.{Token}
use Rattle.mace_lexer.specs.declared.fault.LexFault.{LexFault}
use Rattle.mace_lexer.specs.declared.fault.LexFault.TheVariants.{BadByte, NumberRange, OpenText, NameLong, TextLong}
use Rattle.mace_lexer.specs.declared.quoted.Inside.TheVariants.{Open, Bad}
use Rattle.mace_lexer.specs.declared.quoted.Inside.{Inside}
use Rattle.mace_lexer.specs.Texts.{inside_of}
use Rattle.wave_base.specs.Text.{IsPrintable, escaped_text}
use Rattle.mace_lexer.specs.Pieces.{Gap, Spell, Wrong, IsLongest, HasNone}

abbrev pub past_byte : Span → ℕ → Span
past_byte at b = if b == 10 then record { line = at.line + 1; col = 1 } else record { line = at.line; col = at.col + 1 }

-- the place behind these bytes
abbrev pub past : Span → List ℕ → Span
past at [] = at
past at (b ∷ bs) = past (past_byte at b) bs

-- From this place on, so many bytes behind the text's start, the text is cut into pieces, of which these are the words.
pub data Cuts : Span → ℕ → List ℕ → List Token → Type 0 where
  at_end : {at : Span} {from : ℕ} → Cuts at from [] []
  gap : {at : Span} {from n : ℕ} {text : List ℕ} {tokens : List Token} → IsLongest text n Gap → Cuts (past at (take n text)) (from + n) (drop n text) tokens → Cuts at from text tokens
  spelled : {at : Span} {from n : ℕ} {w : Word} {text : List ℕ} {tokens : List Token} → IsLongest text n (Spell w) → Cuts (past at (take n text)) (from + n) (drop n text) tokens → Cuts at from text (record { word = w; span = at; from = from; to = from + n } ∷ tokens)

-- ---- how the front of a text can fail: the fault, and how many bytes stand before it

-- the longest piece is too large a word: the fault stands at its start
pub record IsTooLarge (text : List ℕ) (e : LexFault) (n : ℕ) : Type 0 where
  pub start : n ≡ 0
  pub size : ℕ
  pub longest : IsLongest text size (Wrong e)

-- behind a quote these bytes are meant, and the byte behind the first n can't follow in a text
pub record StopsInside (text : List ℕ) (n : ℕ) (next : Inside) : Type 0 where
  pub meant : List ℕ
  pub rest : List ℕ
  pub split : text ≡ 34 ∷ (escaped_text meant ++ rest)
  pub printable : All IsPrintable meant
  pub reach : n ≡ suc (length (escaped_text meant))
  pub stop : inside_of rest ≡ next

-- the line or the text ends before the closing quote: the fault stands at the opening one
pub record IsOpen (text : List ℕ) (n : ℕ) : Type 0 where
  pub start : n ≡ 0
  pub place : ℕ
  pub inside : StopsInside text place Open

-- the first byte is no quote, and no piece begins with it
pub record HasNoPiece (text : List ℕ) (n : ℕ) : Type 0 where
  pub start : n ≡ 0
  pub some : 0 < length text
  pub no_quote : slice_index text 0 ≡ 34 → ⊥
  pub none : HasNone text

abbrev pub Fails : List ℕ → LexFault → ℕ → Type 0
Fails text NumberRange n = IsTooLarge text NumberRange n
Fails text NameLong n = IsTooLarge text NameLong n
Fails text TextLong n = IsTooLarge text TextLong n
Fails text OpenText n = IsOpen text n
Fails text BadByte n = StopsInside text n Bad ⊎ HasNoPiece text n

-- The first piece that can't be cut has this fault at this place.
pub data Faulty : Span → List ℕ → LexFault → Span → Type 0 where
  here : {at place : Span} {text : List ℕ} {e : LexFault} (n : ℕ) → Fails text e n → place ≡ past at (take n text) → Faulty at text e place
  after_gap : {at place : Span} {n : ℕ} {text : List ℕ} {e : LexFault} → IsLongest text n Gap → Faulty (past at (take n text)) (drop n text) e place → Faulty at text e place
  after_word : {at place : Span} {n : ℕ} {w : Word} {text : List ℕ} {e : LexFault} → IsLongest text n (Spell w) → Faulty (past at (take n text)) (drop n text) e place → Faulty at text e place
