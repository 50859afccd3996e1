-- What the lexer says of a text.
use Rattle.std.specs.Prelude.{◌≡◌, ℕ, ◌<◌, ◌≤◌, ◌⊎◌, List, [], ◌∷◌, length, take, slice_range, Result, Err}
use Rattle.wave_base.specs.declared.span.Span.{Span}
use Rattle.mace_lexer.specs.declared.token.Token.{Token}
use Rattle.mace_lexer.specs.declared.fault.LexFault.{LexFault}
use Rattle.mace_lexer.specs.declared.fault.LexFault.TheVariants as fault
use Rattle.mace_lexer.specs.declared.fault.LexError.{LexError}
use Rattle.mace_lexer.specs.declared.fault.LexError.TheVariants as error
use Rattle.mace_lexer.specs.Pieces.{Spell, IsPiece}
use Rattle.mace_lexer.specs.Cuts.{Cuts, Faulty, past}
use Rattle.wave_base.specs.Memory.{the_refusal}

-- where a text begins
abbrev pub start : Span
start = record { line = 1; col = 1 }

-- the tokens of the text
abbrev pub AreTokens : List ℕ → List Token → Type 0
AreTokens text tokens = Cuts start 0 text tokens

-- a token's word is spelled by its bytes, and its span is their place
pub record LiesIn (text : List ℕ) (t : Token) : Type 0 where
  pub some : t.from < t.to
  pub within : t.to ≤ length text
  pub spelled : IsPiece (Spell t.word) (slice_range text t.from t.to)
  pub place : t.span ≡ past start (take t.from text)

-- from this byte on, one token begins where the one before ends, or behind it
abbrev pub AreInOrder : ℕ → List Token → Type 0
AreInOrder from [] = Unit {0}
AreInOrder from (t ∷ tokens) = (from ≤ t.from) × AreInOrder t.to tokens

-- the first fault of the text, with its place
abbrev pub IsFirstFault : List ℕ → LexFault → Span → Type 0
IsFirstFault text fault place = Faulty start text fault place

abbrev pub error_of : LexFault → Span → LexError
error_of fault.BadByte at = error.BadByte at
error_of fault.NumberRange at = error.NumberRange at
error_of fault.OpenText at = error.OpenText at
error_of fault.NameLong at = error.NameLong at
error_of fault.TextLong at = error.TextLong at

-- the error tells the first fault, or memory ran out
abbrev pub TellsFault : List ℕ → LexError → Type 0
TellsFault text (error.BadByte at) = IsFirstFault text fault.BadByte at
TellsFault text (error.NumberRange at) = IsFirstFault text fault.NumberRange at
TellsFault text (error.OpenText at) = IsFirstFault text fault.OpenText at
TellsFault text (error.NameLong at) = IsFirstFault text fault.NameLong at
TellsFault text (error.TextLong at) = IsFirstFault text fault.TextLong at
TellsFault text (error.OutOfMemory _) = Unit {0}

-- this is the answer, unless memory ran out
abbrev pub Answers : Result (List Token) LexError → Result (List Token) LexError → Type 0
Answers result answer = (result ≡ Err (error.OutOfMemory the_refusal)) ⊎ (result ≡ answer)
