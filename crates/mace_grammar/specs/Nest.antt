-- The nest: how many brackets are open, and how many operators stand in the pieces on the stack.
use Rattle.std.specs.Prelude.{ℕ, ◌+◌, ◌<◌, ◌≤◌, List, [], ◌∷◌, length, take, fold, sum, Option, Some, None}
use Rattle.wave_base.specs.declared.limits.TheConstants.{NEST}
use Rattle.mace_lexer.specs.declared.token.Word.{Word}
use Rattle.mace_lexer.specs.declared.token.Word.TheVariants as word
use Rattle.mace_lexer.specs.declared.sign.Sign.{Sign}
use Rattle.mace_lexer.specs.declared.sign.Sign.TheVariants as s

-- the operators of the current piece, and those of the pieces under it
pub record Pieces : Type 0 where
  pub current : ℕ
  pub under : List ℕ

abbrev pub no_pieces : Pieces
no_pieces = record { current = 0; under = [] }

-- a bracket opens: a piece with no operators
abbrev pub after_open : Pieces → Pieces
after_open p = record { current = 0; under = p.current ∷ p.under }

-- a bracket closes: the piece under it is the current one
abbrev pub after_close : List ℕ → Pieces
after_close [] = no_pieces
after_close (n ∷ under) = record { current = n; under = under }

-- the current piece begins anew
abbrev pub after_separator : Pieces → Pieces
after_separator p = record { current = 0; under = p.under }

-- one operator more
abbrev pub after_operator : Pieces → Pieces
after_operator p = record { current = p.current + 1; under = p.under }

abbrev pub past_sign : Sign → Pieces → Pieces
past_sign s.LeftParen p = after_open p
past_sign s.LeftBracket p = after_open p
past_sign s.LeftBrace p = after_open (after_separator p)
past_sign s.RightParen p = after_close p.under
past_sign s.RightBracket p = after_close p.under
past_sign s.RightBrace p = after_separator (after_close p.under)
past_sign s.Comma p = after_separator p
past_sign s.Semicolon p = after_separator p
past_sign s.Colon p = p
past_sign s.Dot p = p
past_sign s.Equals p = p
past_sign s.EqualsEquals p = after_operator p
past_sign s.BangEquals p = after_operator p
past_sign s.Less p = after_operator p
past_sign s.LessEquals p = after_operator p
past_sign s.Greater p = after_operator p
past_sign s.GreaterEquals p = after_operator p
past_sign s.Plus p = after_operator p
past_sign s.Minus p = after_operator p
past_sign s.Star p = after_operator p
past_sign s.Slash p = after_operator p
past_sign s.Percent p = after_operator p
past_sign s.AndAnd p = after_operator p
past_sign s.OrOr p = after_operator p
past_sign s.Bang p = after_operator p

abbrev pub past_word : Pieces → Word → Pieces
past_word p (word.Sign j) = past_sign j p
past_word p _ = p

-- the open brackets, and the operators of all pieces
abbrev pub nest : Pieces → ℕ
nest p = length p.under + (p.current + sum p.under)

-- the nest behind these words
abbrev pub nest_after : List Word → ℕ
nest_after ws = nest (fold past_word no_pieces ws)

-- the nest passes the limit behind no front of the words
abbrev pub IsShallow : List Word → Type 0
IsShallow ws = (k : ℕ) → k ≤ length ws → nest_after (take k ws) ≤ NEST

-- the first word behind which the nest passes the limit
abbrev pub IsFirstDeep : List Word → Option ℕ → Type 0
IsFirstDeep ws None = IsShallow ws
IsFirstDeep ws (Some j) = (j < length ws) × (NEST < nest_after (take (j + 1) ws)) × IsShallow (take j ws)
