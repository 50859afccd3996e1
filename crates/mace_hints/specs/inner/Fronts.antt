-- The words of a text's front in their layout, and which of a table's hints are told behind them.
use Rattle.std.specs.Prelude.{◌≡◌, ◌↔◌, ◌⊎◌, ℕ, List, [], ◌∷◌, ◌++◌, take, Contains}
use Rattle.mace_lexer.specs.declared.token.Token.{Token}
use Rattle.mace_lexer.specs.declared.token.Word.{Word}
use Rattle.mace_grammar.specs.Spelled.{words}
use Rattle.mace_printer.specs.Layout.{layout}
use Rattle.mace_hints.specs.declared.hint.Hint.{Hint}
use Rattle.mace_hints.specs.Hints.{IsRead, CanFollow}

-- these bytes are the layout of these words, which are the first of a text's
pub record IsFront (bytes : List ℕ) (ws : List Word) : Type 0 where
  pub tokens : List Token
  pub read : IsRead tokens
  pub size : ℕ
  pub front : ws ≡ take size (words tokens)
  pub laid : bytes ≡ layout ws

-- told are those of the table that can follow
abbrev pub Tells : List Word → List Hint → List Hint → Type 0
Tells ws table found = (h : Hint) → Contains found h ↔ (Contains table h × CanFollow ws h)

-- one more is told where it can follow, and else none
abbrev pub TellsOne : List Word → Hint → List Hint → List Hint → Type 0
TellsOne ws x old new = (CanFollow ws x × (new ≡ old ++ x ∷ [])) ⊎ ((CanFollow ws x → ⊥) × (new ≡ old))
