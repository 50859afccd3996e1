-- Which words spell a service, and where words stop to be those of one.
use Rattle.std.specs.Prelude.{◌≡◌, ℕ, zero, suc, ◌+◌, ◌<◌, ◌≤◌, List, [], ◌∷◌, length, take, map}
use Rattle.wave_base.specs.declared.limits.TheConstants.{NEST}
use Rattle.wave_base.specs.declared.span.Span.{Span}
use Rattle.mace_lexer.specs.declared.token.Word.{Word}
use Rattle.mace_lexer.specs.declared.token.Token.{Token}
use Rattle.mace_lexer.specs.Cuts.{past}
use Rattle.mace_lexer.specs.Lexed.{start}
use Rattle.mace_ast.specs.Exprs.{nowhere}
use Rattle.mace_ast.specs.Decls.{ServiceTree, bare_service}
use Rattle.mace_grammar.specs.Grammar.{service}
use Rattle.mace_grammar.specs.Nest.{nest_after, IsShallow}

abbrev pub words : List Token → List Word
words = map (λ t. t.word)

-- a token of this word that stands nowhere
abbrev pub plain_token : Word → Token
plain_token w = record { word = w; span = nowhere; from = 0; to = 0 }

-- the words spell the service, up to places
abbrev pub Spelled : ServiceTree → List Word → Type 0
Spelled s ws = service.Spells (bare_service s) (map plain_token ws)

-- the words begin a service
abbrev pub Begun : List Word → Type 0
Begun ws = service.Begins (map plain_token ws)

-- The first k words begin a service. With the word behind them they don't; and where there is none, they are no service.
-- None of them is nested too deep.
pub record IsExpected (ws : List Word) (k : ℕ) : Type 0 where
  pub within : k ≤ length ws
  pub begun : Begun (take k ws)
  pub ends : k < length ws → Begun (take (k + 1) ws) → ⊥
  pub unfinished : k ≡ length ws → (s : ServiceTree) → Spelled s ws → ⊥
  pub shallow : IsShallow (take k ws)

-- The word behind the first k is the first that is nested too deep, and with it they begin a service.
pub record IsTooDeep (ws : List Word) (k : ℕ) : Type 0 where
  pub within : k < length ws
  pub begun : Begun (take (k + 1) ws)
  pub deep : NEST < nest_after (take (k + 1) ws)
  pub shallow : IsShallow (take k ws)

-- where the token behind the first k stands; the end of the text stands behind its last byte
abbrev pub place_in : List ℕ → List Token → ℕ → Span
place_in text [] k = past start text
place_in text (t ∷ ts) zero = t.span
place_in text (t ∷ ts) (suc k) = place_in text ts k
