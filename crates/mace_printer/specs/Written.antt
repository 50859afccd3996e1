-- What may be printed, and how what was printed is read.
use Rattle.std.specs.Prelude.{◌≡◌, ℕ, List}
use Rattle.mace_lexer.specs.declared.token.Word.{Word}
use Rattle.mace_lexer.specs.declared.token.Token.{Token}
use Rattle.mace_lexer.specs.Lexed.{AreTokens}
use Rattle.mace_ast.specs.Decls.{ServiceTree}
use Rattle.mace_grammar.specs.Grammar.{service}
use Rattle.mace_grammar.specs.Spelled.{words}

-- the tokens of some text spell the service
abbrev pub IsParsed : ServiceTree → Type 0
IsParsed t = (text : List ℕ) × (tokens : List Token) × AreTokens text tokens × service.Spells t tokens

-- the bytes are cut into these words
abbrev pub IsCutInto : List ℕ → List Word → Type 0
IsCutInto bytes ws = (tokens : List Token) × AreTokens bytes tokens × (words tokens ≡ ws)
