-- What a text is read as: the tree of a service, or the first of its faults.
use Rattle.std.specs.Prelude.{◌≡◌, ◌≢◌, ◌⊎◌, ℕ, ◌<◌, ◌≤◌, List, length, Result, Ok, Err}
use Rattle.wave_base.specs.declared.limits.TheConstants.{SERVICE_BYTES}
use Rattle.mace_lexer.specs.declared.fault.LexError.{LexError}
use Rattle.mace_lexer.specs.declared.fault.LexError.TheVariants as lex
use Rattle.mace_lexer.specs.declared.token.Token.{Token}
use Rattle.mace_lexer.specs.Lexed as lexed
use Rattle.mace_ast.specs.declared.service.Service.{Service}
use Rattle.mace_ast.specs.Decls.{ServiceTree, service_tree}
use Rattle.mace_grammar.specs.Grammar.{service}
use Rattle.mace_grammar.specs.Nest.{IsShallow}
use Rattle.mace_grammar.specs.Spelled.{words}
use Rattle.mace_parser.specs.declared.fault.ParseError.{ParseError}
use Rattle.mace_parser.specs.declared.fault.ParseError.TheVariants as parse
use Rattle.mace_parser.specs.Parsed as parsed
use Rattle.service_reader.specs.declared.fault.TextFault.{TextFault}
use Rattle.service_reader.specs.declared.fault.TextFault.TheVariants as fault
use Rattle.wave_base.specs.Memory.{the_refusal}

-- a text that isn't too long, its tokens, and the tree that they spell, nested no deeper than it may be
pub record IsService (text : List ℕ) (tree : ServiceTree) : Type 0 where
  pub short : length text ≤ SERVICE_BYTES
  pub tokens : List Token
  pub cut : lexed.AreTokens text tokens
  pub spelled : service.Spells tree tokens
  pub shallow : IsShallow (words tokens)

-- a text that isn't too long, and what keeps it from being cut into tokens
pub record IsLexFault (text : List ℕ) (e : LexError) : Type 0 where
  pub short : length text ≤ SERVICE_BYTES
  pub known : e ≢ lex.OutOfMemory the_refusal
  pub told : lexed.TellsFault text e

-- a text that isn't too long, its tokens, and what keeps them from being a service
pub record IsParseFault (text : List ℕ) (e : ParseError) : Type 0 where
  pub short : length text ≤ SERVICE_BYTES
  pub tokens : List Token
  pub cut : lexed.AreTokens text tokens
  pub known : e ≢ parse.OutOfMemory the_refusal
  pub told : parsed.TellsFault text tokens e

-- the length is judged first, then the tokens, and then the grammar
abbrev pub IsTextFault : List ℕ → TextFault → Type 0
IsTextFault text fault.TooLarge = SERVICE_BYTES < length text
IsTextFault text (fault.Lex e) = IsLexFault text e
IsTextFault text (fault.Parse e) = IsParseFault text e
IsTextFault text (fault.OutOfMemory _) = ⊥

abbrev pub Parses : List ℕ → Result ServiceTree TextFault → Type 0
Parses text (Ok tree) = IsService text tree
Parses text (Err e) = IsTextFault text e

-- what was read, as a tree
abbrev pub tree_read : Result Service TextFault → Result ServiceTree TextFault
tree_read (Ok s) = Ok (service_tree s)
tree_read (Err e) = Err e

-- memory ran out, or this is what it is, and nothing else is
pub record IsOnlyParse (text : List ℕ) (result : Result ServiceTree TextFault) : Type 0 where
  pub is_so : Parses text result
  pub only : (other : Result ServiceTree TextFault) → Parses text other → other ≡ result

abbrev pub Answers : List ℕ → Result ServiceTree TextFault → Type 0
Answers text result = (result ≡ Err (fault.OutOfMemory the_refusal)) ⊎ IsOnlyParse text result
