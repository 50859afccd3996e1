-- What the parser says of the tokens of a text.
use Rattle.std.specs.Prelude.{◌≡◌, ℕ, ◌⊎◌, List, Result, Ok, Err}
use Rattle.mace_lexer.specs.declared.token.Token.{Token}
use Rattle.mace_ast.specs.declared.service.Service.{Service}
use Rattle.mace_ast.specs.Decls.{ServiceTree, service_tree, SameUpToSpans}
use Rattle.mace_parser.specs.declared.fault.ParseError.{ParseError}
use Rattle.mace_parser.specs.declared.fault.ParseError.TheVariants.{Expected, TooDeep, OutOfMemory}
use Rattle.mace_grammar.specs.Spelled.{words, IsExpected, IsTooDeep, place_in}
use Rattle.wave_base.specs.Memory.{the_refusal}

-- the error tells the first fault, or memory ran out
abbrev pub TellsFault : List ℕ → List Token → ParseError → Type 0
TellsFault text tokens (Expected k at) = IsExpected (words tokens) k × (at ≡ place_in text tokens k)
TellsFault text tokens (TooDeep k at) = IsTooDeep (words tokens) k × (at ≡ place_in text tokens k)
TellsFault text tokens (OutOfMemory _) = Unit {0}

-- the answer is this service up to places, unless memory ran out
abbrev pub AnswersTree : Result Service ParseError → ServiceTree → Type 0
AnswersTree (Ok s) t = SameUpToSpans (service_tree s) t
AnswersTree (Err e) t = e ≡ OutOfMemory the_refusal

-- the answer is this error, unless memory ran out
abbrev pub AnswersFault : Result Service ParseError → ParseError → Type 0
AnswersFault result e = (result ≡ Err (OutOfMemory the_refusal)) ⊎ (result ≡ Err e)
