-- What the answers of parser and lexer say of going on.
use Rattle.std.specs.Prelude.{ℕ, Bool, true, false, ◌==◌, Result, Ok, Err}
use Rattle.wave_base.specs.declared.memory.OutOfMemory.{OutOfMemory}
use Rattle.mace_lexer.specs.declared.fault.LexError.{LexError}
use Rattle.mace_lexer.specs.declared.fault.LexError.TheVariants as lex
use Rattle.mace_ast.specs.declared.service.Service.{Service}
use Rattle.mace_parser.specs.declared.fault.ParseError.{ParseError}
use Rattle.mace_parser.specs.declared.fault.ParseError.TheVariants.{Expected, TooDeep, OutOfMemory as parse_refused}

-- a service goes on, and so does what lacks something behind all of its words
abbrev pub of_parser : Result Service ParseError → ℕ → Result Bool OutOfMemory
of_parser (Ok s) count = Ok true
of_parser (Err (Expected token at)) count = Ok (token == count)
of_parser (Err (TooDeep token at)) count = Ok false
of_parser (Err (parse_refused refused)) count = Err refused

abbrev pub of_lexer : LexError → Result Bool OutOfMemory
of_lexer (lex.OutOfMemory refused) = Err refused
of_lexer _ = Ok false
