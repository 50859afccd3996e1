-- What the fault of a part is told as: want of memory is told as such, whichever part it was wanting in.
use Rattle.std.specs.Prelude.{}
use Rattle.mace_lexer.specs.declared.fault.LexError.{LexError}
use Rattle.mace_lexer.specs.declared.fault.LexError.TheVariants as lex
use Rattle.mace_parser.specs.declared.fault.ParseError.{ParseError}
use Rattle.mace_parser.specs.declared.fault.ParseError.TheVariants as parse
use Rattle.service_reader.specs.declared.fault.TextFault.{TextFault}
use Rattle.service_reader.specs.declared.fault.TextFault.TheVariants as fault

abbrev pub of_lexer : LexError → TextFault
of_lexer (lex.OutOfMemory refused) = fault.OutOfMemory refused
of_lexer e = fault.Lex e

abbrev pub of_parser : ParseError → TextFault
of_parser (parse.OutOfMemory refused) = fault.OutOfMemory refused
of_parser e = fault.Parse e
