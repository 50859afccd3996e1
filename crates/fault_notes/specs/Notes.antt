-- What is told of a fault. Want of memory is told elsewhere.
use Rattle.std.specs.Prelude.{ℕ, List, [], ◌∷◌, ◌++◌, codes}
use Rattle.std.specs.Fmt.{decimal}
use Rattle.wave_base.specs.declared.span.Span.{Span}
use Rattle.wave_text.specs.Places.{place_text}
use Rattle.mace_lexer.specs.declared.fault.LexError.{LexError}
use Rattle.mace_lexer.specs.declared.fault.LexError.TheVariants as lex
use Rattle.mace_parser.specs.declared.fault.ParseError.{ParseError}
use Rattle.mace_parser.specs.declared.fault.ParseError.TheVariants as parse
use Rattle.checkpoint_store.specs.declared.error.CheckError.{CheckError}
use Rattle.checkpoint_store.specs.declared.error.CheckError.TheVariants as check
use Rattle.journal_text.specs.declared.error.JournalError.{JournalError}
use Rattle.journal_text.specs.declared.error.JournalError.TheVariants as journal
use Rattle.script_reader.specs.declared.error.ScriptError.{ScriptError}
use Rattle.script_reader.specs.declared.error.ScriptError.TheVariants as script
use Rattle.service_reader.specs.declared.fault.TextFault.{TextFault}
use Rattle.service_reader.specs.declared.fault.TextFault.TheVariants as fault
use Rattle.type_rules.specs.declared.error.TypeError.{TypeError}
use Rattle.type_rules.specs.declared.error.TypeError.TheVariants as wrong

-- what it is, and line:column
abbrev pub note_at : List ℕ → Span → List ℕ
note_at name at = name ++ (32 ∷ place_text at)

abbrev pub lex_note : LexError → List ℕ
lex_note (lex.BadByte at) = note_at (codes "L1 BadByte") at
lex_note (lex.NumberRange at) = note_at (codes "L2 NumberRange") at
lex_note (lex.OpenText at) = note_at (codes "L3 OpenText") at
lex_note (lex.NameLong at) = note_at (codes "L4 NameLong") at
lex_note (lex.TextLong at) = note_at (codes "L5 TextLong") at
lex_note (lex.OutOfMemory _) = []

abbrev pub parse_note : ParseError → List ℕ
parse_note (parse.Expected token at) = note_at (codes "P1 Expected") at
parse_note (parse.TooDeep token at) = note_at (codes "P2 TooDeep") at
parse_note (parse.OutOfMemory _) = []

-- of a text that is no service
abbrev pub text_note : TextFault → List ℕ
text_note fault.TooLarge = codes "TooLarge service"
text_note (fault.Lex e) = lex_note e
text_note (fault.Parse e) = parse_note e
text_note (fault.OutOfMemory _) = []

abbrev pub type_note : TypeError → List ℕ
type_note (wrong.UnknownName at) = note_at (codes "Y1 UnknownName") at
type_note (wrong.Duplicate at) = note_at (codes "Y2 Duplicate") at
type_note (wrong.Mismatch at) = note_at (codes "Y3 Mismatch") at
type_note (wrong.ArgCount at) = note_at (codes "Y4 ArgCount") at
type_note (wrong.NotDownward at) = note_at (codes "Y5 NotDownward") at
type_note (wrong.CalleeLater at) = note_at (codes "Y6 CalleeLater") at
type_note (wrong.MissingReply at) = note_at (codes "Y7 MissingReply") at
type_note (wrong.Limit which at) = note_at (codes "Y8 Limit") at
type_note (wrong.Unreachable at) = note_at (codes "Y10 Unreachable") at
type_note (wrong.OutOfMemory _) = []

-- what it is, and the line of the script, the checkpoint or the journal
abbrev pub on_line : List ℕ → ℕ → List ℕ
on_line name line = name ++ (codes " line " ++ decimal line)

abbrev pub script_note : ScriptError → List ℕ
script_note (script.UnknownCommand line) = on_line (codes "S1 UnknownCommand") line
script_note (script.UnknownEvent line) = on_line (codes "S2 UnknownEvent") line
script_note (script.ArgCount line) = on_line (codes "S3 ArgCount") line
script_note (script.ArgType line) = on_line (codes "S4 ArgType") line
script_note (script.BadPath line) = on_line (codes "S5 BadPath") line
script_note (script.HostRange line) = on_line (codes "S6 HostRange") line
script_note (script.HostsLate line) = on_line (codes "S7 HostsLate") line
script_note (script.TooMany line) = on_line (codes "S8 TooMany") line
script_note (script.PolicyLate line) = on_line (codes "S10 PolicyLate") line
script_note (script.CountRange line) = on_line (codes "S11 CountRange") line
script_note (script.OutOfMemory _) = []

abbrev pub check_note : CheckError → List ℕ
check_note (check.Syntax line) = on_line (codes "K1 Syntax") line
check_note (check.Service line) = on_line (codes "K2 Service") line
check_note (check.Tree line) = on_line (codes "K3 Tree") line
check_note (check.OutOfMemory _) = []

abbrev pub journal_note : JournalError → List ℕ
journal_note (journal.Syntax line) = on_line (codes "J1 Syntax") line
journal_note (journal.OutOfMemory _) = []
