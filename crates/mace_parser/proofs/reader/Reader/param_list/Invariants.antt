use Rattle.std.proofs.Common.{◌≡◌, length}
use Rattle.mace_lexer.specs.declared.sign.Sign.TheVariants as sign
use Rattle.mace_grammar.specs.Words.{edition_of}
use Rattle.mace_grammar.specs.inner.Readers as reader
use Rattle.mace_parser.proofs.Turns.{list_from}
use Rattle.mace_parser.proofs.reader.Reader.param_list.Given as goal

abbrev pub invariant-turns : goal.invariant-turns
invariant-turns l = list_from (edition_of l.self.version) (reader.if_sign sign.Comma) (reader.next_at (edition_of l.self.version) (reader.param_at (edition_of l.self.version))) (l.found.items) l.rest ≡ reader.list_at (edition_of l.self.version) (reader.param_at (edition_of l.self.version)) l.tokens

abbrev pub decreases-turns : goal.decreases-turns
decreases-turns l = length l.rest
