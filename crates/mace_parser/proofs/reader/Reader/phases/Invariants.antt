use Rattle.std.proofs.Common.{◌≡◌, map, length}
use Rattle.mace_lexer.specs.declared.keyword.Keyword.TheVariants as k
use Rattle.mace_ast.specs.Decls.{phase_tree}
use Rattle.mace_grammar.specs.Words.{edition_of}
use Rattle.mace_grammar.specs.inner.Readers as reader
use Rattle.mace_parser.proofs.Turns.{list_from}
use Rattle.mace_parser.proofs.reader.Reader.phases.Given as goal

abbrev pub invariant-turns : goal.invariant-turns
invariant-turns l = list_from (edition_of l.self.version) (reader.if_key k.Down) (reader.down_at (edition_of l.self.version) l.self.depth) (map phase_tree l.found.items) l.rest ≡ reader.phases_at (edition_of l.self.version) l.self.depth l.tokens

abbrev pub decreases-turns : goal.decreases-turns
decreases-turns l = length l.rest
