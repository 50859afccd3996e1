use Rattle.std.proofs.Common.{◌≡◌, ◌+◌, ◌*◌, map, length}
use Rattle.mace_lexer.specs.declared.keyword.Keyword.TheVariants as k
use Rattle.mace_ast.specs.Decls.{context_tree}
use Rattle.mace_grammar.specs.Words.{edition_of}
use Rattle.mace_grammar.specs.inner.Readers as reader
use Rattle.mace_parser.proofs.Turns.{list_from}
use Rattle.mace_parser.proofs.reader.Reader.+context.Given as goal

abbrev pub decreases-context : goal.decreases-context
decreases-context l = 2 * l.self.depth

abbrev pub decreases-contexts : goal.decreases-contexts
decreases-contexts l = 2 * l.self.depth + 1

abbrev pub invariant-contexts-turns : goal.invariant-contexts-turns
invariant-contexts-turns l = list_from (edition_of l.self.version) (reader.if_key k.Context) (reader.context_at (edition_of l.self.version) l.self.depth) (map context_tree l.found.items) l.rest ≡ reader.contexts_in (edition_of l.self.version) (reader.context_at (edition_of l.self.version) l.self.depth) l.tokens

abbrev pub decreases-contexts-turns : goal.decreases-contexts-turns
decreases-contexts-turns l = length l.rest
