use Rattle.std.proofs.Common.{◌≡◌, ◌+◌, ◌*◌, map, length}
use Rattle.mace_ast.specs.Stmts.{stmt_tree}
use Rattle.mace_grammar.specs.Words.{edition_of}
use Rattle.mace_grammar.specs.declared.class.TheConstants.{STMT_STARTS}
use Rattle.mace_grammar.specs.inner.Readers as reader
use Rattle.mace_parser.proofs.Turns.{list_from}
use Rattle.mace_parser.proofs.reader.Reader.+stmt.Given as goal

abbrev pub decreases-stmt : goal.decreases-stmt
decreases-stmt l = 6 * l.self.depth + 0

abbrev pub decreases-stmts : goal.decreases-stmts
decreases-stmts l = 6 * l.self.depth + 1

abbrev pub decreases-block : goal.decreases-block
decreases-block l = 6 * l.self.depth + 2

abbrev pub decreases-maybe_else : goal.decreases-maybe_else
decreases-maybe_else l = 6 * l.self.depth + 3

abbrev pub decreases-if_stmt : goal.decreases-if_stmt
decreases-if_stmt l = 6 * l.self.depth + 4

abbrev pub decreases-while_stmt : goal.decreases-while_stmt
decreases-while_stmt l = 6 * l.self.depth + 4

abbrev pub decreases-for_stmt : goal.decreases-for_stmt
decreases-for_stmt l = 6 * l.self.depth + 4

abbrev pub invariant-stmts-turns : goal.invariant-stmts-turns
invariant-stmts-turns l = list_from (edition_of l.self.version) STMT_STARTS (reader.stmt_at (edition_of l.self.version) l.self.depth) (map stmt_tree l.found.items) l.rest ≡ reader.stmts_in (edition_of l.self.version) (reader.stmt_at (edition_of l.self.version) l.self.depth) l.tokens

abbrev pub decreases-stmts-turns : goal.decreases-stmts-turns
decreases-stmts-turns l = length l.rest
