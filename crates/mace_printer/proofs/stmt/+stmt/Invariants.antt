use Rattle.std.proofs.Common.{◌≡◌, ◌+◌, ◌*◌, ◌++◌, map, take}
use Rattle.mace_ast.specs.Stmts.{stmt_tree}
use Rattle.mace_printer.specs.Canon.{all_of, stmt_words}
use Rattle.mace_printer.specs.Layout.{layout}
use Rattle.mace_printer.proofs.stmt.+stmt.Given as goal

abbrev pub decreases-put_stmt : goal.decreases-put_stmt
decreases-put_stmt l = 8 * goal.size-put_stmt l + 0

abbrev pub decreases-put_stmts : goal.decreases-put_stmts
decreases-put_stmts l = 8 * goal.size-put_stmts l + 1

abbrev pub decreases-put_block : goal.decreases-put_block
decreases-put_block l = 8 * goal.size-put_block l + 2

abbrev pub decreases-put_else : goal.decreases-put_else
decreases-put_else l = 8 * goal.size-put_else l + 3

abbrev pub invariant-put_stmts-loop-stmt : goal.invariant-put_stmts-loop-stmt
invariant-put_stmts-loop-stmt l = l.out.items ≡ l.fn.out.items ++ layout (all_of stmt_words (map stmt_tree (take l.stmt-index l.stmts)))
