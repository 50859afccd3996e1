use Rattle.std.proofs.Common.{◌≡◌, ◌+◌, ◌*◌, ◌++◌, map, take}
use Rattle.mace_ast.specs.Exprs.{expr_tree}
use Rattle.mace_printer.specs.Canon.{listed_words, whole_words}
use Rattle.mace_printer.specs.Layout.{layout}
use Rattle.mace_printer.proofs.expr.+expr.Given as goal

abbrev pub decreases-put_expr : goal.decreases-put_expr
decreases-put_expr l = 4 * goal.size-put_expr l

abbrev pub decreases-put_index : goal.decreases-put_index
decreases-put_index l = 4 * goal.size-put_index l + 1

abbrev pub decreases-put_indexed : goal.decreases-put_indexed
decreases-put_indexed l = 4 * goal.size-put_indexed l + 2

abbrev pub decreases-put_above_indexed : goal.decreases-put_above_indexed
decreases-put_above_indexed l = 4 * goal.size-put_above_indexed l + 2

abbrev pub decreases-put_call : goal.decreases-put_call
decreases-put_call l = 4 * goal.size-put_call l + 2

abbrev pub decreases-put_child_key : goal.decreases-put_child_key
decreases-put_child_key l = 4 * goal.size-put_child_key l + 2

abbrev pub decreases-put_unary : goal.decreases-put_unary
decreases-put_unary l = 4 * goal.size-put_unary l + 1

abbrev pub decreases-put_left : goal.decreases-put_left
decreases-put_left l = 4 * goal.size-put_left l + 1

abbrev pub decreases-put_right : goal.decreases-put_right
decreases-put_right l = 4 * goal.size-put_right l + 1

abbrev pub decreases-put_args : goal.decreases-put_args
decreases-put_args l = 4 * goal.size-put_args l + 1

abbrev pub invariant-put_args-loop-i : goal.invariant-put_args-loop-i
invariant-put_args-loop-i l = l.out.items ≡ l.fn.out.items ++ layout (listed_words whole_words (map expr_tree (take l.i l.args)))
