use Rattle.std.proofs.Common.{◌≡◌, ◌+◌, ◌*◌, ◌++◌, map, take}
use Rattle.mace_ast.specs.Decls.{context_tree}
use Rattle.mace_printer.specs.Canon.{all_of, context_words}
use Rattle.mace_printer.specs.Layout.{layout}
use Rattle.mace_printer.proofs.whole.+context.Given as goal

abbrev pub decreases-put_context : goal.decreases-put_context
decreases-put_context l = 2 * goal.size-put_context l

abbrev pub decreases-put_contexts : goal.decreases-put_contexts
decreases-put_contexts l = 2 * goal.size-put_contexts l + 1

abbrev pub invariant-put_contexts-loop-context : goal.invariant-put_contexts-loop-context
invariant-put_contexts-loop-context l = l.out.items ≡ l.fn.out.items ++ layout (all_of context_words (map context_tree (take l.context-index l.contexts)))
