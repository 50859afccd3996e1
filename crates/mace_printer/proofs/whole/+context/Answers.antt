use Rattle.std.proofs.Common.{ap, map, sym, arith, ◌∙◌}
use Rattle.mace_ast.specs.declared.context.ContextDecl.{out-ContextDecl}
use Rattle.mace_ast.specs.Decls.{context_tree, method_tree}
use Rattle.mace_printer.specs.Canon.{all_of, var_words, context_words, method_words}
use Rattle.mace_printer.proofs.Wrote.{next, same_next, same_words, nothing, all_of_turn, all_of_end}
use Rattle.mace_printer.proofs.Arms.{context_node, context_arm}
use Rattle.mace_printer.proofs.whole.+context.Goals as goal

pub put_context-returns : goal.put_context-returns
put_context-returns t c =
    let x = out-ContextDecl c.args.context.now in
    same_next _ _ _ (context_arm x.at x.name x.vars (map context_tree x.contexts.items) (map method_tree x.methods) ∙ ap context_words (sym (context_node c.args.context.now)))
    (next _ _ _ _ _ c.in_ok-put_head.ensures (next _ _ _ _ _ (same_words _ (ap (all_of var_words) c.as_slice.ensures) c.in_ok-put_vars.ensures) (next _ _ _ _ _ (same_words _ (ap (λ l. all_of context_words (map context_tree l)) c.deref.ensures.value) c.in_ok-put_contexts.ensures) (next _ _ _ _ _ (same_words _ (ap (λ l. all_of method_words (map method_tree l)) c.as_slice-2.ensures) c.in_ok-put_methods.ensures) c.put_sign.ensures))))

pub put_contexts-loop-context-init : goal.put_contexts-loop-context-init
put_contexts-loop-context-init t c = nothing _

pub put_contexts-loop-context-preserved : goal.put_contexts-loop-context-preserved
put_contexts-loop-context-preserved t c = all_of_turn context_words context_tree _ c.args.contexts.now c.loop-context.context-index c.context-item.result c.loop-context-test.true c.context-item.is c.loop-context.invariant c.in_ok-put_context.ensures

pub put_contexts-returns : goal.put_contexts-returns
put_contexts-returns t c = all_of_end context_words context_tree _ c.args.contexts.now c.loop-context.context-index (omega arith) c.loop-context.invariant
