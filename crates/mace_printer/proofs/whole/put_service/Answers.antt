use Rattle.std.proofs.Common.{ap, map}
use Rattle.mace_ast.specs.Decls.{context_tree, method_tree, event_tree}
use Rattle.mace_printer.specs.Canon.{all_of, var_words, context_words, method_words, event_words, service_words}
use Rattle.mace_printer.proofs.Wrote.{next, same_words}
use Rattle.mace_printer.proofs.whole.put_service.Goals as goal

pub returns : goal.returns
unfolding service_words
returns c = next _ _ _ _ _ c.in_ok-put_key.ensures (next _ _ _ _ _ c.in_ok-put_name.ensures (next _ _ _ _ _ c.in_ok-put_version.ensures (next _ _ _ _ _ c.in_ok-put_sign.ensures (next _ _ _ _ _ (same_words _ (ap (all_of var_words) c.as_slice.ensures) c.in_ok-put_vars.ensures) (next _ _ _ _ _ (same_words _ (ap (λ l. all_of context_words (map context_tree l)) c.as_slice-2.ensures) c.in_ok-put_contexts.ensures) (next _ _ _ _ _ (same_words _ (ap (λ l. all_of method_words (map method_tree l)) c.as_slice-3.ensures) c.in_ok-put_methods.ensures) (next _ _ _ _ _ (same_words _ (ap (λ l. all_of event_words (map event_tree l)) c.as_slice-4.ensures) c.in_ok-put_events.ensures) c.put_sign-2.ensures)))))))
