-- How many words the declarations of a service take at least.
use Rattle.std.proofs.Common.{◌≡◌, ◌≤◌, ◌+◌, ◌*◌, ℕ, List, [], ◌∷◌, length, ap, arith, length-append}
use Rattle.mace_lexer.specs.declared.token.Word.{Word}
use Rattle.mace_ast.specs.Decls.{MethodTree, EventTree, ContextTree, ContextTrees, Context, no_contexts, context_and, contexts_of, ServiceTree}
use Rattle.mace_ast.specs.Counts.{class_count, classes_count, method_count, methods_count}
use Rattle.mace_grammar.specs.Spelled.{Spelled}
use Rattle.mace_printer.specs.Canon as c
use Rattle.mace_printer.proofs.LeastExprs.{closed}
use Rattle.mace_printer.proofs.Least.{contexts_same}
use Rattle.mace_printer.proofs.Shortest.{shortest}

module _ {X : Type 0} (words : X → List Word) (six : (x : X) → 6 ≤ length (words x)) where
  all_take : (xs : List X) → 6 * length xs ≤ length (c.all_of words xs)
  all_take [] = omega arith
  all_take (x ∷ xs) = omega (arith, six x, all_take xs, length-append (words x) (c.all_of words xs))

method_takes : (m : MethodTree) → 6 ≤ length (c.method_words m)
method_takes m = omega (arith, closed, length-append {A = Word})

event_takes : (v : EventTree) → 6 ≤ length (c.event_words v)
event_takes v = omega (arith, closed, length-append {A = Word})

mutual
  context_takes : (x : ContextTree) → 7 * class_count x + 6 * method_count x ≤ length (c.context_words x)
  context_takes (Context at x vars inner methods) = omega (arith, contexts_take inner, all_take c.method_words method_takes methods, length-append {A = Word})

  contexts_take : (xs : ContextTrees) → 7 * classes_count xs + 6 * methods_count xs ≤ length (c.contexts_words xs)
  contexts_take no_contexts = omega arith
  contexts_take (context_and x xs) = omega (arith, context_takes x, contexts_take xs, length-append (c.context_words x) (c.contexts_words xs))

service_takes : (t : ServiceTree) → 7 * classes_count (contexts_of t.contexts) + 6 * (methods_count (contexts_of t.contexts) + length t.methods + length t.events) + 4 ≤ length (c.service_words t)
unfolding c.service_words
service_takes t = omega (arith, contexts_take (contexts_of t.contexts), ap length (contexts_same t.contexts), all_take c.method_words method_takes t.methods, all_take c.event_words event_takes t.events, length-append {A = Word})

pub declarations_take : (t : ServiceTree) (ws : List Word) → Spelled t ws → 7 * classes_count (contexts_of t.contexts) + 6 * (methods_count (contexts_of t.contexts) + length t.methods + length t.events) + 4 ≤ length ws
declarations_take t ws h = omega (arith, service_takes t, shortest t ws h)
