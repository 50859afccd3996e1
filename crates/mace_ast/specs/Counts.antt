-- How many declarations a service has, and how many it may have where it is checked and compiled.
use Rattle.std.specs.Prelude.{ℕ, ◌+◌, ◌<◌, ◌^◌, length}
use Rattle.mace_ast.specs.Decls.{ContextTree, Context, ContextTrees, no_contexts, context_and, contexts_of, ServiceTree}

abbrev mutual
  -- how many classes a context makes, itself and those inside it
  pub class_count : ContextTree → ℕ
  class_count (Context at name vars contexts methods) = 1 + classes_count contexts

  pub classes_count : ContextTrees → ℕ
  classes_count no_contexts = 0
  classes_count (context_and c cs) = class_count c + classes_count cs

abbrev mutual
  -- how many methods a context has, those of the contexts inside it among them
  pub method_count : ContextTree → ℕ
  method_count (Context at name vars contexts methods) = methods_count contexts + length methods

  pub methods_count : ContextTrees → ℕ
  methods_count no_contexts = 0
  methods_count (context_and c cs) = method_count c + methods_count cs

-- fewer classes than 65,536, and fewer methods and events together
pub record IsFew (s : ServiceTree) : Type 0 where
  pub classes : 1 + classes_count (contexts_of s.contexts) < 2 ^ 16
  pub functions : methods_count (contexts_of s.contexts) + length s.methods + length s.events < 2 ^ 16
