-- How many classes and methods the contexts of a service make.
use Rattle.std.proofs.Common.{◌≡◌, ◌+◌, ℕ, List, ◌∷◌, [], ◌++◌, length, map, refl, ◌∙◌, arith}
use Rattle.std.proofs.lemmas.List.{length-append, length-map}
use Rattle.mace_ast.specs.Counts.{class_count, classes_count, method_count, methods_count}
use Rattle.mace_ast.specs.Decls.{ContextTree, ContextTrees, Context, no_contexts, context_and}
use Rattle.type_rules.specs.Known.{classes_of, classes_in, methods_of, methods_in, signature}

mutual
  pub length-classes_of : (above : List ℕ) (parent n : ℕ) (c : ContextTree) → length (classes_of above parent n c) ≡ class_count c
  length-classes_of above parent n (Context at name vars contexts methods) = let e = length-classes_in (above ++ n ∷ []) n (n + 1) contexts in omega arith

  pub length-classes_in : (above : List ℕ) (parent n : ℕ) (cs : ContextTrees) → length (classes_in above parent n cs) ≡ classes_count cs
  length-classes_in above parent n no_contexts = refl
  length-classes_in above parent n (context_and c cs) =
      length-append (classes_of above parent n c) (classes_in above parent (n + class_count c) cs)
      ∙ (λ i. length-classes_of above parent n c i + length-classes_in above parent (n + class_count c) cs i)

mutual
  pub length-methods_of : (n : ℕ) (c : ContextTree) → length (methods_of n c) ≡ method_count c
  length-methods_of n (Context at name vars contexts methods) =
      length-append (methods_in (n + 1) contexts) (map (signature n) methods) ∙ (λ i. length-methods_in (n + 1) contexts i + length-map methods (signature n) i)

  pub length-methods_in : (n : ℕ) (cs : ContextTrees) → length (methods_in n cs) ≡ methods_count cs
  length-methods_in n no_contexts = refl
  length-methods_in n (context_and c cs) =
      length-append (methods_of n c) (methods_in (n + class_count c) cs) ∙ (λ i. length-methods_of n c i + length-methods_in (n + class_count c) cs i)
