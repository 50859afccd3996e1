use Rattle.std.proofs.Common.{◌≡◌, ◌++◌, map, take}
use Rattle.mace_ast.specs.Decls.{method_tree}
use Rattle.mace_printer.specs.Canon.{all_of, method_words}
use Rattle.mace_printer.specs.Layout.{layout}
use Rattle.mace_printer.proofs.member.put_methods.Given as goal

abbrev pub invariant-loop-method : goal.invariant-loop-method
invariant-loop-method l = l.out.items ≡ l.fn.out.items ++ layout (all_of method_words (map method_tree (take l.method-index l.methods)))
