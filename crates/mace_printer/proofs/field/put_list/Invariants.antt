use Rattle.std.proofs.Common.{◌≡◌, ◌++◌, take}
use Rattle.mace_printer.specs.Canon.{listed_words, param_words}
use Rattle.mace_printer.specs.Layout.{layout}
use Rattle.mace_printer.proofs.field.put_list.Given as goal

abbrev pub invariant-loop-i : goal.invariant-loop-i
invariant-loop-i l = l.out.items ≡ l.fn.out.items ++ layout (listed_words param_words (take l.i l.params))
