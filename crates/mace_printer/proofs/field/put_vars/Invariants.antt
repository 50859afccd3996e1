use Rattle.std.proofs.Common.{◌≡◌, ◌++◌, take}
use Rattle.mace_printer.specs.Canon.{all_of, var_words}
use Rattle.mace_printer.specs.Layout.{layout}
use Rattle.mace_printer.proofs.field.put_vars.Given as goal

abbrev pub invariant-loop-var : goal.invariant-loop-var
invariant-loop-var l = l.out.items ≡ l.fn.out.items ++ layout (all_of var_words (take l.var-index l.vars))
