use Rattle.std.proofs.Common.{◌≡◌, ◌++◌, map, take}
use Rattle.mace_ast.specs.Decls.{phase_tree}
use Rattle.mace_printer.specs.Canon.{all_of, phase_words}
use Rattle.mace_printer.specs.Layout.{layout}
use Rattle.mace_printer.proofs.member.put_phases.Given as goal

abbrev pub invariant-loop-phase : goal.invariant-loop-phase
invariant-loop-phase l = l.out.items ≡ l.fn.out.items ++ layout (all_of phase_words (map phase_tree (take l.phase-index l.phases)))
