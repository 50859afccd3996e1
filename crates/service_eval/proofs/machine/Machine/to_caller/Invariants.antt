use Rattle.std.proofs.Common.{◌≡◌, List, length}
use Rattle.wave_base.specs.declared.value.Value.{Value}
use Rattle.wave_base.specs.Tree.{Tree}
use Rattle.service_eval.specs.declared.machine.Machine.{Machine}
use Rattle.service_eval.specs.inner.Items.{to_return}
use Rattle.service_eval.specs.inner.Machines.{items_of, mach_of}
use Rattle.service_eval.proofs.machine.Machine.to_caller.Given as goal

-- what is left out so far stands before the next return, and nothing else is changed
pub record LeftOut (before after : Machine) : Type 0 where
  pub return : to_return (items_of before) ≡ to_return (items_of after)
  pub rest : (tree : Tree (List Value)) → mach_of tree after ≡ record (mach_of tree before) { items = items_of after }

abbrev pub invariant-loop-work : goal.invariant-loop-work
invariant-loop-work l = LeftOut l.initial.self l.self

abbrev pub decreases-loop-work : goal.decreases-loop-work
decreases-loop-work l = length (items_of l.self)
