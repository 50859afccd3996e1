use Rattle.value_ops.specs.Rows.{is_builtin}
use Rattle.value_ops.proofs.FindLemmas.{NoneBelow}
use Rattle.value_ops.proofs.table.find.Given as goal

abbrev pub invariant-loop-i : goal.invariant-loop-i
invariant-loop-i g l = NoneBelow (is_builtin l.name) l.table l.i
