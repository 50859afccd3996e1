use Rattle.std.proofs.Common.{refl}
use Rattle.value_ops.specs.Operators.{apply_row, operators}
use Rattle.value_ops.proofs.RowLemmas.{flags_rows}
use Rattle.value_ops.proofs.values.compare_flags.Goals as goal

pub returns-then-row-eq-BEQ : goal.returns-then-row-eq-BEQ
unfolding apply_row operators
returns-then-row-eq-BEQ c = rw c.if-row-eq-BEQ.true refl

pub returns-else-row-eq-BEQ : goal.returns-else-row-eq-BEQ
unfolding apply_row operators
returns-else-row-eq-BEQ c = rw (flags_rows c.args.row c.requires c.if-row-eq-BEQ.false) refl
