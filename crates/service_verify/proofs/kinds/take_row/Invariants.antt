use Rattle.std.proofs.Common.{◌≡◌, ◌-◌, length, take}
use Rattle.service_verify.specs.inner.Asks.{row_operands}
use Rattle.service_verify.specs.Rules.{left_below}
use Rattle.service_verify.proofs.kinds.take_row.Given as goal

-- what is left to take leads to the same
abbrev pub invariant-loop-i : goal.invariant-loop-i
invariant-loop-i l = left_below (row_operands l.takes) l.initial.stack ≡ left_below (row_operands (take (length l.takes - l.i) l.takes)) l.stack
