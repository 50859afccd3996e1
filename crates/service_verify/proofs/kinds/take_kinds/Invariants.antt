use Rattle.std.proofs.Common.{◌≡◌, ◌-◌, length, take}
use Rattle.service_verify.specs.Rules.{operands, left_below}
use Rattle.service_verify.proofs.kinds.take_kinds.Given as goal

-- what is left to take leads to the same
abbrev pub invariant-loop-i : goal.invariant-loop-i
invariant-loop-i l = left_below (operands l.kinds) l.initial.stack ≡ left_below (operands (take (length l.kinds - l.i) l.kinds)) l.stack
