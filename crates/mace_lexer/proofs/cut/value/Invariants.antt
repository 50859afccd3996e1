use Rattle.std.proofs.Common.{◌≡◌, ◌≤◌, take}
use Rattle.mace_lexer.specs.Words.{value_of}
use Rattle.mace_lexer.proofs.cut.value.Given as goal

abbrev pub invariant-loop-b : goal.invariant-loop-b
invariant-loop-b l = (l.value ≡ value_of (take l.b-index l.digits)) × (l.value ≤ 9223372036854775807)
