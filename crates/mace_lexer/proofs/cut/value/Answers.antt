use Rattle.std.proofs.Common.{arith}
use Rattle.mace_lexer.proofs.Values.{value_over}
use Rattle.mace_lexer.proofs.cut.value.Goals as goal

pub returns-then-value-digit-clause-none : goal.returns-then-value-digit-clause-none
returns-then-value-digit-clause-none c = value_over c.args.digits.now c.loop-b.b-index _ c.loop-b-test.true (omega (arith, c.loop-b.invariant.0, c.from-digit.ensures))
