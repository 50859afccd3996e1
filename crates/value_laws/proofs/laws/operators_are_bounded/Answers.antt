use Rattle.std.proofs.Common.{subst}
use Rattle.value_laws.proofs.Rows.{IsGiven, row_given}
use Rattle.value_laws.proofs.laws.operators_are_bounded.Goals as goal

pub returns : goal.returns
returns c = λ row operands given values is. subst IsGiven is (row_given row operands values)
