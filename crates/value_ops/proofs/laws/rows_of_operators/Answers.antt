use Rattle.value_ops.proofs.LawLemmas.{row_at, row_at_2}
use Rattle.value_ops.proofs.laws.rows_of_operators.Goals as goal

pub returns-clause-first : goal.returns-clause-first
returns-clause-first c = row_at

pub returns-clause-second : goal.returns-clause-second
returns-clause-second c = row_at_2
