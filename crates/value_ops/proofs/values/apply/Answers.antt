use Rattle.value_ops.proofs.AnswerLemmas.{exactly_traps}
use Rattle.value_ops.proofs.values.apply.Goals as goal

pub returns-clause-trap : goal.returns-clause-trap
returns-clause-trap c = exactly_traps _ _ c.apply_by_kinds.ensures
