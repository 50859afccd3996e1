use Rattle.value_ops.proofs.LawLemmas.{division, remainder_sign, remainder_small}
use Rattle.value_ops.proofs.laws.quotient_and_remainder.Goals as goal

pub returns-clause-whole : goal.returns-clause-whole
returns-clause-whole c = division

pub returns-clause-sign : goal.returns-clause-sign
returns-clause-sign c = remainder_sign

pub returns-clause-small : goal.returns-clause-small
returns-clause-small c = remainder_small
