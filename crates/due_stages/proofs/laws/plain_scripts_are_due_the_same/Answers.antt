use Rattle.due_stages.proofs.PlainLemmas.{due_same, plain_read}
use Rattle.due_stages.proofs.laws.plain_scripts_are_due_the_same.Goals as goal

pub returns-clause-same : goal.returns-clause-same
returns-clause-same c = λ places bytes due free. due_same c.plain_scripts_expand_to_themselves.ensures.same places bytes due free

pub returns-clause-plain : goal.returns-clause-plain
returns-clause-plain c = λ shape text script so. plain_read shape text script so
