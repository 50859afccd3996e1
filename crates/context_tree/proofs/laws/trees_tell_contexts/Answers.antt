use Rattle.context_tree.proofs.OrderLemmas.{tree_tells, tree_tells_shots}
use Rattle.context_tree.proofs.laws.trees_tell_contexts.Goals as goal

pub returns-clause-shots : goal.returns-clause-shots
returns-clause-shots c = tree_tells_shots

pub returns-clause-contexts : goal.returns-clause-contexts
returns-clause-contexts c = tree_tells
