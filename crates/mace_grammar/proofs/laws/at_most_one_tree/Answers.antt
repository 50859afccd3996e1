use Rattle.mace_grammar.proofs.Judge.{one_tree}
use Rattle.mace_grammar.proofs.laws.at_most_one_tree.Goals as goal

pub returns : goal.returns
returns c = one_tree
