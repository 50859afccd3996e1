use Rattle.context_tree.proofs.FitLemmas.{first_fits, enter_fits, set_fits}
use Rattle.context_tree.proofs.laws.trees_that_fit.Goals as goal

pub returns-clause-first : goal.returns-clause-first
returns-clause-first c = first_fits

pub returns-clause-entered : goal.returns-clause-entered
returns-clause-entered c = λ shape t p is fits of_shape parent. enter_fits shape is t p fits of_shape parent

pub returns-clause-set : goal.returns-clause-set
returns-clause-set c = set_fits
