use Rattle.script_fold.proofs.LeftLemmas.{most_lines}
use Rattle.fold_laws.proofs.Growing.{most_lines_add}
use Rattle.fold_laws.proofs.laws.lines_are_few.Goals as goal

pub returns-clause-jobs : goal.returns-clause-jobs
returns-clause-jobs c = most_lines

pub returns-clause-contexts : goal.returns-clause-contexts
returns-clause-contexts c = most_lines_add
