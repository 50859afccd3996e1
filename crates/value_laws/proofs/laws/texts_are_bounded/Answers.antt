use Rattle.value_laws.proofs.Lines.{lines_bounded}
use Rattle.value_laws.proofs.Read.{read_bounded}
use Rattle.value_laws.proofs.laws.texts_are_bounded.Goals as goal

pub returns-clause-services : goal.returns-clause-services
returns-clause-services c = read_bounded

pub returns-clause-scripts : goal.returns-clause-scripts
returns-clause-scripts c = lines_bounded
