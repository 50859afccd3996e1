use Rattle.value_laws.proofs.Calls.{calls_bounded}
use Rattle.value_laws.proofs.Scripts.{first_bounded, script_bounded}
use Rattle.value_laws.proofs.laws.scripts_are_bounded.Goals as goal

pub returns-clause-all : goal.returns-clause-all
returns-clause-all c = λ shape service bounded says start script begins lines. script_bounded service (calls_bounded service says) shape bounded start begins script lines

pub returns-clause-first : goal.returns-clause-first
returns-clause-first c = first_bounded
