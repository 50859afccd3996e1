use Rattle.wave_meaning.specs.Meaning.{call_ran}
use Rattle.code_runner.specs.Coded.{IsTree, IsJob}
use Rattle.code_meaning.specs.inner.Owing.{code_owes}
use Rattle.fold_laws.proofs.Cutting.{more_few}
use Rattle.fold_laws.proofs.Growing.{stays_few}
use Rattle.code_meaning.proofs.Cutting.{grows, keeps}
use Rattle.code_meaning.proofs.plans.scripts_stay_few.Goals as goal

pub returns-clause-one : goal.returns-clause-one
returns-clause-one c = λ service program start a code s b. stays_few program.shape (call_ran service) (IsTree program.shape) (IsJob program) (code_owes service program code) (grows service program code) start a s b

pub returns-clause-both : goal.returns-clause-both
returns-clause-both c = λ service program start a b code known s hosts few. more_few program.shape (call_ran service) (IsTree program.shape) (IsJob program) (code_owes service program code) (keeps service program code) start a b known s hosts (grows service program code) few
