use Rattle.wave_meaning.specs.Meaning.{call_ran}
use Rattle.code_runner.specs.Coded.{IsTree, IsJob}
use Rattle.code_meaning.specs.inner.Owing.{code_owes}
use Rattle.fold_laws.proofs.Cutting.{comes, cut, more_comes}
use Rattle.code_meaning.proofs.Cutting.{keeps}
use Rattle.code_meaning.proofs.plans.scripts_are_cut.Goals as goal

pub returns-clause-first : goal.returns-clause-first
returns-clause-first c = λ service program start a code s b few. comes program.shape (call_ran service) (IsTree program.shape) (IsJob program) (code_owes service program code) (keeps service program code) start a s b few

pub returns-clause-cut : goal.returns-clause-cut
returns-clause-cut c = λ service program start a b code known s hosts. cut program.shape (call_ran service) (IsTree program.shape) (IsJob program) (code_owes service program code) (keeps service program code) start a b known s hosts

pub returns-clause-more : goal.returns-clause-more
returns-clause-more c = λ service program start a b code known s hosts few. more_comes program.shape (call_ran service) (IsTree program.shape) (IsJob program) (code_owes service program code) (keeps service program code) start a b known s hosts few
