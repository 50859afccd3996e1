use Rattle.fold_laws.proofs.Growing.{script_jobs, script_contexts, script_saved}
use Rattle.fold_laws.proofs.laws.scripts_are_few.Goals as goal

pub returns-clause-jobs : goal.returns-clause-jobs
returns-clause-jobs c = script_jobs

pub returns-clause-contexts : goal.returns-clause-contexts
returns-clause-contexts c = script_contexts

pub returns-clause-saved : goal.returns-clause-saved
returns-clause-saved c = λ shape script f is few. script_saved shape script is f few
