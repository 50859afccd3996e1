use Rattle.code_actor.specs.CodeActors.{IsJob}
use Rattle.plan_actors.specs.Calls.{code_ran, IsTree}
use Rattle.plan_actors.proofs.Coded.{code_owes}
use Rattle.fold_laws.proofs.Growing.{stays_few}
use Rattle.fold_laws.proofs.Touring.{code_grows}
use Rattle.fold_laws.proofs.laws.plans_stay_few.Goals as goal

pub returns : goal.returns
returns c =
    λ plan start fits begins.
    stays_few plan.program.shape (code_ran plan.program) (IsTree plan.program) (IsJob plan.program) (code_owes plan.program fits.fit fits.verified) (λ t call is job. code_grows plan.program call t) start plan.script fits.script begins
