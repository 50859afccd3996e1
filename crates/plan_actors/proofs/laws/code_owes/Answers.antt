use Rattle.plan_actors.proofs.Coded.{code_owes}
use Rattle.plan_actors.proofs.laws.code_owes.Goals as goal

pub returns : goal.returns
returns c = λ program fit verified. code_owes program fit verified
