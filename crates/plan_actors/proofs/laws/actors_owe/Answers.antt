use Rattle.plan_actors.proofs.Owing.{owes}
use Rattle.plan_actors.proofs.laws.actors_owe.Goals as goal

pub returns : goal.returns
returns c = λ program hosts fit verified. owes program fit verified hosts
