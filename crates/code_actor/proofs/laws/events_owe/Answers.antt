use Rattle.code_actor.proofs.Whole.{owes}
use Rattle.code_actor.proofs.laws.events_owe.Goals as goal

pub returns : goal.returns
returns c = λ program hosts fit verified. owes program fit verified hosts
