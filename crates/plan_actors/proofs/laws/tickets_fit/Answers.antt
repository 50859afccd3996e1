use Rattle.plan_actors.proofs.Meeting.{room}
use Rattle.plan_actors.proofs.laws.tickets_fit.Goals as goal

pub returns : goal.returns
returns c = λ plan start n fits begins. room plan fits start begins n
