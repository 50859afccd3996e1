use Rattle.plan_actors.proofs.Meeting.{plan_fits, begin_fits}
use Rattle.plan_actors.proofs.laws.plans_begin.Goals as goal

pub returns : goal.returns
returns c = λ plan start fits begins. (plan_fits plan fits, begin_fits plan fits start begins)
