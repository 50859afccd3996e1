use Rattle.plan_actors.proofs.Efforts.{work_same, whole_tickets, whole_entered}
use Rattle.plan_actors.proofs.laws.work_is.Goals as goal

pub returns-clause-same : goal.returns-clause-same
returns-clause-same c = λ plan start n fits begins. work_same plan fits start begins n

pub returns-clause-tickets : goal.returns-clause-tickets
returns-clause-tickets c = λ plan start. whole_tickets plan start

pub returns-clause-entered : goal.returns-clause-entered
returns-clause-entered c = λ plan start. whole_entered plan start
