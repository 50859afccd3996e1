use Rattle.plan_actors.proofs.Meeting.{whole_meets, none_after}
use Rattle.plan_actors.proofs.laws.folds_end.Goals as goal

pub returns-clause-most : goal.returns-clause-most
returns-clause-most c = λ plan start fits begins. none_after plan fits start begins

pub returns-clause-whole : goal.returns-clause-whole
returns-clause-whole c = λ plan start n fits begins e. whole_meets plan fits start begins n e
