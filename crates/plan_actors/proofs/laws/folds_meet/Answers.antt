use Rattle.plan_actors.proofs.Meeting.{folds_meet, places_meet, one_before}
use Rattle.plan_actors.proofs.laws.folds_meet.Goals as goal

pub returns-clause-fold : goal.returns-clause-fold
returns-clause-fold c = λ plan start n fits begins. folds_meet plan fits start begins n

pub returns-clause-first : goal.returns-clause-first
returns-clause-first c = λ plan start begins. one_before start.next.0 begins.first_next

pub returns-clause-places : goal.returns-clause-places
returns-clause-places c = λ plan start n fits begins. places_meet plan fits start begins n
