use Rattle.code_actor.proofs.Locking.{tour_locks}
use Rattle.code_actor.proofs.laws.events_lock.Goals as goal

pub returns : goal.returns
returns c = λ program call tree fit verified is_job has n running. tour_locks program fit verified call tree is_job has n running
