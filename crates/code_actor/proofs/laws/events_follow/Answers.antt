use Rattle.code_actor.proofs.Following.{followed, all_walked}
use Rattle.code_actor.proofs.laws.events_follow.Goals as goal

pub returns : goal.returns
returns c = λ program call ticket tree fit verified is_job has n. followed program fit verified _ _ (all_walked program fit verified call ticket tree is_job has n)
