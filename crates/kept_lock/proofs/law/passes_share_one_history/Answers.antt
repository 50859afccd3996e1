use Rattle.kept_lock.proofs.Laws.{shares}
use Rattle.kept_lock.proofs.law.passes_share_one_history.Goals as goal

pub returns : goal.returns
returns g c = shares g.V.Kept.history g.V.Kept.owner g.V.Kept.stands
