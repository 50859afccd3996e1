use Rattle.std.proofs.Common.{rules}
use Rattle.kept_lock.proofs.Joining.{joins}
use Rattle.kept_lock.proofs.lock.KeptLock.join.Goals as goal

pub join_seat-requires : goal.join_seat-requires
join_seat-requires g c = (
  search rules,
  search rules,
  search rules,
  search rules,
  joins g.V.Kept.history g.V.Kept.owner g.V.Kept.stands _ _ _ _ _ (search rules) (search rules) (search rules) (search rules),
)
