use Rattle.std.proofs.Common.{rules}
use Rattle.kept_lock.proofs.Steps.{hears}
use Rattle.kept_lock.proofs.lock.KeptLock.hear.Goals as goal

pub load-requires : goal.load-requires
load-requires g c = (
  search rules,
  search rules,
  hears g.V.Kept.history g.V.Kept.owner g.V.Kept.stands _ _ _ _ c.requires.live c.requires.outside,
)
