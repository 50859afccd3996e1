use Rattle.std.proofs.Common.{rules, refl}
use Rattle.kept_lock.proofs.Steps.{claims_as}
use Rattle.kept_lock.proofs.lock.KeptLock.claim.Goals as goal

pub compare_exchange-requires : goal.compare_exchange-requires
compare_exchange-requires g c = let i = c.loop.invariant in (
  search rules,
  search rules,
  claims_as g.V.Kept.history g.V.Kept.owner g.V.Kept.stands _ _ _ _ _ _ _ _ refl i.1 c.requires.2 c.requires.1 c.even_word-found.ensures refl,
)
