use Rattle.std.proofs.Common.{◌≡◌, subst, rules}
use Rattle.std.specs.Fn.{FnOnceReturnsAtMut}
use Rattle.kept_lock.proofs.lock.KeptLock.visit.Goals as goal

pub attempt-left-requires-clause-keeps : goal.attempt-left-requires-clause-keeps
attempt-left-requires-clause-keeps g c y r z meets worked =
    c.requires.keeps y r.told z meets (subst (λ (p : g.row.V.Denot × g.row.V.Denot). FnOnceReturnsAtMut g.F.FnOnce c.args.work p.0 r.told p.1) (λ i. (worked.shows i, worked.leaves i)) worked.met)
