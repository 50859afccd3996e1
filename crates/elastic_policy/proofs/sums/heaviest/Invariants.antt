use Rattle.std.proofs.Common.{◌≡◌, ◌<◌, get_or}
use Rattle.elastic_policy.specs.Moves.{first_greatest}
use Rattle.elastic_policy.proofs.sums.heaviest.Given as goal

abbrev pub invariant-loop-host : goal.invariant-loop-host
invariant-loop-host l = (l.best ≡ first_greatest (λ i. get_or l.sums i 0) l.host) × (l.best < 8)
