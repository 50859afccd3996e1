use Rattle.std.proofs.Common.{◌≡◌, ◌<◌, get_or}
use Rattle.elastic_policy.specs.Moves.{first_least}
use Rattle.elastic_policy.proofs.sums.lightest.Given as goal

abbrev pub invariant-loop-host : goal.invariant-loop-host
invariant-loop-host l = (l.best ≡ first_least (λ i. get_or l.sums i 0) l.host) × (l.best < 8)
