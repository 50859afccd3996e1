use Rattle.std.proofs.Common.{◌≡◌, ◌<◌, ◌≤◌, ◌*◌, length, map, sum}
use Rattle.std.specs.Prelude.{All}
use Rattle.tests_parts.proofs.PolicyPaths.{halls}
use Rattle.tests_parts.proofs.policies.moves_asked.Given as goal

abbrev pub invariant-loop-key : goal.invariant-loop-key
invariant-loop-key l = record {
  paths : map (λ x. x.path) l.places ≡ halls l.key;
  below : All (λ x. x.host.0 < l.hosts) l.places;
  paired : length l.places ≡ length l.loads;
  small : sum l.loads ≤ 9 * l.key;
}
