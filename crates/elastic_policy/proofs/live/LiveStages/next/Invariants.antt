use Rattle.std.proofs.Common.{◌≡◌, length}
use Rattle.std.specs.Prelude.{All}
use Rattle.elastic_policy.specs.Stages.{next_of, ArePlaced, FitsHosts}
use Rattle.elastic_policy.proofs.live.LiveStages.next.Given as goal

abbrev pub invariant-loop-part : goal.invariant-loop-part
invariant-loop-part l = record {
  hosts : l.self-inside.hosts ≡ l.fn.self.hosts;
  start : l.self-inside.live.start ≡ l.fn.self.start;
  same : next_of l.fn.self.hosts l.fn.self.start.places l.self-inside.live.loads l.self-inside.left.items ≡ next_of l.fn.self.hosts l.fn.self.start.places l.fn.self.loads l.fn.self.left;
  placed : ArePlaced l.fn.self.hosts l.fn.self.start.places l.self-inside.live.loads;
  policies : All (λ part. FitsHosts l.fn.self.hosts part.policy) l.self-inside.left.items;
}

abbrev pub decreases-loop-part : goal.decreases-loop-part
decreases-loop-part l = length l.self-inside.left.items
