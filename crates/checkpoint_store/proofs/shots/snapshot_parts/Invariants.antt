use Rattle.std.proofs.Common.{length}
use Rattle.checkpoint_store.proofs.PartLemmas.{IsPartedTo}
use Rattle.checkpoint_store.proofs.shots.snapshot_parts.Given as goal

abbrev pub invariant-loop-after : goal.invariant-loop-after
invariant-loop-after l = IsPartedTo l.text l.rest

abbrev pub decreases-loop-after : goal.decreases-loop-after
decreases-loop-after l = length l.rest
