use Rattle.std.proofs.Common.{length}
use Rattle.snapshot_text.proofs.MapLemmas.{IsTableTo}
use Rattle.snapshot_text.proofs.map.table_of.Given as goal

abbrev pub invariant-loop-rest : goal.invariant-loop-rest
invariant-loop-rest l = IsTableTo l.text l.table l.rest

abbrev pub decreases-loop-rest : goal.decreases-loop-rest
decreases-loop-rest l = length l.rest
