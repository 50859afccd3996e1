use Rattle.std.proofs.Common.{◌≡◌, ◌+◌, ◌≤◌, length}
use Rattle.snapshot_text.proofs.TailLemmas.{AreReadTo}
use Rattle.snapshot_text.proofs.read.read_shots.Given as goal

abbrev pub invariant-loop-rest : goal.invariant-loop-rest
invariant-loop-rest l = record {
  read : AreReadTo l.classes l.tail l.shots l.rest;
  number : l.number ≡ length l.shots + 1;
  short : l.number + length l.rest ≤ length l.tail + 1;
}

abbrev pub decreases-loop-rest : goal.decreases-loop-rest
decreases-loop-rest l = length l.rest
