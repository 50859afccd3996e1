use Rattle.std.specs.Prelude.{replicate, None}
use Rattle.std.proofs.Common.{◌≡◌}
use Rattle.wave_drives.proofs.walk.no_ends.Given as goal

abbrev pub invariant-loop-worker : goal.invariant-loop-worker
invariant-loop-worker l = l.ends.items ≡ replicate l.worker None
