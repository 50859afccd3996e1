use Rattle.std.proofs.Common.{◌≡◌, ◌++◌, drop}
use Rattle.snapshot_text.specs.SnapshotTexts.{snapshot_text, shots_text}
use Rattle.snapshot_text.proofs.write.write_snapshot.Given as goal

abbrev pub invariant-loop-shot : goal.invariant-loop-shot
invariant-loop-shot l = l.out.items ++ shots_text l.shape (drop l.shot-index l.shots) ≡ snapshot_text l.shape l.shots
