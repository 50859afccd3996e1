use Rattle.std.proofs.Common.{◌≡◌, ◌≤◌, ◌-◌, length, drop}
use Rattle.wave_base.specs.Paths.{is_above}
use Rattle.wave_base.proofs.path.Path.begins.Given as goal

abbrev pub invariant-loop-i : goal.invariant-loop-i
invariant-loop-i l = (l.i ≤ length l.self) × (is_above (drop l.i l.self) (drop l.i l.other) ≡ is_above l.self l.other)

abbrev pub decreases-loop-i : goal.decreases-loop-i
decreases-loop-i l = length l.self - l.i
