use Rattle.std.proofs.Common.{◌≡◌, ◌≤◌, ◌-◌, length, drop}
use Rattle.wave_base.specs.Paths.{path_cmp}
use Rattle.wave_base.proofs.path.PathOrd.cmp.Given as goal

abbrev pub invariant-loop-i : goal.invariant-loop-i
invariant-loop-i l = (l.i ≤ length l.self) × (l.i ≤ length l.other) × (path_cmp (drop l.i l.self) (drop l.i l.other) ≡ path_cmp l.self l.other)

abbrev pub decreases-loop-i : goal.decreases-loop-i
decreases-loop-i l = length l.self - l.i
