use Rattle.std.proofs.Common.{◌≡◌, filter_map, take}
use Rattle.wave_effects.specs.inner.Beginnings.{kid_of}
use Rattle.wave_effects.proofs.begin.children_at_start.Given as goal

abbrev pub invariant-loop-place : goal.invariant-loop-place
invariant-loop-place l = l.children ≡ filter_map (kid_of l.path) (take l.place-index l.later)
