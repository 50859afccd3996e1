use Rattle.std.proofs.Common.{take}
use Rattle.wave_effects.specs.inner.Endings.{IsShotOf, Paired}
use Rattle.wave_effects.proofs.places.shots.Given as goal

abbrev pub invariant-loop-place : goal.invariant-loop-place
invariant-loop-place l = Paired (IsShotOf l.stores) (take l.place-index l.places) l.shots.items
