use Rattle.std.proofs.Common.{take}
use Rattle.wave_effects.specs.inner.Endings.{IsLoadOf, Paired}
use Rattle.wave_effects.proofs.places.loads.Given as goal

abbrev pub invariant-loop-place : goal.invariant-loop-place
invariant-loop-place l = Paired (IsLoadOf l.stores l.first.0) (take l.place-index l.places) l.loads.items
