use Rattle.std.proofs.Common.{◌≡◌, length}
use Rattle.wave_effects.specs.inner.Beginnings.{AreAt, no_column}
use Rattle.wave_effects.proofs.begin.empty_stores.Given as goal

abbrev pub invariant-loop-host : goal.invariant-loop-host
invariant-loop-host l = record { count : length l.stores.items ≡ l.host; empty : AreAt l.stores.items (λ p. no_column) }
