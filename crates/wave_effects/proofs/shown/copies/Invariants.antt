use Rattle.std.proofs.Common.{◌≡◌, ◌+◌, ℕ, Some, length}
use Rattle.std.specs.Prelude.{slice_get}
use Rattle.wave_base.specs.declared.shown.Shown.{Shown}
use Rattle.wave_effects.specs.inner.Lines.{IsKept}
use Rattle.wave_effects.proofs.shown.copies.Given as goal

abbrev pub invariant-loop-i : goal.invariant-loop-i
invariant-loop-i l = record {
  count : length l.shown.items ≡ l.i;
  each : (k : ℕ) (x : Shown) → slice_get l.shown.items k ≡ Some x → IsKept l.settled.items l.kinds (l.from + k) x;
}
