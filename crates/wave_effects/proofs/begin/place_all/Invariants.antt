use Rattle.std.proofs.Common.{◌≡◌, ℕ, length, take}
use Rattle.wave_base.specs.Starts.{IsStart}
use Rattle.wave_base.specs.declared.shape.Shape.{Shape}
use Rattle.wave_states.specs.Begins.{begin_of}
use Rattle.wave_effects.specs.inner.Beginnings.{AreAt, placed_column}
use Rattle.wave_effects.proofs.begin.place_all.Given as goal

abbrev pub invariant-loop-i : goal.invariant-loop-i
invariant-loop-i l = record {
  count : length l.stores.items ≡ length l.initial.stores.items;
  placed : (shape : Shape) (hosts : ℕ) → IsStart shape hosts l.start → AreAt l.stores.items (placed_column (begin_of shape l.start) (take l.i l.start.places));
}
