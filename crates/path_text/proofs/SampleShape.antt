-- The small shape of the tests is one.
use Rattle.std.proofs.Common.{◌≡◌, ◌<◌, ◌≤◌, ℕ, zero, suc, true, Some, [], ◌∷◌, All, refl, arith}
use Rattle.std.proofs.lemmas.List.Elements.{All-nil, All-cons}
use Rattle.wave_base.specs.declared.shape.FieldInfo.{FieldInfo}
use Rattle.wave_base.specs.declared.path.Class.{Class}
use Rattle.wave_base.specs.Shapes.{IsShape, HasInitials, is_within, parent_class}
use Rattle.wave_base.specs.Values.{kind_of}
use Rattle.path_text.specs.Sample.{market_class, hall_class, hall_shape}

parents : (n : ℕ) → suc n < 2 → (d : Class) × (parent_class hall_shape (suc n) ≡ Some d) × (d.0 ≤ n)
parents zero h = (record { 0 = 0 }, refl, omega arith)
parents (suc n) h = absurd (omega arith)

depth : (n : ℕ) → n < 2 → is_within hall_shape 8 n ≡ true
depth zero h = refl
depth (suc zero) h = refl
depth (suc (suc n)) h = absurd (omega arith)

no_fields : All (λ (f : FieldInfo). kind_of f.initial ≡ f.kind) []
no_fields = All-nil (λ (f : FieldInfo). kind_of f.initial ≡ f.kind)

pub hall_is_shape : IsShape hall_shape
hall_is_shape = record {
  root = (market_class, refl, refl);
  parents = parents;
  depth = depth;
  initials = All-cons HasInitials market_class (hall_class ∷ []) no_fields (All-cons HasInitials hall_class [] no_fields (All-nil HasInitials));
  few_classes = omega arith;
  few_events = omega arith;
}
