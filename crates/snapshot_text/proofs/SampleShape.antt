-- The small shape of the tests is one, and has names.
use Rattle.std.proofs.Common.{◌≡◌, ◌<◌, ◌≤◌, ℕ, zero, suc, true, Some, [], ◌∷◌, map, All, refl, arith}
use Rattle.std.proofs.lemmas.List.Elements.{All-nil, All-cons}
use Rattle.wave_base.specs.declared.shape.ClassInfo.{ClassInfo}
use Rattle.wave_base.specs.declared.shape.FieldInfo.{FieldInfo}
use Rattle.wave_base.specs.declared.path.Class.{Class}
use Rattle.wave_base.specs.Names.{AreNames, HasNames}
use Rattle.wave_base.specs.Shapes.{IsShape, HasInitials, is_within, parent_class}
use Rattle.wave_base.specs.Values.{kind_of}
use Rattle.snapshot_text.specs.Sample.{seen_field, count_field, open_field, label_field, best_field, market_class, hall_class, stall_class, cell_class, market_shape}

parents : (n : ℕ) → suc n < 4 → (d : Class) × (parent_class market_shape (suc n) ≡ Some d) × (d.0 ≤ n)
parents zero h = (record { 0 = 0 }, refl, omega arith)
parents (suc zero) h = (record { 0 = 1 }, refl, omega arith)
parents (suc (suc zero)) h = (record { 0 = 0 }, refl, omega arith)
parents (suc (suc (suc n))) h = absurd (omega arith)

depth : (n : ℕ) → n < 4 → is_within market_shape 8 n ≡ true
depth zero h = refl
depth (suc zero) h = refl
depth (suc (suc zero)) h = refl
depth (suc (suc (suc zero))) h = refl
depth (suc (suc (suc (suc n)))) h = absurd (omega arith)

abbrev IsInitial : FieldInfo → Type 0
IsInitial f = kind_of f.initial ≡ f.kind

one : (f : FieldInfo) → IsInitial f → All IsInitial (f ∷ [])
one f h = All-cons IsInitial f [] h (All-nil IsInitial)

classes : (P : ClassInfo → Type 0) → P market_class → P hall_class → P stall_class → P cell_class → All P (market_class ∷ hall_class ∷ stall_class ∷ cell_class ∷ [])
classes P a b c d =
    All-cons P market_class (hall_class ∷ stall_class ∷ cell_class ∷ []) a (All-cons P hall_class (stall_class ∷ cell_class ∷ []) b (All-cons P stall_class (cell_class ∷ []) c (All-cons P cell_class [] d (All-nil P))))

pub market_is_shape : IsShape market_shape
market_is_shape = record {
  root = (market_class, refl, refl);
  parents = parents;
  depth = depth;
  initials = classes HasInitials (one seen_field refl) (one count_field refl)
      (All-cons IsInitial open_field (label_field ∷ best_field ∷ []) refl (All-cons IsInitial label_field (best_field ∷ []) refl (one best_field refl))) (All-nil IsInitial);
  few_classes = omega arith;
  few_events = omega arith;
}

abbrev HasFieldNames : ClassInfo → Type 0
HasFieldNames c = AreNames (map (λ f. f.name) c.fields)

pub market_has_names : HasNames market_shape
market_has_names = record {
  classes = record { names_all = refl; differ = refl };
  events = record { names_all = refl; differ = refl };
  fields = classes HasFieldNames (record { names_all = refl; differ = refl }) (record { names_all = refl; differ = refl }) (record { names_all = refl; differ = refl }) (record { names_all = refl; differ = refl });
}
