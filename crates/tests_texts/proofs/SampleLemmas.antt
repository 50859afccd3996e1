-- The small shape of the tests is one.
use Rattle.std.proofs.Common.{◌≡◌, ◌<◌, ◌≤◌, ℕ, zero, suc, true, Some, List, [], ◌∷◌, All, length, refl, sym, subst, arith}
use Rattle.std.proofs.lemmas.List.Elements.{All-nil, All-cons}
use Rattle.wave_base.specs.declared.path.Class.{Class}
use Rattle.wave_base.specs.declared.shape.EventInfo.{EventInfo}
use Rattle.wave_base.specs.declared.shape.FieldInfo.{FieldInfo}
use Rattle.wave_base.specs.declared.shape.ClassInfo.{ClassInfo}
use Rattle.wave_base.specs.declared.shape.Shape.{Shape}
use Rattle.wave_base.specs.Shapes.{IsShape, HasInitials, is_within, parent_class}
use Rattle.wave_base.specs.Values.{kind_of}
use Rattle.path_text.specs.Sample.{market_class, hall_class}

abbrev two_classes : List ClassInfo
two_classes = market_class ∷ hall_class ∷ []

abbrev with_events : List EventInfo → Shape
with_events events = record { classes = two_classes; events = events }

parents : (events : List EventInfo) (n : ℕ) → suc n < 2 → (d : Class) × (parent_class (with_events events) (suc n) ≡ Some d) × (d.0 ≤ n)
parents events zero h = (record { 0 = 0 }, refl, omega arith)
parents events (suc n) h = absurd (omega arith)

depth : (events : List EventInfo) (n : ℕ) → n < 2 → is_within (with_events events) 8 n ≡ true
depth events zero h = refl
depth events (suc zero) h = refl
depth events (suc (suc n)) h = absurd (omega arith)

no_fields : All (λ (f : FieldInfo). kind_of f.initial ≡ f.kind) []
no_fields = All-nil (λ (f : FieldInfo). kind_of f.initial ≡ f.kind)

two_is_shape : (events : List EventInfo) → length events ≤ 2 → IsShape (with_events events)
two_is_shape events few = record {
  root = (market_class, refl, refl);
  parents = parents events;
  depth = depth events;
  initials = All-cons HasInitials market_class (hall_class ∷ []) no_fields (All-cons HasInitials hall_class [] no_fields (All-nil HasInitials));
  few_classes = omega arith;
  few_events = omega arith;
}

pub sample_is_shape : (classes : List ClassInfo) (events : List EventInfo) → classes ≡ two_classes → length events ≤ 2 → IsShape (record { classes = classes; events = events })
sample_is_shape classes events same few = subst (λ cs. IsShape (record { classes = cs; events = events })) (sym same) (two_is_shape events few)
