-- Names of a shape.
use Rattle.std.specs.Prelude.{◌≡◌, true, map, All}
use Rattle.wave_base.specs.declared.shape.ClassInfo.{ClassInfo}
use Rattle.wave_base.specs.declared.shape.Shape.{Shape}
use Rattle.wave_base.specs.Names.{all_differ}

-- the names of its classes differ, and those of its events, and those of the fields of each class
pub record NamesDiffer (shape : Shape) : Type 0 where
  pub classes : all_differ (map (λ c. c.name) shape.classes) ≡ true
  pub events : all_differ (map (λ e. e.name) shape.events) ≡ true
  pub fields : All (λ (c : ClassInfo). all_differ (map (λ f. f.name) c.fields) ≡ true) shape.classes
