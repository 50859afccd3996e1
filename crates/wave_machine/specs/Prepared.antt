-- What a machine shows.
use Rattle.std.specs.Prelude.{Option, option_map}
use Rattle.wave_labels.specs.declared.label.Label.{Label}
use Rattle.wave_effects.specs.declared.engine.Engine.{Engine}
use Rattle.wave_effects.specs.declared.prepared.Prepared.{Prepared}
use Rattle.wave_effects.specs.Keeping.{kept_of}
use Rattle.wave_effects.specs.Machines.{Kept}

-- what a machine keeps, and the label for which it is reserved
pub record Shown : Type 0 where
  pub kept : Kept
  pub reserved : Option Label

abbrev pub shown_of : Engine → Option (Label × Prepared) → Shown
shown_of m x = record { kept = kept_of m; reserved = option_map (λ y. y.0) x }
