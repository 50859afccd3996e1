-- By which call a label is taken.
use Rattle.std.specs.Prelude.{Bool, true, false}
use Rattle.wave_labels.specs.declared.label.Act.{Act}
use Rattle.wave_labels.specs.declared.label.Act.TheVariants.{Start as Begin, Stop}

-- neither a Start nor a Stop
abbrev pub is_step : Act → Bool
is_step (Begin t p) = false
is_step (Stop t p) = false
is_step _ = true

abbrev pub is_start : Act → Bool
is_start (Begin t p) = true
is_start _ = false
