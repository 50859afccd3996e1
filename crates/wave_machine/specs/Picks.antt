-- One of several labels.
use Rattle.std.specs.Prelude.{◌≡◌, List, [], Option, Some, None}
use Rattle.wave_labels.specs.declared.label.Label as program
use Rattle.wave_labels.specs.Labels.{label_of}
use Rattle.wave_states.specs.Labels.{Label}
use Rattle.wave_theory.specs.Listed.{IsIn}

-- it is one of them; none where there are none
abbrev pub IsOneOf : List Label → Option program.Label → Type 0
IsOneOf ls None = ls ≡ []
IsOneOf ls (Some l) = IsIn ls (label_of l)
