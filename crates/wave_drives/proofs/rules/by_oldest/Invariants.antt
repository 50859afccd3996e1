use Rattle.std.proofs.Common.{◌≡◌, map, drop}
use Rattle.wave_labels.specs.Labels.{label_of}
use Rattle.wave_states.specs.Runs.{least}
use Rattle.wave_drives.proofs.rules.by_oldest.Given as goal

abbrev pub invariant-loop-label : goal.invariant-loop-label
invariant-loop-label l = least (label_of l.least) (map label_of (drop l.label-index l.labels)) ≡ least (label_of l.initial.least) (map label_of l.labels)
