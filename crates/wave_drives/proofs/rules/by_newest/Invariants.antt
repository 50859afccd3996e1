use Rattle.std.proofs.Common.{◌≡◌, map, drop}
use Rattle.wave_labels.specs.Labels.{label_of}
use Rattle.wave_states.specs.Runs.{greatest}
use Rattle.wave_drives.proofs.rules.by_newest.Given as goal

abbrev pub invariant-loop-label : goal.invariant-loop-label
invariant-loop-label l = greatest (label_of l.greatest) (map label_of (drop l.label-index l.labels)) ≡ greatest (label_of l.initial.greatest) (map label_of l.labels)
