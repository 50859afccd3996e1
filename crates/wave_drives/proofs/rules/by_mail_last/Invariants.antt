use Rattle.std.proofs.Common.{◌≡◌, map, drop}
use Rattle.std.specs.Prelude.{filter}
use Rattle.wave_labels.specs.Labels.{label_of}
use Rattle.wave_states.specs.Runs.{first_of}
use Rattle.wave_drives.proofs.Picking.{calls}
use Rattle.wave_drives.proofs.rules.by_mail_last.Given as goal

abbrev pub invariant-loop-label : goal.invariant-loop-label
invariant-loop-label l = first_of (filter calls (map label_of (drop l.label-index l.labels))) ≡ first_of (filter calls (map label_of l.labels))
