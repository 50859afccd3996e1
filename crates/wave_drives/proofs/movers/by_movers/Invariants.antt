use Rattle.std.proofs.Common.{◌≡◌, map, drop}
use Rattle.std.specs.Prelude.{filter}
use Rattle.wave_labels.specs.Labels.{label_of}
use Rattle.wave_states.specs.Labels.{ticket_of}
use Rattle.wave_states.specs.Runs.{first_of}
use Rattle.wave_machine.specs.Movers.{moves_in}
use Rattle.wave_drives.proofs.movers.by_movers.Given as goal

abbrev pub invariant-loop-label : goal.invariant-loop-label
invariant-loop-label l =
    first_of (filter (λ x. moves_in l.fn.machine.kept (ticket_of x.act)) (map label_of (drop l.label-index l.labels)))
    ≡ first_of (filter (λ x. moves_in l.fn.machine.kept (ticket_of x.act)) (map label_of l.labels))
