use Rattle.std.proofs.Common.{◌≡◌, ◌++◌, map, drop}
use Rattle.wave_labels.specs.Labels.{label_of}
use Rattle.wave_states.specs.Canonical.{taken_as}
use Rattle.wave_machine.specs.Readies.{choice_of}
use Rattle.wave_machine.proofs.enabled.add_by.Given as goal

abbrev pub invariant-loop-one : goal.invariant-loop-one
invariant-loop-one l =
    map label_of l.labels.items ++ map (λ r. taken_as l.fn.worker.0 (choice_of r)) (drop l.one-index l.ready)
    ≡ map label_of l.fn.labels.items ++ map (λ r. taken_as l.fn.worker.0 (choice_of r)) l.fn.ready
