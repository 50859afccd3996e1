use Rattle.std.proofs.Common.{◌≡◌, ◌+◌, ◌-◌, ◌++◌, map, drop, None}
use Rattle.wave_base.specs.Fold.{tickets_from}
use Rattle.wave_labels.specs.Labels.{label_of}
use Rattle.wave_effects.specs.Keeping.{kept_of}
use Rattle.wave_machine.specs.inner.Asking.{asked_in, by_ticket, cell_labels}
use Rattle.wave_machine.proofs.enabled.ask_all_stops.Given as goal

abbrev pub invariant-loop-i : goal.invariant-loop-i
invariant-loop-i l =
    map label_of l.labels.items ++ by_ticket (cell_labels l.fn.engine.stores.items l.fn.engine.hands.items None (tickets_from l.fn.takers.from (l.fn.takers.to - l.fn.takers.from))) (l.fn.engine.first + l.i) (drop l.i l.fn.engine.cells.items)
    ≡ map label_of l.fn.labels.items ++ asked_in (kept_of l.fn.engine) None (tickets_from l.fn.takers.from (l.fn.takers.to - l.fn.takers.from))
