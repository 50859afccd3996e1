use Rattle.std.proofs.Common.{◌≡◌, ◌-◌, ◌++◌, map, Some}
use Rattle.wave_base.specs.Fold.{tickets_from}
use Rattle.wave_labels.specs.Labels.{label_of}
use Rattle.wave_machine.specs.inner.Asking.{stop_labels}
use Rattle.wave_machine.proofs.enabled.ask_running.Given as goal

abbrev pub invariant-loop-worker : goal.invariant-loop-worker
invariant-loop-worker l =
    map label_of l.labels.items ++ stop_labels l.fn.engine.stores.items l.fn.engine.hands.items (tickets_from l.worker (l.to - l.worker)) l.out.ticket.0 l.out.path (Some l.host.0)
    ≡ map label_of l.fn.labels.items ++ stop_labels l.fn.engine.stores.items l.fn.engine.hands.items (tickets_from l.fn.from (l.fn.to - l.fn.from)) l.fn.out.ticket.0 l.fn.out.path (Some l.fn.host.0)
