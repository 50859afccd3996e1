use Rattle.std.proofs.Common.{◌∙◌, ◌+◌, ◌-◌, ◌++◌, ap, map, Some, List, ℕ}
use Rattle.std.specs.Prelude.{slice_get}
use Rattle.wave_base.specs.Fold.{tickets_from}
use Rattle.wave_labels.specs.Labels.{label_of}
use Rattle.wave_machine.specs.inner.Asking.{runs_out, stop_if, stop_labels}
use Rattle.wave_machine.proofs.ListingLists.{from_more, one_piece}
use Rattle.wave_machine.proofs.enabled.ask_running.Goals as goal

pub loop-worker-preserved : goal.loop-worker-preserved
loop-worker-preserved c =
    let w = c.loop-worker.worker in
    let to = c.args.to in
    let hands = c.args.engine.now.hands.items in
    let out = c.args.out.now in
    let stops = λ (ws : List ℕ). stop_labels c.args.engine.now.stores.items hands ws out.ticket.0 out.path (Some c.args.host.0) in
    one_piece _ (map label_of c.loop-worker.labels.items) (map label_of c.add.new.labels.items) (stop_if (runs_out (slice_get hands w) out.ticket.0 out.path) w c.args.host.0 out.ticket.0 out.path)
    (stops (tickets_from w (to - w))) (stops (tickets_from (w + 1) (to - (w + 1)))) c.loop-worker.invariant (ap stops (from_more w to c.loop-worker-test.true))
    (c.in_ok-add.ensures ∙ ap (λ r. map label_of c.loop-worker.labels.items ++ r) c.stop_label.ensures)
