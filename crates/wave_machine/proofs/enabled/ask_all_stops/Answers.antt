use Rattle.std.proofs.Common.{◌≡◌, ◌∙◌, ◌+◌, ◌-◌, ◌<◌, ◌++◌, Some, None, suc, length, map, drop, refl, sym, ap, subst, append_assoc, arith}
use Rattle.std.specs.Prelude.{slice_get}
use Rattle.std.proofs.lemmas.Option.{slice_get_read}
use Rattle.wave_base.specs.Fold.{tickets_from}
use Rattle.wave_labels.specs.Labels.{label_of}
use Rattle.wave_effects.specs.Keeping.{kept_of}
use Rattle.wave_machine.specs.inner.Asking.{by_ticket, cell_labels, stops_labels}
use Rattle.wave_machine.proofs.ListingParts.{cell_stops}
use Rattle.wave_machine.proofs.Skipping.{done_skipped, next_of}
use Rattle.wave_machine.proofs.enabled.ask_all_stops.Goals as goal

pub loop-i-init : goal.loop-i-init
loop-i-init c =
    let m = kept_of c.args.engine.now in
    let ws = tickets_from c.args.takers.from (c.args.takers.to - c.args.takers.from) in
    ap (λ r. map label_of c.args.labels.now.items ++ r) (done_skipped m c.args.done None ws c.requires.done)

pub loop-i-preserved : goal.loop-i-preserved
loop-i-preserved c =
    let m = kept_of c.args.engine.now in
    let ws = tickets_from c.args.takers.from (c.args.takers.to - c.args.takers.from) in
    let i = c.loop-i.i in
    let cell = c.index.result.now in
    let f = cell_labels m.stores m.hands None ws in
    let within : i < length m.cells = omega (arith, c.loop-i-test.true, c.len-i-end.ensures) in
    let at : slice_get m.cells i ≡ Some cell = slice_get_read m.cells _ i cell refl within c.index.ensures in
    let more : i + 1 ≡ suc i = omega arith in
    let before = map label_of c.loop-i.labels.items in
    let asked : map label_of c.ask_stops.new.labels.items ≡ before ++ stops_labels m.stores m.hands ws (m.first + i) cell.status =
    subst (λ st. map label_of c.ask_stops.new.labels.items ≡ before ++ stops_labels m.stores m.hands ws (m.first + i) st) c.status.ensures c.in_ok-ask_stops.ensures in
    (λ k. asked k ++ by_ticket f (m.first + more k) (drop (more k) m.cells))
    ∙ append_assoc before _ (by_ticket f (m.first + suc i) (drop (suc i) m.cells))
    ∙ ap (λ r. before ++ (r ++ by_ticket f (m.first + suc i) (drop (suc i) m.cells))) (cell_stops m ws (m.first + i) cell)
    ∙ ap (λ xs. before ++ xs) (sym (next_of f m.first i m.cells cell at))
    ∙ c.loop-i.invariant
