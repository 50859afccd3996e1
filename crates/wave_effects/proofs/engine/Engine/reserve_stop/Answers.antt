use Rattle.std.proofs.Common.{◌≡◌, ◌∙◌, ◌<◌, ◌≤◌, ◌-◌, ◌+◌, length, refl, sym, ap, subst, arith}
use Rattle.std.proofs.lemmas.Option.{slice_get_read}
use Rattle.std.proofs.lemmas.Result.{IfOk-weaker}
use Rattle.event_cells.specs.declared.cell.Cell.{Cell}
use Rattle.host_map.specs.Stores.{Stores}
use Rattle.wave_effects.specs.declared.actor.Actor.{Actor}
use Rattle.wave_effects.specs.Keeping.{kept_of}
use Rattle.wave_effects.proofs.Roomy.{cell_roomy, store_roomy, commits_roomy}
use Rattle.wave_effects.proofs.Freer.{set_there}
use Rattle.wave_effects.proofs.engine.Engine.reserve_stop.Goals as goal

pub reserve-requires : goal.reserve-requires
reserve-requires c =
    let m = kept_of c.args.self.now in
    let i = c.args.ticket.0 - m.first in
    let within : i < length m.cells = omega (arith, c.requires.low, c.requires.within) in
    c.requires.goes_on c.index_mut-cell.result.now (slice_get_read m.cells _ i c.index_mut-cell.result.now refl within c.index_mut-cell.ensures.value)

pub returns-in_err-reserve-clause-same : goal.returns-in_err-reserve-clause-same
returns-in_err-reserve-clause-same c =
    let m = kept_of c.args.self.now in
    let i = c.args.ticket.0 - m.first in
    let within : i < length m.cells = omega (arith, c.requires.low, c.requires.within) in
    cell_roomy m i c.index_mut-cell.result.now c.reserve.new.self (slice_get_read m.cells _ i c.index_mut-cell.result.now refl within c.index_mut-cell.ensures.value) c.reserve.ensures.same c.reserve.ensures.held_room

pub returns-in_err-reserve-2-clause-same : goal.returns-in_err-reserve-2-clause-same
returns-in_err-reserve-2-clause-same c =
    let m = kept_of c.args.self.now in
    let i = c.args.ticket.0 - m.first in
    let within : i < length m.cells = omega (arith, c.requires.low, c.requires.within) in
    store_roomy m i c.index_mut-cell.result.now c.reserve.new.self (slice_get_read m.cells _ i c.index_mut-cell.result.now refl within c.index_mut-cell.ensures.value) c.reserve.ensures.same c.reserve.ensures.held_room
    c.args.host.0 c.index_mut.result.now c.reserve-2.new.self (slice_get_read m.stores _ c.args.host.0 c.index_mut.result.now refl c.requires.host_in c.index_mut.ensures.value) c.reserve-2.ensures.store c.reserve-2.ensures.gone c.reserve-2.ensures.path_room

pub returns-clause-same : goal.returns-clause-same
returns-clause-same c =
    let m = kept_of c.args.self.now in
    let i = c.args.ticket.0 - m.first in
    let within : i < length m.cells = omega (arith, c.requires.low, c.requires.within) in
    commits_roomy m i c.index_mut-cell.result.now c.reserve.new.self (slice_get_read m.cells _ i c.index_mut-cell.result.now refl within c.index_mut-cell.ensures.value) c.reserve.ensures.same c.reserve.ensures.held_room
    c.args.host.0 c.index_mut.result.now c.reserve-2.new.self (slice_get_read m.stores _ c.args.host.0 c.index_mut.result.now refl c.requires.host_in c.index_mut.ensures.value) c.reserve-2.ensures.store c.reserve-2.ensures.gone c.reserve-2.ensures.path_room
    c.reserve-3.new.self c.reserve-3.ensures.committed c.reserve-3.ensures.results

pub returns-clause-room : goal.returns-clause-room
returns-clause-room c =
    let m = kept_of c.args.self.now in
    let i = c.args.ticket.0 - m.first in
    let held : length c.reserve.new.self.held.holds ≡ length c.holds.result.now = ap length (c.reserve.ensures.same.held ∙ sym c.holds.ensures.holds) in
    let mails : 1 + length c.reserve.new.self.held.holds ≤ c.reserve.new.self.outbox.room = omega (arith, held, c.in_ok-reserve.ensures.mails) in
    IfOk-weaker c.reserve-3.result _ _
    (λ u results. record {
      mails = λ x e. subst (λ (y : Cell Actor). 1 + length y.held.holds ≤ y.outbox.room) (set_there m.cells i c.reserve.new.self x e) mails;
      marks = λ x e. subst (λ (y : Stores). 1 ≤ y.mark_room) (set_there m.stores c.args.host.0 c.reserve-2.new.self x e) c.in_ok-reserve-2.ensures.mark;
      results = results;
    })
    c.reserve-3.ensures.ok
