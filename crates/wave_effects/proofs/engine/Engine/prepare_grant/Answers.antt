use Rattle.std.proofs.Common.{rules, ◌≡◌, ◌<◌, ◌≤◌, ◌-◌, ◌+◌, length, Some, refl, arith}
use Rattle.std.specs.Prelude.{slice_get}
use Rattle.std.proofs.lemmas.Option.{slice_get_read}
use Rattle.host_map.specs.Stores.{with_entry}
use Rattle.wave_effects.specs.Keeping.{kept_of}
use Rattle.wave_effects.proofs.Calm.{with_cell, with_store}
use Rattle.wave_effects.proofs.Freer.{cell_keeps, grant_room, keeps_on, on_ok, same_but_entry, store_keeps}
use Rattle.wave_effects.proofs.StoreParts.{Writes}
use Rattle.wave_effects.proofs.Taking.{grant_goes_on, grant_placed}
use Rattle.wave_effects.proofs.Unasked.{asks_after, cell_asks, entry_answers, store_asks}
use Rattle.wave_effects.proofs.engine.Engine.prepare_grant.Goals as goal

pub overflow_sub-ticket : goal.overflow_sub-ticket
overflow_sub-ticket c = (grant_placed c.states_are_known.ensures (kept_of c.args.self.now) c.args.ticket.0 c.args.path.now c.requires.0 c.args.host.0 c.requires.1).low

pub index_mut-cell-requires : goal.index_mut-cell-requires
index_mut-cell-requires c =
    let at = grant_placed c.states_are_known.ensures (kept_of c.args.self.now) c.args.ticket.0 c.args.path.now c.requires.0 c.args.host.0 c.requires.1 in
    let within : c.args.ticket.0 - c.args.self.now.first < length c.args.self.now.cells.items = omega (arith, at.low, at.within) in
    search (rules, within)

pub reserve-requires : goal.reserve-requires
reserve-requires c =
    let m = kept_of c.args.self.now in
    let at = grant_placed c.states_are_known.ensures m c.args.ticket.0 c.args.path.now c.requires.0 c.args.host.0 c.requires.1 in
    let i = c.args.ticket.0 - m.first in
    let place : m.first + i ≡ c.args.ticket.0 = omega (arith, at.low) in
    let within : i < length m.cells = omega (arith, at.low, at.within) in
    grant_goes_on c.states_are_known.ensures m c.args.ticket.0 c.args.path.now c.requires.0 c.args.host.0 c.requires.1 i c.index_mut-cell.result.now place (slice_get_read m.cells _ i c.index_mut-cell.result.now refl within c.index_mut-cell.ensures.value)

pub index_mut-store-requires : goal.index_mut-store-requires
index_mut-store-requires c =
    let at = grant_placed c.states_are_known.ensures (kept_of c.args.self.now) c.args.ticket.0 c.args.path.now c.requires.0 c.args.host.0 c.requires.1 in
    let within : c.args.host.0 < length c.args.self.now.stores.items = at.host_in in
    search (rules, within)

pub entry_mut-requires : goal.entry_mut-requires
entry_mut-requires c =
    let m = kept_of c.args.self.now in
    let at = grant_placed c.states_are_known.ensures m c.args.ticket.0 c.args.path.now c.requires.0 c.args.host.0 c.requires.1 in
    at.there c.index_mut-store.result.now (slice_get_read m.stores _ c.args.host.0 c.index_mut-store.result.now refl at.host_in c.index_mut-store.ensures.value)

pub returns-in_err-reserve-clause-keeps : goal.returns-in_err-reserve-clause-keeps
returns-in_err-reserve-clause-keeps c =
    let m = kept_of c.args.self.now in
    let at = grant_placed c.states_are_known.ensures m c.args.ticket.0 c.args.path.now c.requires.0 c.args.host.0 c.requires.1 in
    let i = c.args.ticket.0 - m.first in
    let within : i < length m.cells = omega (arith, at.low, at.within) in
    cell_keeps m i c.index_mut-cell.result.now c.reserve.new.self (slice_get_read m.cells _ i c.index_mut-cell.result.now refl within c.index_mut-cell.ensures.value) c.reserve.ensures.same

pub returns-clause-room : goal.returns-clause-room
returns-clause-room c =
    let m = kept_of c.args.self.now in
    let store = c.index_mut-store.result.now in
    let entry = c.reserve_peek.new.self in
    let writes : Writes store (with_entry store c.args.path.now entry) c.args.path.now entry = record { store = refl; gone = refl } in
    on_ok c.reserve_peek.result (1 ≤ entry.peeks.room) _
    (λ (h : 1 ≤ entry.peeks.room). grant_room m c.args.host.0 c.args.path.now store (with_entry store c.args.path.now entry) c.args.ticket.0 c.reserve.new.self entry c.in_ok-reserve.ensures.held h writes) c.reserve_peek.ensures.peeks

pub returns-clause-keeps : goal.returns-clause-keeps
returns-clause-keeps c =
    let m = kept_of c.args.self.now in
    let at = grant_placed c.states_are_known.ensures m c.args.ticket.0 c.args.path.now c.requires.0 c.args.host.0 c.requires.1 in
    let i = c.args.ticket.0 - m.first in
    let within : i < length m.cells = omega (arith, at.low, at.within) in
    let there : slice_get m.cells i ≡ Some c.index_mut-cell.result.now = slice_get_read m.cells _ i c.index_mut-cell.result.now refl within c.index_mut-cell.ensures.value in
    let store = c.index_mut-store.result.now in
    let here : slice_get m.stores c.args.host.0 ≡ Some store = slice_get_read m.stores _ c.args.host.0 store refl at.host_in c.index_mut-store.ensures.value in
    let entry = c.reserve_peek.new.self in
    let next = with_entry store c.args.path.now entry in
    let writes : Writes store next c.args.path.now entry = record { store = refl; gone = refl } in
    keeps_on m (with_cell m i c.reserve.new.self) (with_store (with_cell m i c.reserve.new.self) c.args.host.0 next)
    (cell_keeps m i c.index_mut-cell.result.now c.reserve.new.self there c.reserve.ensures.same)
    (store_keeps (with_cell m i c.reserve.new.self) c.args.host.0 store next here (same_but_entry store next c.args.path.now c.entry_mut.result.now entry c.entry_mut.ensures.value c.reserve_peek.ensures.same writes))

pub returns-in_err-reserve-clause-asks : goal.returns-in_err-reserve-clause-asks
returns-in_err-reserve-clause-asks c =
    let m = kept_of c.args.self.now in
    let at = grant_placed c.states_are_known.ensures m c.args.ticket.0 c.args.path.now c.requires.0 c.args.host.0 c.requires.1 in
    let i = c.args.ticket.0 - m.first in
    let within : i < length m.cells = omega (arith, at.low, at.within) in
    cell_asks m i c.index_mut-cell.result.now c.reserve.new.self (slice_get_read m.cells _ i c.index_mut-cell.result.now refl within c.index_mut-cell.ensures.value) c.reserve.ensures.same

pub returns-clause-asks : goal.returns-clause-asks
returns-clause-asks c =
    let m = kept_of c.args.self.now in
    let at = grant_placed c.states_are_known.ensures m c.args.ticket.0 c.args.path.now c.requires.0 c.args.host.0 c.requires.1 in
    let i = c.args.ticket.0 - m.first in
    let within : i < length m.cells = omega (arith, at.low, at.within) in
    let there : slice_get m.cells i ≡ Some c.index_mut-cell.result.now = slice_get_read m.cells _ i c.index_mut-cell.result.now refl within c.index_mut-cell.ensures.value in
    let store = c.index_mut-store.result.now in
    let here : slice_get m.stores c.args.host.0 ≡ Some store = slice_get_read m.stores _ c.args.host.0 store refl at.host_in c.index_mut-store.ensures.value in
    let entry = c.reserve_peek.new.self in
    let next = with_entry store c.args.path.now entry in
    let writes : Writes store next c.args.path.now entry = record { store = refl; gone = refl } in
    let half = with_cell m i c.reserve.new.self in
    asks_after m half (with_store half c.args.host.0 next) (cell_asks m i c.index_mut-cell.result.now c.reserve.new.self there c.reserve.ensures.same)
    (store_asks half c.args.host.0 store next here (entry_answers store next c.args.path.now c.entry_mut.result.now entry c.entry_mut.ensures.value c.reserve_peek.ensures.same writes))
