use Rattle.std.proofs.Common.{rules, ◌≡◌, ◌<◌, ◌-◌, ◌+◌, length, Some, refl, ap, arith}
use Rattle.std.specs.Prelude.{slice_get}
use Rattle.std.proofs.lemmas.Option.{slice_get_read}
use Rattle.event_cells.specs.declared.held.Hold.{Hold}
use Rattle.event_cells.specs.Keeps.{Sending}
use Rattle.wave_states.specs.Labels.{Grant}
use Rattle.host_map.specs.Stores.{with_entry}
use Rattle.wave_effects.specs.Keeping.{kept_of}
use Rattle.wave_effects.proofs.CellParts.{LetsIn}
use Rattle.wave_effects.proofs.StoreParts.{Writes}
use Rattle.wave_effects.proofs.Taking.{grant_placed, grant_taken}
use Rattle.wave_effects.proofs.Calm.{with_cell, with_store}
use Rattle.wave_effects.proofs.Framing.{moved_both, written_apart}
use Rattle.wave_effects.proofs.engine.Engine.grant.Goals as goal

pub index_mut-store-requires : goal.index_mut-store-requires
index_mut-store-requires c =
    let at = grant_placed c.states_are_known.ensures (kept_of c.args.self.now) c.args.ticket.0 c.args.path.now c.requires.enabled.0 c.args.host.0 c.requires.enabled.1 in
    let within : c.args.host.0 < length c.args.self.now.stores.items = at.host_in in
    search (rules, within)

pub entry_mut-entry-requires : goal.entry_mut-entry-requires
entry_mut-entry-requires c =
    let at = grant_placed c.states_are_known.ensures (kept_of c.args.self.now) c.args.ticket.0 c.args.path.now c.requires.enabled.0 c.args.host.0 c.requires.enabled.1 in
    at.there c.index_mut-store.result.now (slice_get_read c.args.self.now.stores.items _ c.args.host.0 c.index_mut-store.result.now refl at.host_in c.index_mut-store.ensures.value)

pub grant-requires : goal.grant-requires
grant-requires c = λ claim waits peek.
    let at = grant_placed c.states_are_known.ensures (kept_of c.args.self.now) c.args.ticket.0 c.args.path.now c.requires.enabled.0 c.args.host.0 c.requires.enabled.1 in
    c.requires.room.peeks c.index_mut-store.result.now c.entry_mut-entry.result.now claim (slice_get_read c.args.self.now.stores.items _ c.args.host.0 c.index_mut-store.result.now refl at.host_in c.index_mut-store.ensures.value) c.entry_mut-entry.ensures.value waits peek

pub overflow_sub-ticket : goal.overflow_sub-ticket
overflow_sub-ticket c = (grant_placed c.states_are_known.ensures (kept_of c.args.self.now) c.args.ticket.0 c.args.path.now c.requires.enabled.0 c.args.host.0 c.requires.enabled.1).low

pub index_mut-cell-requires : goal.index_mut-cell-requires
index_mut-cell-requires c =
    let at = grant_placed c.states_are_known.ensures (kept_of c.args.self.now) c.args.ticket.0 c.args.path.now c.requires.enabled.0 c.args.host.0 c.requires.enabled.1 in
    let within : c.args.ticket.0 - c.args.self.now.first < length c.args.self.now.cells.items = omega (arith, at.low, at.within) in
    search (rules, within)

pub let_in-requires : goal.let_in-requires
let_in-requires c =
    let at = grant_placed c.states_are_known.ensures (kept_of c.args.self.now) c.args.ticket.0 c.args.path.now c.requires.enabled.0 c.args.host.0 c.requires.enabled.1 in
    let i = c.args.ticket.0 - c.args.self.now.first in
    let within : i < length c.args.self.now.cells.items = omega (arith, at.low, at.within) in
    c.requires.room.held c.index_mut-cell.result.now (slice_get_read c.args.self.now.cells.items _ i c.index_mut-cell.result.now refl within c.index_mut-cell.ensures.value)

pub returns-clause-takes : goal.returns-clause-takes
returns-clause-takes c = λ w.
    let m = kept_of c.args.self.now in
    let t = c.args.ticket.0 in
    let at = grant_placed c.states_are_known.ensures m t c.args.path.now c.requires.enabled.0 c.args.host.0 c.requires.enabled.1 in
    let i = t - m.first in
    let place : m.first + i ≡ t = omega (arith, at.low) in
    let within : i < length m.cells = omega (arith, at.low, at.within) in
    let there : slice_get m.cells i ≡ Some c.index_mut-cell.result.now = slice_get_read m.cells _ i c.index_mut-cell.result.now refl within c.index_mut-cell.ensures.value in
    let here : slice_get m.stores c.args.host.0 ≡ Some c.index_mut-store.result.now = slice_get_read m.stores _ c.args.host.0 c.index_mut-store.result.now refl at.host_in c.index_mut-store.ensures.value in
    let hold : Hold = record { host = c.args.host; peek = c.next_peeks-peek.result } in
    let lets : LetsIn c.index_mut-cell.result.now c.let_in.new.self c.args.path.now hold = record { desk = c.let_in.ensures.desk; actor = c.let_in.ensures.actor } in
    let writes : Writes c.index_mut-store.result.now (with_entry c.index_mut-store.result.now c.args.path.now c.grant.new.self) c.args.path.now c.grant.new.self = record { store = refl; gone = refl } in
    grant_taken c.states_are_known.ensures m t c.args.path.now w c.args.host.0 i c.index_mut-cell.result.now c.let_in.new.self c.index_mut-store.result.now (with_entry c.index_mut-store.result.now c.args.path.now c.grant.new.self) c.entry_mut-entry.result.now c.grant.new.self hold
    place there lets here c.entry_mut-entry.ensures.value writes refl c.next_peeks-peek.ensures c.grant.ensures.entry

pub returns-clause-moves : goal.returns-clause-moves
returns-clause-moves c = λ w.
    let m = kept_of c.args.self.now in
    let t = c.args.ticket.0 in
    let at = grant_placed c.states_are_known.ensures m t c.args.path.now c.requires.enabled.0 c.args.host.0 c.requires.enabled.1 in
    let i = t - m.first in
    let place : m.first + i ≡ t = omega (arith, at.low) in
    let within : i < length m.cells = omega (arith, at.low, at.within) in
    let cell = c.index_mut-cell.result.now in
    let there : slice_get m.cells i ≡ Some cell = slice_get_read m.cells _ i cell refl within c.index_mut-cell.ensures.value in
    let store = c.index_mut-store.result.now in
    let here : slice_get m.stores c.args.host.0 ≡ Some store = slice_get_read m.stores _ c.args.host.0 store refl at.host_in c.index_mut-store.ensures.value in
    let next = with_entry store c.args.path.now c.grant.new.self in
    let writes : Writes store next c.args.path.now c.grant.new.self = record { store = refl; gone = refl } in
    let same = ap (λ (o : Sending). length o.mails) c.let_in.ensures.outbox in
    moved_both m (with_store (with_cell m i c.let_in.new.self) c.args.host.0 next) (record { worker = w; host = c.args.host.0; act = Grant t c.args.path.now }) 0 i cell c.let_in.new.self place refl there refl refl
    (omega (arith, same)) store next here refl (written_apart store next c.args.path.now c.grant.new.self writes) (λ away away'. refl) (λ off. record { next = refl; ready = refl; settled = refl })
