use Rattle.std.proofs.Common.{rules, ◌≡◌, ◌∙◌, ◌<◌, ◌-◌, ◌+◌, length, is_some, true, Some, refl, sym, ap, arith}
use Rattle.std.specs.Prelude.{slice_get}
use Rattle.std.proofs.lemmas.Option.{slice_get_read}
use Rattle.host_map.specs.Stores.{with_entry}
use Rattle.event_cells.specs.Keeps.{Sending}
use Rattle.wave_states.specs.Labels.{Start}
use Rattle.wave_effects.specs.declared.lease.Lease.{Lease}
use Rattle.wave_effects.specs.Keeping.{kept_of}
use Rattle.wave_effects.proofs.Depth.{leased_may_run}
use Rattle.wave_effects.proofs.Starting.{RunsIt, start_placed, start_taken, start_leases}
use Rattle.wave_effects.proofs.StoreParts.{Writes}
use Rattle.wave_effects.proofs.Framing.{moved_both, written_apart}
use Rattle.wave_effects.proofs.engine.Engine.start.Goals as goal

pub overflow_sub-ticket : goal.overflow_sub-ticket
overflow_sub-ticket c = (start_placed c.states_are_known.ensures (kept_of c.args.self.now) c.args.ticket.0 c.args.path.now c.args.worker.0 c.args.host.0 c.requires.enabled).low

pub index_mut-cell-requires : goal.index_mut-cell-requires
index_mut-cell-requires c =
    let at = start_placed c.states_are_known.ensures (kept_of c.args.self.now) c.args.ticket.0 c.args.path.now c.args.worker.0 c.args.host.0 c.requires.enabled in
    let within : c.args.ticket.0 - c.args.self.now.first < length c.args.self.now.cells.items = omega (arith, at.low, at.within) in
    search (rules, within)

pub start-requires : goal.start-requires
start-requires c =
    let m = kept_of c.args.self.now in
    let at = start_placed c.states_are_known.ensures m c.args.ticket.0 c.args.path.now c.args.worker.0 c.args.host.0 c.requires.enabled in
    let i = c.args.ticket.0 - m.first in
    let place : m.first + i ≡ c.args.ticket.0 = omega (arith, at.low) in
    let within : i < length m.cells = omega (arith, at.low, at.within) in
    at.on i c.index_mut-cell.result.now place (slice_get_read m.cells _ i c.index_mut-cell.result.now refl within c.index_mut-cell.ensures.value)

pub unwrap-actor-requires : goal.unwrap-actor-requires
unwrap-actor-requires c =
    let m = kept_of c.args.self.now in
    let at = start_placed c.states_are_known.ensures m c.args.ticket.0 c.args.path.now c.args.worker.0 c.args.host.0 c.requires.enabled in
    let i = c.args.ticket.0 - m.first in
    let place : m.first + i ≡ c.args.ticket.0 = omega (arith, at.low) in
    let within : i < length m.cells = omega (arith, at.low, at.within) in
    let there : is_some c.start.result ≡ true = ap is_some c.start.ensures.taken ∙ at.actor i c.index_mut-cell.result.now place (slice_get_read m.cells _ i c.index_mut-cell.result.now refl within c.index_mut-cell.ensures.value) in
    search (rules, there)

pub index_mut-store-requires : goal.index_mut-store-requires
index_mut-store-requires c =
    let at = start_placed c.states_are_known.ensures (kept_of c.args.self.now) c.args.ticket.0 c.args.path.now c.args.worker.0 c.args.host.0 c.requires.enabled in
    let within : c.args.host.0 < length c.args.self.now.stores.items = at.host_in in
    search (rules, within)

pub entry_mut-entry-requires : goal.entry_mut-entry-requires
entry_mut-entry-requires c =
    let at = start_placed c.states_are_known.ensures (kept_of c.args.self.now) c.args.ticket.0 c.args.path.now c.args.worker.0 c.args.host.0 c.requires.enabled in
    at.there c.index_mut-store.result.now (slice_get_read c.args.self.now.stores.items _ c.args.host.0 c.index_mut-store.result.now refl at.host_in c.index_mut-store.ensures.value)

pub take_record-body-requires : goal.take_record-body-requires
take_record-body-requires c =
    let at = start_placed c.states_are_known.ensures (kept_of c.args.self.now) c.args.ticket.0 c.args.path.now c.args.worker.0 c.args.host.0 c.requires.enabled in
    at.home c.index_mut-store.result.now c.entry_mut-entry.result.now (slice_get_read c.args.self.now.stores.items _ c.args.host.0 c.index_mut-store.result.now refl at.host_in c.index_mut-store.ensures.value) c.entry_mut-entry.ensures.value

pub index_mut-requires : goal.index_mut-requires
index_mut-requires c =
    let at = start_placed c.states_are_known.ensures (kept_of c.args.self.now) c.args.ticket.0 c.args.path.now c.args.worker.0 c.args.host.0 c.requires.enabled in
    let within : c.args.worker.0 < length c.args.self.now.hands.items = at.worker_in in
    search (rules, within)

pub returns-clause-takes : goal.returns-clause-takes
returns-clause-takes c =
    let m = kept_of c.args.self.now in
    let t = c.args.ticket.0 in
    let at = start_placed c.states_are_known.ensures m t c.args.path.now c.args.worker.0 c.args.host.0 c.requires.enabled in
    let i = t - m.first in
    let place : m.first + i ≡ t = omega (arith, at.low) in
    let within : i < length m.cells = omega (arith, at.low, at.within) in
    let there : slice_get m.cells i ≡ Some c.index_mut-cell.result.now = slice_get_read m.cells _ i c.index_mut-cell.result.now refl within c.index_mut-cell.ensures.value in
    let here : slice_get m.stores c.args.host.0 ≡ Some c.index_mut-store.result.now = slice_get_read m.stores _ c.args.host.0 c.index_mut-store.result.now refl at.host_in c.index_mut-store.ensures.value in
    let runs : RunsIt c.index_mut-cell.result.now c.start.new.self c.args.path.now = record { desk = c.start.ensures.desk; actor = c.start.ensures.away } in
    let writes : Writes c.index_mut-store.result.now (with_entry c.index_mut-store.result.now c.args.path.now c.take_record-body.new.entry) c.args.path.now c.take_record-body.new.entry = record { store = refl; gone = refl } in
    start_taken c.states_are_known.ensures m t c.args.path.now c.args.worker.0 c.args.host.0 i c.index_mut-cell.result.now c.start.new.self c.index_mut-store.result.now (with_entry c.index_mut-store.result.now c.args.path.now c.take_record-body.new.entry)
    c.entry_mut-entry.result.now c.take_record-body.new.entry c.args.copy c.take_record-body.result (record { ticket = c.args.ticket; path = c.args.path.now }) place refl there here c.entry_mut-entry.ensures.value c.requires.part c.take_record-body.ensures runs writes refl refl

pub returns-clause-leases : goal.returns-clause-leases
returns-clause-leases c =
    let m = kept_of c.args.self.now in
    let t = c.args.ticket.0 in
    let at = start_placed c.states_are_known.ensures m t c.args.path.now c.args.worker.0 c.args.host.0 c.requires.enabled in
    let i = t - m.first in
    let place : m.first + i ≡ t = omega (arith, at.low) in
    let within : i < length m.cells = omega (arith, at.low, at.within) in
    let there : slice_get m.cells i ≡ Some c.index_mut-cell.result.now = slice_get_read m.cells _ i c.index_mut-cell.result.now refl within c.index_mut-cell.ensures.value in
    let here : slice_get m.stores c.args.host.0 ≡ Some c.index_mut-store.result.now = slice_get_read m.stores _ c.args.host.0 c.index_mut-store.result.now refl at.host_in c.index_mut-store.ensures.value in
    start_leases c.states_are_known.ensures m t c.args.path.now c.args.worker.0 c.args.host.0 i c.index_mut-cell.result.now c.start.new.self c.index_mut-store.result.now (with_entry c.index_mut-store.result.now c.args.path.now c.take_record-body.new.entry)
    c.entry_mut-entry.result.now c.take_record-body.new.entry c.args.copy c.take_record-body.result (record { ticket = c.args.ticket; path = c.args.path.now }) place refl there here c.entry_mut-entry.ensures.value c.requires.part c.take_record-body.ensures
    (record { worker = c.args.worker; ticket = c.args.ticket; path = c.args.path.now; actor = c.unwrap-actor.result; body = c.take_record-body.result }) refl refl (sym c.start.ensures.taken ∙ c.unwrap-actor.ensures) refl

pub returns-clause-may_run : goal.returns-clause-may_run
returns-clause-may_run c =
    let m = kept_of c.args.self.now in
    let t = c.args.ticket.0 in
    let at = start_placed c.states_are_known.ensures m t c.args.path.now c.args.worker.0 c.args.host.0 c.requires.enabled in
    let i = t - m.first in
    let place : m.first + i ≡ t = omega (arith, at.low) in
    let within : i < length m.cells = omega (arith, at.low, at.within) in
    let there : slice_get m.cells i ≡ Some c.index_mut-cell.result.now = slice_get_read m.cells _ i c.index_mut-cell.result.now refl within c.index_mut-cell.ensures.value in
    let here : slice_get m.stores c.args.host.0 ≡ Some c.index_mut-store.result.now = slice_get_read m.stores _ c.args.host.0 c.index_mut-store.result.now refl at.host_in c.index_mut-store.ensures.value in
    let on = c.requires.enabled in
    let lease : Lease = record { worker = c.args.worker; ticket = c.args.ticket; path = c.args.path.now; actor = c.unwrap-actor.result; body = c.take_record-body.result } in
    leased_may_run c.segments_are_known.ensures m on.start on.state on.next (record { worker = c.args.worker.0; host = c.args.host.0; act = Start t c.args.path.now }) on.stands on.enabled lease
    (start_leases c.states_are_known.ensures m t c.args.path.now c.args.worker.0 c.args.host.0 i c.index_mut-cell.result.now c.start.new.self c.index_mut-store.result.now (with_entry c.index_mut-store.result.now c.args.path.now c.take_record-body.new.entry)
    c.entry_mut-entry.result.now c.take_record-body.new.entry c.args.copy c.take_record-body.result (record { ticket = c.args.ticket; path = c.args.path.now }) place refl there here c.entry_mut-entry.ensures.value c.requires.part c.take_record-body.ensures
    lease refl refl (sym c.start.ensures.taken ∙ c.unwrap-actor.ensures) refl on.start on.state on.next on.stands on.enabled)

pub returns-clause-moves : goal.returns-clause-moves
returns-clause-moves c =
    let m = kept_of c.args.self.now in
    let t = c.args.ticket.0 in
    let at = start_placed c.states_are_known.ensures m t c.args.path.now c.args.worker.0 c.args.host.0 c.requires.enabled in
    let i = t - m.first in
    let place : m.first + i ≡ t = omega (arith, at.low) in
    let within : i < length m.cells = omega (arith, at.low, at.within) in
    let cell = c.index_mut-cell.result.now in
    let there : slice_get m.cells i ≡ Some cell = slice_get_read m.cells _ i cell refl within c.index_mut-cell.ensures.value in
    let store = c.index_mut-store.result.now in
    let here : slice_get m.stores c.args.host.0 ≡ Some store = slice_get_read m.stores _ c.args.host.0 store refl at.host_in c.index_mut-store.ensures.value in
    let next = with_entry store c.args.path.now c.take_record-body.new.entry in
    let writes : Writes store next c.args.path.now c.take_record-body.new.entry = record { store = refl; gone = refl } in
    let same = ap (λ (o : Sending). length o.mails) c.start.ensures.outbox in
    moved_both m _ (record { worker = c.args.worker.0; host = c.args.host.0; act = Start t c.args.path.now }) 0 i cell c.start.new.self place refl there refl refl
    (omega (arith, same)) store next here refl (written_apart store next c.args.path.now c.take_record-body.new.entry writes) (λ away away'. refl) (λ off. record { next = refl; ready = refl; settled = refl })
