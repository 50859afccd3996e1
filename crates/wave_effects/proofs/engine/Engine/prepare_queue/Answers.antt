use Rattle.std.proofs.Common.{rules, ◌≡◌, ◌<◌, ◌∙◌, length, false, Some, refl, sym, ap}
use Rattle.std.specs.Prelude.{slice_get}
use Rattle.std.proofs.lemmas.Option.{slice_get_read}
use Rattle.service_code.specs.declared.program.Program.{Program}
use Rattle.host_map.specs.Stores.{has, with_entry}
use Rattle.wave_effects.specs.Keeping.{kept_of}
use Rattle.wave_effects.proofs.Freer.{born_part, here_part, same_but_entry, same_maps, store_keeps}
use Rattle.wave_effects.proofs.StoreParts.{Writes}
use Rattle.wave_effects.proofs.Queueing.{queue_placed}
use Rattle.wave_effects.proofs.Unasked.{entry_answers, maps_answer, store_asks}
use Rattle.wave_effects.proofs.engine.Engine.prepare_queue.Goals as goal

pub index_mut-store-requires : goal.index_mut-store-requires
index_mut-store-requires c =
    let at = queue_placed c.states_are_known.ensures (kept_of c.args.self.now) c.args.mail.ticket.0 c.args.mail.number c.args.path.now c.requires.0 c.args.host.0 c.requires.1 in
    let within : c.args.host.0 < length c.args.self.now.stores.items = at.host_in in
    search (rules, within)

pub returns-in_err-reserve-clause-keeps : goal.returns-in_err-reserve-clause-keeps
returns-in_err-reserve-clause-keeps c =
    let m = kept_of c.args.self.now in
    let at = queue_placed c.states_are_known.ensures m c.args.mail.ticket.0 c.args.mail.number c.args.path.now c.requires.0 c.args.host.0 c.requires.1 in
    let store = c.index_mut-store.result.now in
    let here : slice_get m.stores c.args.host.0 ≡ Some store = slice_get_read m.stores _ c.args.host.0 store refl at.host_in c.index_mut-store.ensures.value in
    let next = with_entry store c.args.path.now c.reserve.new.self in
    let writes : Writes store next c.args.path.now c.reserve.new.self = record { store = refl; gone = refl } in
    store_keeps m c.args.host.0 store next here (same_but_entry store next c.args.path.now c.entry_mut.result.now c.reserve.new.self c.entry_mut.ensures.value c.reserve.ensures.same writes)

pub returns-then-has-clause-part : goal.returns-then-has-clause-part
returns-then-has-clause-part c =
    let store = c.index_mut-store.result.now in
    let next = with_entry store c.args.path.now c.reserve.new.self in
    let writes : Writes store next c.args.path.now c.reserve.new.self = record { store = refl; gone = refl } in
    here_part (kept_of c.args.self.now) c.args.host.0 c.args.path.now store next c.reserve.new.self c.in_ok-reserve.ensures.waiting writes

pub returns-then-has-clause-keeps : goal.returns-then-has-clause-keeps
returns-then-has-clause-keeps c =
    let m = kept_of c.args.self.now in
    let at = queue_placed c.states_are_known.ensures m c.args.mail.ticket.0 c.args.mail.number c.args.path.now c.requires.0 c.args.host.0 c.requires.1 in
    let store = c.index_mut-store.result.now in
    let here : slice_get m.stores c.args.host.0 ≡ Some store = slice_get_read m.stores _ c.args.host.0 store refl at.host_in c.index_mut-store.ensures.value in
    let next = with_entry store c.args.path.now c.reserve.new.self in
    let writes : Writes store next c.args.path.now c.reserve.new.self = record { store = refl; gone = refl } in
    store_keeps m c.args.host.0 store next here (same_but_entry store next c.args.path.now c.entry_mut.result.now c.reserve.new.self c.entry_mut.ensures.value c.reserve.ensures.same writes)

pub returns-in_err-reserve-2-clause-keeps : goal.returns-in_err-reserve-2-clause-keeps
returns-in_err-reserve-2-clause-keeps c =
    let m = kept_of c.args.self.now in
    let at = queue_placed c.states_are_known.ensures m c.args.mail.ticket.0 c.args.mail.number c.args.path.now c.requires.0 c.args.host.0 c.requires.1 in
    let store = c.index_mut-store.result.now in
    let here : slice_get m.stores c.args.host.0 ≡ Some store = slice_get_read m.stores _ c.args.host.0 store refl at.host_in c.index_mut-store.ensures.value in
    store_keeps m c.args.host.0 store c.reserve-2.new.self here (same_maps store c.reserve-2.new.self c.reserve-2.ensures.store c.reserve-2.ensures.gone)

pub returns-in_err-first_entry-clause-keeps : goal.returns-in_err-first_entry-clause-keeps
returns-in_err-first_entry-clause-keeps c =
    let m = kept_of c.args.self.now in
    let at = queue_placed c.states_are_known.ensures m c.args.mail.ticket.0 c.args.mail.number c.args.path.now c.requires.0 c.args.host.0 c.requires.1 in
    let store = c.index_mut-store.result.now in
    let here : slice_get m.stores c.args.host.0 ≡ Some store = slice_get_read m.stores _ c.args.host.0 store refl at.host_in c.index_mut-store.ensures.value in
    store_keeps m c.args.host.0 store c.reserve-2.new.self here (same_maps store c.reserve-2.new.self c.reserve-2.ensures.store c.reserve-2.ensures.gone)

pub returns-clause-part : goal.returns-clause-part
returns-clause-part c =
    let m = kept_of c.args.self.now in
    let store = c.index_mut-store.result.now in
    let away : has c.args.path.now store ≡ false = sym c.has.ensures ∙ c.if-has.false in
    born_part m c.args.host.0 c.args.path.now store c.reserve-2.new.self c.in_ok-first_entry.field-0 away c.reserve-2.ensures.store c.in_ok-reserve-2.ensures.path c.in_ok-first_entry.ensures.room
    (c.in_ok-first_entry.ensures.entry m.plan.program (ap (λ (z : Program). z.shape) (sym c.program-program.ensures.program)))

pub returns-clause-keeps : goal.returns-clause-keeps
returns-clause-keeps c =
    let m = kept_of c.args.self.now in
    let at = queue_placed c.states_are_known.ensures m c.args.mail.ticket.0 c.args.mail.number c.args.path.now c.requires.0 c.args.host.0 c.requires.1 in
    let store = c.index_mut-store.result.now in
    let here : slice_get m.stores c.args.host.0 ≡ Some store = slice_get_read m.stores _ c.args.host.0 store refl at.host_in c.index_mut-store.ensures.value in
    store_keeps m c.args.host.0 store c.reserve-2.new.self here (same_maps store c.reserve-2.new.self c.reserve-2.ensures.store c.reserve-2.ensures.gone)

pub returns-in_err-reserve-clause-asks : goal.returns-in_err-reserve-clause-asks
returns-in_err-reserve-clause-asks c =
    let m = kept_of c.args.self.now in
    let at = queue_placed c.states_are_known.ensures m c.args.mail.ticket.0 c.args.mail.number c.args.path.now c.requires.0 c.args.host.0 c.requires.1 in
    let store = c.index_mut-store.result.now in
    let here : slice_get m.stores c.args.host.0 ≡ Some store = slice_get_read m.stores _ c.args.host.0 store refl at.host_in c.index_mut-store.ensures.value in
    let next = with_entry store c.args.path.now c.reserve.new.self in
    let writes : Writes store next c.args.path.now c.reserve.new.self = record { store = refl; gone = refl } in
    store_asks m c.args.host.0 store next here (entry_answers store next c.args.path.now c.entry_mut.result.now c.reserve.new.self c.entry_mut.ensures.value c.reserve.ensures.same writes)

pub returns-then-has-clause-asks : goal.returns-then-has-clause-asks
returns-then-has-clause-asks c =
    let m = kept_of c.args.self.now in
    let at = queue_placed c.states_are_known.ensures m c.args.mail.ticket.0 c.args.mail.number c.args.path.now c.requires.0 c.args.host.0 c.requires.1 in
    let store = c.index_mut-store.result.now in
    let here : slice_get m.stores c.args.host.0 ≡ Some store = slice_get_read m.stores _ c.args.host.0 store refl at.host_in c.index_mut-store.ensures.value in
    let next = with_entry store c.args.path.now c.reserve.new.self in
    let writes : Writes store next c.args.path.now c.reserve.new.self = record { store = refl; gone = refl } in
    store_asks m c.args.host.0 store next here (entry_answers store next c.args.path.now c.entry_mut.result.now c.reserve.new.self c.entry_mut.ensures.value c.reserve.ensures.same writes)

pub returns-in_err-reserve-2-clause-asks : goal.returns-in_err-reserve-2-clause-asks
returns-in_err-reserve-2-clause-asks c =
    let m = kept_of c.args.self.now in
    let at = queue_placed c.states_are_known.ensures m c.args.mail.ticket.0 c.args.mail.number c.args.path.now c.requires.0 c.args.host.0 c.requires.1 in
    let store = c.index_mut-store.result.now in
    let here : slice_get m.stores c.args.host.0 ≡ Some store = slice_get_read m.stores _ c.args.host.0 store refl at.host_in c.index_mut-store.ensures.value in
    store_asks m c.args.host.0 store c.reserve-2.new.self here (maps_answer store c.reserve-2.new.self c.reserve-2.ensures.store c.reserve-2.ensures.gone)

pub returns-in_err-first_entry-clause-asks : goal.returns-in_err-first_entry-clause-asks
returns-in_err-first_entry-clause-asks c =
    let m = kept_of c.args.self.now in
    let at = queue_placed c.states_are_known.ensures m c.args.mail.ticket.0 c.args.mail.number c.args.path.now c.requires.0 c.args.host.0 c.requires.1 in
    let store = c.index_mut-store.result.now in
    let here : slice_get m.stores c.args.host.0 ≡ Some store = slice_get_read m.stores _ c.args.host.0 store refl at.host_in c.index_mut-store.ensures.value in
    store_asks m c.args.host.0 store c.reserve-2.new.self here (maps_answer store c.reserve-2.new.self c.reserve-2.ensures.store c.reserve-2.ensures.gone)

pub returns-clause-asks : goal.returns-clause-asks
returns-clause-asks c =
    let m = kept_of c.args.self.now in
    let at = queue_placed c.states_are_known.ensures m c.args.mail.ticket.0 c.args.mail.number c.args.path.now c.requires.0 c.args.host.0 c.requires.1 in
    let store = c.index_mut-store.result.now in
    let here : slice_get m.stores c.args.host.0 ≡ Some store = slice_get_read m.stores _ c.args.host.0 store refl at.host_in c.index_mut-store.ensures.value in
    store_asks m c.args.host.0 store c.reserve-2.new.self here (maps_answer store c.reserve-2.new.self c.reserve-2.ensures.store c.reserve-2.ensures.gone)
