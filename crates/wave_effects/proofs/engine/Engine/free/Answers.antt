use Rattle.std.proofs.Common.{rules, ◌≡◌, ◌<◌, ◌-◌, ◌+◌, length, Some, refl, arith}
use Rattle.std.specs.Prelude.{slice_get}
use Rattle.std.proofs.lemmas.Option.{slice_get_read}
use Rattle.host_map.specs.Stores.{with_entry}
use Rattle.wave_states.specs.Labels.{Free}
use Rattle.wave_effects.specs.Keeping.{kept_of}
use Rattle.wave_effects.proofs.CellParts.{TakesMail}
use Rattle.wave_effects.proofs.StoreParts.{Writes}
use Rattle.wave_effects.proofs.Taking.{free_placed, free_taken}
use Rattle.wave_effects.proofs.Calm.{with_cell, with_store}
use Rattle.wave_effects.proofs.Framing.{moved_both, written_apart}
use Rattle.wave_effects.proofs.engine.Engine.free.Goals as goal

pub overflow_sub-mail : goal.overflow_sub-mail
overflow_sub-mail c = (free_placed c.states_are_known.ensures (kept_of c.args.self.now) c.args.mail.ticket.0 c.args.mail.number c.args.path.now c.requires.0 c.args.host.0 c.requires.1).low

pub index_mut-cell-requires : goal.index_mut-cell-requires
index_mut-cell-requires c =
    let at = free_placed c.states_are_known.ensures (kept_of c.args.self.now) c.args.mail.ticket.0 c.args.mail.number c.args.path.now c.requires.0 c.args.host.0 c.requires.1 in
    let within : c.args.mail.ticket.0 - c.args.self.now.first < length c.args.self.now.cells.items = omega (arith, at.low, at.within) in
    search (rules, within)

pub index_mut-store-requires : goal.index_mut-store-requires
index_mut-store-requires c =
    let at = free_placed c.states_are_known.ensures (kept_of c.args.self.now) c.args.mail.ticket.0 c.args.mail.number c.args.path.now c.requires.0 c.args.host.0 c.requires.1 in
    let within : c.args.host.0 < length c.args.self.now.stores.items = at.host_in in
    search (rules, within)

store_there : (c : goal.After-index_mut-store) → slice_get c.args.self.now.stores.items c.args.host.0 ≡ Some c.index_mut-store.result.now
store_there c =
    let at = free_placed c.states_are_known.ensures (kept_of c.args.self.now) c.args.mail.ticket.0 c.args.mail.number c.args.path.now c.requires.0 c.args.host.0 c.requires.1 in
    slice_get_read c.args.self.now.stores.items _ c.args.host.0 c.index_mut-store.result.now refl at.host_in c.index_mut-store.ensures.value

pub entry_mut-requires : goal.entry_mut-requires
entry_mut-requires c =
    let at = free_placed c.states_are_known.ensures (kept_of c.args.self.now) c.args.mail.ticket.0 c.args.mail.number c.args.path.now c.requires.0 c.args.host.0 c.requires.1 in
    at.there c.index_mut-store.result.now (store_there c)

pub returns-clause-takes : goal.returns-clause-takes
returns-clause-takes c = λ w.
    let m = kept_of c.args.self.now in
    let t = c.args.mail.ticket.0 in
    let at = free_placed c.states_are_known.ensures m t c.args.mail.number c.args.path.now c.requires.0 c.args.host.0 c.requires.1 in
    let i = t - m.first in
    let place : m.first + i ≡ t = omega (arith, at.low) in
    let within : i < length m.cells = omega (arith, at.low, at.within) in
    let there : slice_get m.cells i ≡ Some c.index_mut-cell.result.now = slice_get_read m.cells _ i c.index_mut-cell.result.now refl within c.index_mut-cell.ensures.value in
    let here : slice_get m.stores c.args.host.0 ≡ Some c.index_mut-store.result.now = slice_get_read m.stores _ c.args.host.0 c.index_mut-store.result.now refl at.host_in c.index_mut-store.ensures.value in
    let takes : TakesMail c.index_mut-cell.result.now c.take_mail.new.self c.args.mail.number = record { desk = c.take_mail.ensures.desk; actor = c.take_mail.ensures.actor } in
    let writes : Writes c.index_mut-store.result.now (with_entry c.index_mut-store.result.now c.args.path.now c.free.new.self) c.args.path.now c.free.new.self = record { store = refl; gone = refl } in
    free_taken c.states_are_known.ensures m t c.args.mail.number c.args.path.now w c.args.host.0 i c.index_mut-cell.result.now c.take_mail.new.self c.index_mut-store.result.now (with_entry c.index_mut-store.result.now c.args.path.now c.free.new.self) c.entry_mut.result.now c.free.new.self
    place there takes here c.entry_mut.ensures.value writes c.free.ensures.entry

pub returns-clause-moves : goal.returns-clause-moves
returns-clause-moves c = λ w.
    let m = kept_of c.args.self.now in
    let t = c.args.mail.ticket.0 in
    let at = free_placed c.states_are_known.ensures m t c.args.mail.number c.args.path.now c.requires.0 c.args.host.0 c.requires.1 in
    let i = t - m.first in
    let place : m.first + i ≡ t = omega (arith, at.low) in
    let within : i < length m.cells = omega (arith, at.low, at.within) in
    let cell = c.index_mut-cell.result.now in
    let there : slice_get m.cells i ≡ Some cell = slice_get_read m.cells _ i cell refl within c.index_mut-cell.ensures.value in
    let store = c.index_mut-store.result.now in
    let here : slice_get m.stores c.args.host.0 ≡ Some store = slice_get_read m.stores _ c.args.host.0 store refl at.host_in c.index_mut-store.ensures.value in
    let next = with_entry store c.args.path.now c.free.new.self in
    let writes : Writes store next c.args.path.now c.free.new.self = record { store = refl; gone = refl } in
    moved_both m (with_store (with_cell m i c.take_mail.new.self) c.args.host.0 next) (record { worker = w; host = c.args.host.0; act = Free t c.args.mail.number c.args.path.now }) 0 i cell c.take_mail.new.self place refl there refl refl
    (omega (arith, c.take_mail.ensures.fewer_mails)) store next here refl (written_apart store next c.args.path.now c.free.new.self writes) (λ away away'. refl) (λ off. record { next = refl; ready = refl; settled = refl })
