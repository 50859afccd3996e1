use Rattle.std.proofs.Common.{rules, ◌≡◌, ◌<◌, ◌≤◌, length, Some, refl}
use Rattle.std.specs.Prelude.{slice_get}
use Rattle.std.proofs.lemmas.Option.{slice_get_read}
use Rattle.wave_effects.specs.Keeping.{kept_of}
use Rattle.wave_effects.proofs.Freer.{land_room, on_ok, same_maps, store_keeps}
use Rattle.wave_effects.proofs.Taking.{land_placed}
use Rattle.wave_effects.proofs.Unasked.{maps_answer, store_asks}
use Rattle.wave_effects.proofs.engine.Engine.prepare_land.Goals as goal

pub index_mut-store-requires : goal.index_mut-store-requires
index_mut-store-requires c =
    let at = land_placed c.states_are_known.ensures (kept_of c.args.self.now) c.args.mail.ticket.0 c.args.mail.number c.args.path.now c.requires.0 c.args.host.0 c.requires.1 in
    let within : c.args.host.0 < length c.args.self.now.stores.items = at.host_in in
    search (rules, within)

pub returns-clause-room : goal.returns-clause-room
returns-clause-room c =
    on_ok c.reserve.result (1 ≤ c.reserve.new.self.path_room) _ (λ (h : 1 ≤ c.reserve.new.self.path_room). land_room (kept_of c.args.self.now) c.args.host.0 c.args.path.now c.index_mut-store.result.now c.reserve.new.self h) c.reserve.ensures.path

pub returns-clause-keeps : goal.returns-clause-keeps
returns-clause-keeps c =
    let m = kept_of c.args.self.now in
    let at = land_placed c.states_are_known.ensures m c.args.mail.ticket.0 c.args.mail.number c.args.path.now c.requires.0 c.args.host.0 c.requires.1 in
    let store = c.index_mut-store.result.now in
    let here : slice_get m.stores c.args.host.0 ≡ Some store = slice_get_read m.stores _ c.args.host.0 store refl at.host_in c.index_mut-store.ensures.value in
    store_keeps m c.args.host.0 store c.reserve.new.self here (same_maps store c.reserve.new.self c.reserve.ensures.store c.reserve.ensures.gone)

pub returns-clause-asks : goal.returns-clause-asks
returns-clause-asks c =
    let m = kept_of c.args.self.now in
    let at = land_placed c.states_are_known.ensures m c.args.mail.ticket.0 c.args.mail.number c.args.path.now c.requires.0 c.args.host.0 c.requires.1 in
    let store = c.index_mut-store.result.now in
    let here : slice_get m.stores c.args.host.0 ≡ Some store = slice_get_read m.stores _ c.args.host.0 store refl at.host_in c.index_mut-store.ensures.value in
    store_asks m c.args.host.0 store c.reserve.new.self here (maps_answer store c.reserve.new.self c.reserve.ensures.store c.reserve.ensures.gone)
