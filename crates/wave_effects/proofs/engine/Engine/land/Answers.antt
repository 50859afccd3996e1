use Rattle.std.proofs.Common.{rules, ◌≡◌, ◌<◌, ◌-◌, ◌+◌, length, Some, refl, sym, ◌∙◌, arith, true≢false}
use Rattle.std.specs.Prelude.{slice_get}
use Rattle.std.proofs.lemmas.Option.{slice_get_read}
use Rattle.wave_states.specs.Labels.{Land}
use Rattle.wave_effects.specs.Keeping.{kept_of}
use Rattle.wave_effects.proofs.CellParts.{TakesMail}
use Rattle.wave_effects.proofs.Taking.{land_placed, land_taken}
use Rattle.wave_effects.proofs.Calm.{with_cell, with_store}
use Rattle.wave_effects.proofs.Framing.{has_landed, moved_both, same_at}
use Rattle.wave_effects.proofs.engine.Engine.land.Goals as goal

pub overflow_sub-mail : goal.overflow_sub-mail
overflow_sub-mail c = (land_placed c.states_are_known.ensures (kept_of c.args.self.now) c.args.mail.ticket.0 c.args.mail.number c.args.path.now c.requires.enabled.0 c.args.host.0 c.requires.enabled.1).low

pub index_mut-cell-requires : goal.index_mut-cell-requires
index_mut-cell-requires c =
    let at = land_placed c.states_are_known.ensures (kept_of c.args.self.now) c.args.mail.ticket.0 c.args.mail.number c.args.path.now c.requires.enabled.0 c.args.host.0 c.requires.enabled.1 in
    let within : c.args.mail.ticket.0 - c.args.self.now.first < length c.args.self.now.cells.items = omega (arith, at.low, at.within) in
    search (rules, within)

pub index_mut-store-requires : goal.index_mut-store-requires
index_mut-store-requires c =
    let at = land_placed c.states_are_known.ensures (kept_of c.args.self.now) c.args.mail.ticket.0 c.args.mail.number c.args.path.now c.requires.enabled.0 c.args.host.0 c.requires.enabled.1 in
    let within : c.args.host.0 < length c.args.self.now.stores.items = at.host_in in
    search (rules, within)

pub entry_in-entry-requires : goal.entry_in-entry-requires
entry_in-entry-requires c =
    let m = kept_of c.args.self.now in
    let t = c.args.mail.ticket.0 in
    let at = land_placed c.states_are_known.ensures m t c.args.mail.number c.args.path.now c.requires.enabled.0 c.args.host.0 c.requires.enabled.1 in
    let i = t - m.first in
    let place : m.first + i ≡ t = omega (arith, at.low) in
    let within : i < length m.cells = omega (arith, at.low, at.within) in
    at.carries i c.index_mut-cell.result.now c.take_mail.result place (slice_get_read m.cells _ i c.index_mut-cell.result.now refl within c.index_mut-cell.ensures.value) c.take_mail.ensures.mail

pub land-requires : goal.land-requires
land-requires c =
    let at = land_placed c.states_are_known.ensures (kept_of c.args.self.now) c.args.mail.ticket.0 c.args.mail.number c.args.path.now c.requires.enabled.0 c.args.host.0 c.requires.enabled.1 in
    c.requires.room c.index_mut-store.result.now (slice_get_read c.args.self.now.stores.items _ c.args.host.0 c.index_mut-store.result.now refl at.host_in c.index_mut-store.ensures.value)

pub returns-clause-takes : goal.returns-clause-takes
returns-clause-takes c = λ w.
    let m = kept_of c.args.self.now in
    let t = c.args.mail.ticket.0 in
    let at = land_placed c.states_are_known.ensures m t c.args.mail.number c.args.path.now c.requires.enabled.0 c.args.host.0 c.requires.enabled.1 in
    let i = t - m.first in
    let place : m.first + i ≡ t = omega (arith, at.low) in
    let within : i < length m.cells = omega (arith, at.low, at.within) in
    let there : slice_get m.cells i ≡ Some c.index_mut-cell.result.now = slice_get_read m.cells _ i c.index_mut-cell.result.now refl within c.index_mut-cell.ensures.value in
    let here : slice_get m.stores c.args.host.0 ≡ Some c.index_mut-store.result.now = slice_get_read m.stores _ c.args.host.0 c.index_mut-store.result.now refl at.host_in c.index_mut-store.ensures.value in
    let takes : TakesMail c.index_mut-cell.result.now c.take_mail.new.self c.args.mail.number = record { desk = c.take_mail.ensures.desk; actor = c.take_mail.ensures.actor } in
    land_taken c.states_are_known.ensures m t c.args.mail.number c.args.path.now w c.args.host.0 i c.index_mut-cell.result.now c.take_mail.new.self c.index_mut-store.result.now c.land.new.store c.take_mail.result c.entry_in-entry.result
    place there takes c.take_mail.ensures.mail c.entry_in-entry.ensures here c.land.ensures.here c.land.ensures.store c.land.ensures.gone

pub returns-clause-moves : goal.returns-clause-moves
returns-clause-moves c = λ w.
    let m = kept_of c.args.self.now in
    let t = c.args.mail.ticket.0 in
    let at = land_placed c.states_are_known.ensures m t c.args.mail.number c.args.path.now c.requires.enabled.0 c.args.host.0 c.requires.enabled.1 in
    let i = t - m.first in
    let place : m.first + i ≡ t = omega (arith, at.low) in
    let within : i < length m.cells = omega (arith, at.low, at.within) in
    let cell = c.index_mut-cell.result.now in
    let there : slice_get m.cells i ≡ Some cell = slice_get_read m.cells _ i cell refl within c.index_mut-cell.ensures.value in
    let store = c.index_mut-store.result.now in
    let here : slice_get m.stores c.args.host.0 ≡ Some store = slice_get_read m.stores _ c.args.host.0 store refl at.host_in c.index_mut-store.ensures.value in
    moved_both m (with_store (with_cell m i c.take_mail.new.self) c.args.host.0 c.land.new.store) (record { worker = w; host = c.args.host.0; act = Land t c.args.mail.number c.args.path.now }) 0 i cell c.take_mail.new.self place refl there refl refl
    (omega (arith, c.take_mail.ensures.fewer_mails)) store c.land.new.store here refl (λ q n. same_at store c.land.new.store q (c.land.ensures.store q n) (c.land.ensures.gone q n))
    (λ away away'. absurd (true≢false (sym (has_landed store c.land.new.store c.args.path.now c.entry_in-entry.result c.land.ensures.here) ∙ away'))) (λ off. record { next = refl; ready = refl; settled = refl })
