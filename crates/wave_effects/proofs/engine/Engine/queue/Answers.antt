use Rattle.std.proofs.Common.{rules, ◌≡◌, ◌<◌, ◌-◌, ◌+◌, length, is_some, Some, None, refl, sym, ap, ◌∙◌, arith}
use Rattle.std.specs.Prelude.{slice_get, option_map}
use Rattle.std.proofs.lemmas.Option.{slice_get_read}
use Rattle.event_cells.specs.Cells.{is_over, with_mail}
use Rattle.std.specs.FinMap as table
use Rattle.event_cells.specs.Keeps.{Sending}
use Rattle.wave_states.specs.Labels.{Queue}
use Rattle.wave_states.specs.States as theory
use Rattle.wave_states.specs.States.{Ask}
use Rattle.wave_effects.specs.Keeping.{kept_of}
use Rattle.wave_effects.specs.inner.Asks.{asked_in}
use Rattle.wave_effects.proofs.CellParts.{TakesAndWaits}
use Rattle.wave_effects.proofs.Queueing.{queue_goes_on, queue_placed, queue_taken}
use Rattle.wave_effects.proofs.Calm.{with_cell, with_store}
use Rattle.wave_effects.proofs.Framing.{moved_both, written_apart}
use Rattle.wave_effects.proofs.StoreParts.{Writes}
use Rattle.wave_effects.proofs.engine.Engine.queue.Goals as goal

pub overflow_sub-mail : goal.overflow_sub-mail
overflow_sub-mail c = (queue_placed c.states_are_known.ensures (kept_of c.args.self.now) c.args.mail.ticket.0 c.args.mail.number c.args.path.now c.requires.enabled.0 c.args.host.0 c.requires.enabled.1).low

pub index_mut-cell-requires : goal.index_mut-cell-requires
index_mut-cell-requires c =
    let at = queue_placed c.states_are_known.ensures (kept_of c.args.self.now) c.args.mail.ticket.0 c.args.mail.number c.args.path.now c.requires.enabled.0 c.args.host.0 c.requires.enabled.1 in
    let within : c.args.mail.ticket.0 - c.args.self.now.first < length c.args.self.now.cells.items = omega (arith, at.low, at.within) in
    search (rules, within)

pub asked_in-number-requires : goal.asked_in-number-requires
asked_in-number-requires c =
    let m = kept_of c.args.self.now in
    let t = c.args.mail.ticket.0 in
    let at = queue_placed c.states_are_known.ensures m t c.args.mail.number c.args.path.now c.requires.enabled.0 c.args.host.0 c.requires.enabled.1 in
    let i = t - m.first in
    let place : m.first + i ≡ t = omega (arith, at.low) in
    let within : i < length m.cells = omega (arith, at.low, at.within) in
    ap (λ o. is_some (asked_in o)) c.mail.ensures ∙ at.asks i c.index_mut-cell.result.now place (slice_get_read m.cells _ i c.index_mut-cell.result.now refl within c.index_mut-cell.ensures.value)

pub set_status-requires : goal.set_status-requires
set_status-requires c =
    let m = kept_of c.args.self.now in
    let t = c.args.mail.ticket.0 in
    let at = queue_placed c.states_are_known.ensures m t c.args.mail.number c.args.path.now c.requires.enabled.0 c.args.host.0 c.requires.enabled.1 in
    let i = t - m.first in
    let place : m.first + i ≡ t = omega (arith, at.low) in
    let within : i < length m.cells = omega (arith, at.low, at.within) in
    let there : slice_get m.cells i ≡ Some c.index_mut-cell.result.now = slice_get_read m.cells _ i c.index_mut-cell.result.now refl within c.index_mut-cell.ensures.value in
    ap is_over c.take_mail.ensures.status ∙ queue_goes_on c.states_are_known.ensures m t c.args.mail.number c.args.path.now c.requires.enabled.0 c.args.host.0 c.requires.enabled.1 i c.index_mut-cell.result.now place there

pub index_mut-store-requires : goal.index_mut-store-requires
index_mut-store-requires c =
    let at = queue_placed c.states_are_known.ensures (kept_of c.args.self.now) c.args.mail.ticket.0 c.args.mail.number c.args.path.now c.requires.enabled.0 c.args.host.0 c.requires.enabled.1 in
    let within : c.args.host.0 < length c.args.self.now.stores.items = at.host_in in
    search (rules, within)

pub line_up-requires : goal.line_up-requires
line_up-requires c =
    let m = kept_of c.args.self.now in
    let at = queue_placed c.states_are_known.ensures m c.args.mail.ticket.0 c.args.mail.number c.args.path.now c.requires.enabled.0 c.args.host.0 c.requires.enabled.1 in
    c.requires.part.room c.index_mut-store.result.now (slice_get_read m.stores _ c.args.host.0 c.index_mut-store.result.now refl at.host_in c.index_mut-store.ensures.value)

pub returns-clause-takes : goal.returns-clause-takes
returns-clause-takes c = λ w.
    let m = kept_of c.args.self.now in
    let t = c.args.mail.ticket.0 in
    let k = c.args.mail.number in
    let at = queue_placed c.states_are_known.ensures m t k c.args.path.now c.requires.enabled.0 c.args.host.0 c.requires.enabled.1 in
    let i = t - m.first in
    let place : m.first + i ≡ t = omega (arith, at.low) in
    let within : i < length m.cells = omega (arith, at.low, at.within) in
    let cell = c.index_mut-cell.result.now in
    let there : slice_get m.cells i ≡ Some cell = slice_get_read m.cells _ i cell refl within c.index_mut-cell.ensures.value in
    let store = c.index_mut-store.result.now in
    let here : slice_get m.stores c.args.host.0 ≡ Some store = slice_get_read m.stores _ c.args.host.0 store refl at.host_in c.index_mut-store.ensures.value in
    let takes : TakesAndWaits cell c.set_status.new.self k (theory.Waiting c.args.path.now) = record {
      desk = λ d over h. c.set_status.ensures.desk (with_mail d k None) (ap is_over c.take_mail.ensures.status ∙ over) (c.take_mail.ensures.desk d h);
      actor = c.set_status.ensures.actor ∙ c.take_mail.ensures.actor;
    } in
    let numbers = ap (λ o. option_map (λ (a : Ask). a.number) (asked_in o)) (sym c.mail.ensures) ∙ c.asked_in-number.ensures.number in
    let peeks = ap (λ o. option_map (λ (a : Ask). a.peek) (asked_in o)) (sym c.mail.ensures) ∙ c.asked_in-number.ensures.peek in
    queue_taken c.states_are_known.ensures m t k c.args.path.now w c.args.host.0 i cell c.set_status.new.self store c.line_up.new.store c.args.born c.asked_in-number.result.0 c.asked_in-number.result.1 place there takes here c.requires.part numbers peeks c.line_up.ensures

pub returns-clause-moves : goal.returns-clause-moves
returns-clause-moves c = λ w.
    let m = kept_of c.args.self.now in
    let t = c.args.mail.ticket.0 in
    let k = c.args.mail.number in
    let p = c.args.path.now in
    let at = queue_placed c.states_are_known.ensures m t k p c.requires.enabled.0 c.args.host.0 c.requires.enabled.1 in
    let i = t - m.first in
    let place : m.first + i ≡ t = omega (arith, at.low) in
    let within : i < length m.cells = omega (arith, at.low, at.within) in
    let cell = c.index_mut-cell.result.now in
    let there : slice_get m.cells i ≡ Some cell = slice_get_read m.cells _ i cell refl within c.index_mut-cell.ensures.value in
    let store = c.index_mut-store.result.now in
    let here : slice_get m.stores c.args.host.0 ≡ Some store = slice_get_read m.stores _ c.args.host.0 store refl at.host_in c.index_mut-store.ensures.value in
    let next = c.line_up.new.store in
    let lines = c.line_up.ensures in
    let writes : Writes store next p lines.entry = record { store = lines.store; gone = lines.gone } in
    let same = ap (λ (o : Sending). length o.mails) c.set_status.ensures.outbox in
    moved_both m (with_store (with_cell m i c.set_status.new.self) c.args.host.0 next) (record { worker = w; host = c.args.host.0; act = Queue t k p }) 0 i cell c.set_status.new.self place refl there refl refl
    (omega (arith, same, c.take_mail.ensures.fewer_mails)) store next here refl (written_apart store next p lines.entry writes) (λ away away'. ap (λ g. table.get g p) lines.gone) (λ off. record { next = refl; ready = refl; settled = refl })
