use Rattle.std.proofs.Common.{rules, ◌≡◌, ◌<◌, ◌-◌, ◌+◌, length, is_some, Some, refl, sym, ap, ◌∙◌, arith}
use Rattle.std.specs.Prelude.{slice_get, option_map}
use Rattle.std.proofs.lemmas.Option.{slice_get_read}
use Rattle.migration_core.specs.declared.mail.Letter.TheVariants as letter
use Rattle.event_cells.specs.declared.outbox.Envelope.{Envelope}
use Rattle.event_cells.specs.Keeps.{mail_in}
use Rattle.wave_states.specs.Labels.{Pass}
use Rattle.wave_states.specs.States.{Ask}
use Rattle.wave_effects.specs.Keeping.{kept_of}
use Rattle.wave_effects.specs.inner.Asks.{asked_in, number_in}
use Rattle.wave_effects.proofs.CellParts.{Redirects}
use Rattle.wave_effects.proofs.Queueing.{goes_to, pass_finds, some_is}
use Rattle.wave_effects.proofs.Taking.{pass_placed, pass_taken}
use Rattle.wave_effects.proofs.Calm.{with_cell}
use Rattle.wave_effects.proofs.Framing.{moved_cell}
use Rattle.wave_effects.proofs.engine.Engine.pass.Goals as goal

pub index-store-requires : goal.index-store-requires
index-store-requires c =
    let at = pass_placed c.states_are_known.ensures (kept_of c.args.self.now) c.args.mail.ticket.0 c.args.mail.number c.args.path.now c.requires.0 c.args.host.0 c.args.to.0 c.requires.1 in
    let within : c.args.host.0 < length c.args.self.now.stores.items = at.host_in in
    search (rules, within)

pub number_in-followed-requires : goal.number_in-followed-requires
number_in-followed-requires c =
    let m = kept_of c.args.self.now in
    let at = pass_placed c.states_are_known.ensures m c.args.mail.ticket.0 c.args.mail.number c.args.path.now c.requires.0 c.args.host.0 c.args.to.0 c.requires.1 in
    let finds = pass_finds c.states_are_known.ensures m c.args.mail.ticket.0 c.args.mail.number c.args.path.now c.requires.0 c.args.host.0 c.args.to.0 c.requires.1 in
    ap (λ f. is_some (number_in f)) c.find.ensures ∙ finds.number c.index-store.result.now (slice_get_read m.stores _ c.args.host.0 c.index-store.result.now refl at.host_in c.index-store.ensures)

pub overflow_sub-mail : goal.overflow_sub-mail
overflow_sub-mail c = (pass_placed c.states_are_known.ensures (kept_of c.args.self.now) c.args.mail.ticket.0 c.args.mail.number c.args.path.now c.requires.0 c.args.host.0 c.args.to.0 c.requires.1).low

pub index_mut-cell-requires : goal.index_mut-cell-requires
index_mut-cell-requires c =
    let at = pass_placed c.states_are_known.ensures (kept_of c.args.self.now) c.args.mail.ticket.0 c.args.mail.number c.args.path.now c.requires.0 c.args.host.0 c.args.to.0 c.requires.1 in
    let within : c.args.mail.ticket.0 - c.args.self.now.first < length c.args.self.now.cells.items = omega (arith, at.low, at.within) in
    search (rules, within)

pub asked_in-number-requires : goal.asked_in-number-requires
asked_in-number-requires c =
    let m = kept_of c.args.self.now in
    let t = c.args.mail.ticket.0 in
    let at = pass_placed c.states_are_known.ensures m t c.args.mail.number c.args.path.now c.requires.0 c.args.host.0 c.args.to.0 c.requires.1 in
    let finds = pass_finds c.states_are_known.ensures m t c.args.mail.number c.args.path.now c.requires.0 c.args.host.0 c.args.to.0 c.requires.1 in
    let i = t - m.first in
    let place : m.first + i ≡ t = omega (arith, at.low) in
    let within : i < length m.cells = omega (arith, at.low, at.within) in
    ap (λ o. is_some (asked_in o)) c.mail.ensures ∙ finds.asks i c.index_mut-cell.result.now place (slice_get_read m.cells _ i c.index_mut-cell.result.now refl within c.index_mut-cell.ensures.value)

pub returns-clause-takes : goal.returns-clause-takes
returns-clause-takes c = λ w.
    let m = kept_of c.args.self.now in
    let t = c.args.mail.ticket.0 in
    let k = c.args.mail.number in
    let at = pass_placed c.states_are_known.ensures m t k c.args.path.now c.requires.0 c.args.host.0 c.args.to.0 c.requires.1 in
    let finds = pass_finds c.states_are_known.ensures m t k c.args.path.now c.requires.0 c.args.host.0 c.args.to.0 c.requires.1 in
    let i = t - m.first in
    let place : m.first + i ≡ t = omega (arith, at.low) in
    let within : i < length m.cells = omega (arith, at.low, at.within) in
    let cell = c.index_mut-cell.result.now in
    let there : slice_get m.cells i ≡ Some cell = slice_get_read m.cells _ i cell refl within c.index_mut-cell.ensures.value in
    let store = c.index-store.result.now in
    let here : slice_get m.stores c.args.host.0 ≡ Some store = slice_get_read m.stores _ c.args.host.0 store refl at.host_in c.index-store.ensures in
    let env : Envelope = record { to = c.args.to; path = c.args.path.now; letter = letter.Enter c.asked_in-number.result.0 c.number_in-followed.result c.asked_in-number.result.1 } in
    let turns : Redirects cell c.redirect.new.self k env = record { desk = c.redirect.ensures.desk; actor = c.redirect.ensures.actor } in
    let old = some_is (mail_in cell.outbox.mails k) (at.mailed i cell place there) in
    let numbers = ap (λ o. option_map (λ (a : Ask). a.number) (asked_in o)) (sym c.mail.ensures) ∙ c.asked_in-number.ensures.number in
    let peeks = ap (λ o. option_map (λ (a : Ask). a.peek) (asked_in o)) (sym c.mail.ensures) ∙ c.asked_in-number.ensures.peek in
    let follows = ap number_in (sym c.find.ensures) ∙ c.number_in-followed.ensures in
    pass_taken c.states_are_known.ensures m t k c.args.path.now w c.args.host.0 c.args.to.0 i cell c.redirect.new.self store old.0 env place there turns here old.1
    (goes_to c.states_are_known.ensures m t k c.args.path.now w c.args.host.0 c.args.to.0 (mail_in cell.outbox.mails k) old.0 store c.asked_in-number.result.0 c.number_in-followed.result c.asked_in-number.result.1 c.args.to refl old.1 numbers peeks (finds.away store here) follows)

pub returns-clause-moves : goal.returns-clause-moves
returns-clause-moves c = λ w.
    let m = kept_of c.args.self.now in
    let t = c.args.mail.ticket.0 in
    let k = c.args.mail.number in
    let at = pass_placed c.states_are_known.ensures m t k c.args.path.now c.requires.0 c.args.host.0 c.args.to.0 c.requires.1 in
    let i = t - m.first in
    let place : m.first + i ≡ t = omega (arith, at.low) in
    let within : i < length m.cells = omega (arith, at.low, at.within) in
    let cell = c.index_mut-cell.result.now in
    let there : slice_get m.cells i ≡ Some cell = slice_get_read m.cells _ i cell refl within c.index_mut-cell.ensures.value in
    moved_cell m (with_cell m i c.redirect.new.self) (record { worker = w; host = c.args.host.0; act = Pass t k c.args.path.now c.args.to.0 }) 0 i cell c.redirect.new.self place refl there refl refl
    (omega (arith, c.redirect.ensures.as_many_mails)) refl (λ off. record { next = refl; ready = refl; settled = refl })
