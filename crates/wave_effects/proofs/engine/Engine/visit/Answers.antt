use Rattle.std.proofs.Common.{rules, ◌≡◌, ◌<◌, ◌-◌, ◌+◌, ◌≤◌, length, Some, None, refl, ap, ◌∙◌, arith}
use Rattle.std.specs.Prelude.{slice_get}
use Rattle.std.proofs.lemmas.Option.{slice_get_read}
use Rattle.wave_states.specs.States as theory
use Rattle.event_cells.specs.Keeps.{Sending}
use Rattle.wave_states.specs.Labels.{Visit}
use Rattle.event_cells.specs.Cells.{is_over, with_mail}
use Rattle.wave_effects.specs.Keeping.{kept_of}
use Rattle.wave_effects.proofs.CellParts.{TakesAndWaits}
use Rattle.wave_effects.proofs.Taking.{visit_goes_on, visit_placed, visit_taken}
use Rattle.wave_effects.proofs.Calm.{with_cell}
use Rattle.wave_effects.proofs.Framing.{moved_cell}
use Rattle.wave_effects.proofs.engine.Engine.visit.Goals as goal

pub overflow_sub-mail : goal.overflow_sub-mail
overflow_sub-mail c = (visit_placed c.states_are_known.ensures (kept_of c.args.self.now) c.args.mail.ticket.0 c.args.mail.number c.args.path.now c.requires.0 c.requires.1 c.requires.2).0

pub index_mut-cell-requires : goal.index_mut-cell-requires
index_mut-cell-requires c =
    let at = visit_placed c.states_are_known.ensures (kept_of c.args.self.now) c.args.mail.ticket.0 c.args.mail.number c.args.path.now c.requires.0 c.requires.1 c.requires.2 in
    let within : c.args.mail.ticket.0 - c.args.self.now.first < length c.args.self.now.cells.items = omega (arith, at.0, at.1) in
    search (rules, within)

pub set_status-requires : goal.set_status-requires
set_status-requires c =
    let m = kept_of c.args.self.now in
    let t = c.args.mail.ticket.0 in
    let at = visit_placed c.states_are_known.ensures m t c.args.mail.number c.args.path.now c.requires.0 c.requires.1 c.requires.2 in
    let i = t - m.first in
    let place : m.first + i ≡ t = omega (arith, at.0) in
    let within : i < length m.cells = omega (arith, at.0, at.1) in
    let there : slice_get m.cells i ≡ Some c.index_mut-cell.result.now = slice_get_read m.cells _ i c.index_mut-cell.result.now refl within c.index_mut-cell.ensures.value in
    ap is_over c.take_mail.ensures.status ∙ visit_goes_on c.states_are_known.ensures m t c.args.mail.number c.args.path.now c.requires.0 c.requires.1 c.requires.2 i c.index_mut-cell.result.now place there

pub returns-clause-takes : goal.returns-clause-takes
returns-clause-takes c = λ w host.
    let m = kept_of c.args.self.now in
    let t = c.args.mail.ticket.0 in
    let at = visit_placed c.states_are_known.ensures m t c.args.mail.number c.args.path.now c.requires.0 c.requires.1 c.requires.2 in
    let i = t - m.first in
    let place : m.first + i ≡ t = omega (arith, at.0) in
    let within : i < length m.cells = omega (arith, at.0, at.1) in
    let there : slice_get m.cells i ≡ Some c.index_mut-cell.result.now = slice_get_read m.cells _ i c.index_mut-cell.result.now refl within c.index_mut-cell.ensures.value in
    let takes : TakesAndWaits c.index_mut-cell.result.now c.set_status.new.self c.args.mail.number (theory.Ready c.args.path.now) = record {
      desk = λ d over h. c.set_status.ensures.desk (with_mail d c.args.mail.number None) (ap is_over c.take_mail.ensures.status ∙ over) (c.take_mail.ensures.desk d h);
      actor = c.set_status.ensures.actor ∙ c.take_mail.ensures.actor;
    } in
    visit_taken c.states_are_known.ensures m t c.args.mail.number c.args.path.now w host i c.index_mut-cell.result.now c.set_status.new.self place there takes

pub returns-clause-moves : goal.returns-clause-moves
returns-clause-moves c = λ w host.
    let m = kept_of c.args.self.now in
    let t = c.args.mail.ticket.0 in
    let at = visit_placed c.states_are_known.ensures m t c.args.mail.number c.args.path.now c.requires.0 c.requires.1 c.requires.2 in
    let i = t - m.first in
    let place : m.first + i ≡ t = omega (arith, at.0) in
    let within : i < length m.cells = omega (arith, at.0, at.1) in
    let cell = c.index_mut-cell.result.now in
    let there : slice_get m.cells i ≡ Some cell = slice_get_read m.cells _ i cell refl within c.index_mut-cell.ensures.value in
    let same = ap (λ (o : Sending). length o.mails) c.set_status.ensures.outbox in
    let few : length c.set_status.new.self.outbox.mails ≤ 0 + length cell.outbox.mails = omega (arith, same, c.take_mail.ensures.fewer_mails) in
    moved_cell m (with_cell m i c.set_status.new.self) (record { worker = w; host = host; act = Visit t c.args.mail.number c.args.path.now }) 0 i cell c.set_status.new.self place refl there refl refl few refl (λ off. record { next = refl; ready = refl; settled = refl })
