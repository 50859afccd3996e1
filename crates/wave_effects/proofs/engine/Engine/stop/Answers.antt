use Rattle.std.proofs.Common.{rules, ◌≡◌, ◌∙◌, ℕ, ◌+◌, ◌<◌, ◌≤◌, ◌-◌, length, true, Some, refl, sym, ap, arith, true≢false}
use Rattle.std.specs.Prelude.{slice_get}
use Rattle.std.specs.FinMap as table
use Rattle.std.proofs.lemmas.Option.{slice_get_read, slice_get_within}
use Rattle.host_map.specs.Stores.{has}
use Rattle.event_cells.specs.declared.cell.Cell.{Cell}
use Rattle.wave_theory.proofs.Basics.{some_same}
use Rattle.wave_effects.specs.Running.{stop_of}
use Rattle.wave_effects.specs.declared.actor.Actor.{Actor}
use Rattle.wave_effects.specs.declared.lease.Lease.{Lease}
use Rattle.wave_effects.specs.Actors.{peeks_now}
use Rattle.wave_effects.specs.Keeping.{kept_of}
use Rattle.wave_effects.specs.Machines.{Kept}
use Rattle.wave_effects.proofs.Depth.{near}
use Rattle.wave_effects.proofs.Halting.{above, cell_at, counted, enabled, fresh, goes_on, numbered, worker_at}
use Rattle.wave_effects.proofs.Roomy.{keeps, stopping_still}
use Rattle.wave_effects.proofs.Stopping.{Adds, has_mail, leaves_as, placed_at, still_has, stop_taken, stops_still}
use Rattle.wave_effects.proofs.Framing.{moved_both, same_at}
use Rattle.wave_effects.proofs.Unasked.{moves_after, same_asks}
use Rattle.wave_effects.proofs.engine.Engine.stop.Goals as goal

pub prepare_stop-requires-clause-near : goal.prepare_stop-requires-clause-near
prepare_stop-requires-clause-near c = let on = c.requires.stopping in near c.states_are_known.ensures c.segments_are_known.ensures (kept_of c.args.self.now) c.args.lease c.args.pause on.start on.state on.stands on.back

pub prepare_stop-requires-clause-place : goal.prepare_stop-requires-clause-place
prepare_stop-requires-clause-place c =
    let m : Kept = kept_of c.args.self.now in
    let on = c.requires.stopping in
    let at = cell_at c.states_are_known.ensures c.segments_are_known.ensures m c.args.lease c.args.pause on.start on.state on.stands on.back in
    let place = placed_at c.args.lease.path m.stores c.args.host.0 c.requires.place in
    record {
      low = at.0;
      within = at.1;
      host_in = slice_get_within m.stores c.args.host.0 place.0 place.1;
      goes_on = λ x there. goes_on c.states_are_known.ensures c.segments_are_known.ensures m c.args.lease c.args.pause on.start on.state on.stands on.back (c.args.lease.ticket.0 - m.first) x (omega (arith, at.0)) there;
    }

pub returns-in-Err-clause-keeps : goal.returns-in-Err-clause-keeps
returns-in-Err-clause-keeps c = keeps (kept_of c.args.self.now) (kept_of c.prepare_stop.new.self) c.prepare_stop.ensures.same

pub overflow_sub-ticket : goal.overflow_sub-ticket
overflow_sub-ticket c =
    let on = stopping_still (kept_of c.args.self.now) (kept_of c.prepare_stop.new.self) c.prepare_stop.ensures.same c.args.lease c.args.pause c.requires.stopping in
    (cell_at c.states_are_known.ensures c.segments_are_known.ensures (kept_of c.prepare_stop.new.self) c.args.lease c.args.pause on.start on.state on.stands on.back).0

pub index_mut-cell-requires : goal.index_mut-cell-requires
index_mut-cell-requires c =
    let on = stopping_still (kept_of c.args.self.now) (kept_of c.prepare_stop.new.self) c.prepare_stop.ensures.same c.args.lease c.args.pause c.requires.stopping in
    let at = cell_at c.states_are_known.ensures c.segments_are_known.ensures (kept_of c.prepare_stop.new.self) c.args.lease c.args.pause on.start on.state on.stands on.back in
    let within : c.args.lease.ticket.0 - c.prepare_stop.new.self.first < length c.prepare_stop.new.self.cells.items = omega (arith, at.0, at.1) in
    search (rules, within)

pub index_mut-store-requires : goal.index_mut-store-requires
index_mut-store-requires c =
    let m : Kept = kept_of c.args.self.now in
    let place = placed_at c.args.lease.path m.stores c.args.host.0 c.requires.place in
    let old = slice_get_within m.stores c.args.host.0 place.0 place.1 in
    let many = c.prepare_stop.ensures.same.as_many_stores in
    let within : c.args.host.0 < length c.prepare_stop.new.self.stores.items = omega (arith, old, many) in
    search (rules, within)

pub leave-result-requires-clause-there : goal.leave-result-requires-clause-there
leave-result-requires-clause-there c =
    let m : Kept = kept_of c.args.self.now in
    let m1 : Kept = kept_of c.prepare_stop.new.self in
    let h = c.args.host.0 in
    let st = c.index_mut-store.result.now in
    let place = placed_at c.args.lease.path m.stores h c.requires.place in
    let old = slice_get_within m.stores h place.0 place.1 in
    let many = c.prepare_stop.ensures.same.as_many_stores in
    let within : h < length m1.stores = omega (arith, old, many) in
    let here : slice_get m1.stores h ≡ Some st = slice_get_read m1.stores _ h st refl within c.index_mut-store.ensures.value in
    ap (λ (l : Lease). has l.path st) c.prepare_stop.ensures.lease ∙ still_has m m1 c.prepare_stop.ensures.same c.args.lease.path h place.0 st place.1 place.2 here

pub leave-result-requires-clause-counted : goal.leave-result-requires-clause-counted
leave-result-requires-clause-counted c = λ e is.
    let m : Kept = kept_of c.args.self.now in
    let m1 : Kept = kept_of c.prepare_stop.new.self in
    let h = c.args.host.0 in
    let st = c.index_mut-store.result.now in
    let place = placed_at c.args.lease.path m.stores h c.requires.place in
    let old = slice_get_within m.stores h place.0 place.1 in
    let many = c.prepare_stop.ensures.same.as_many_stores in
    let within : h < length m1.stores = omega (arith, old, many) in
    let here : slice_get m1.stores h ≡ Some st = slice_get_read m1.stores _ h st refl within c.index_mut-store.ensures.value in
    let on = stopping_still m m1 c.prepare_stop.ensures.same c.args.lease c.args.pause c.requires.stopping in
    counted c.states_are_known.ensures c.segments_are_known.ensures m1 c.args.lease c.args.pause on.start on.state on.stands on.back h st e here (sym (ap (λ (l : Lease). table.get st.store l.path) c.prepare_stop.ensures.lease) ∙ is)

pub leave-result-requires-clause-marks : goal.leave-result-requires-clause-marks
leave-result-requires-clause-marks c =
    let m : Kept = kept_of c.args.self.now in
    let m1 : Kept = kept_of c.prepare_stop.new.self in
    let h = c.args.host.0 in
    let st = c.index_mut-store.result.now in
    let place = placed_at c.args.lease.path m.stores h c.requires.place in
    let old = slice_get_within m.stores h place.0 place.1 in
    let many = c.prepare_stop.ensures.same.as_many_stores in
    let within : h < length m1.stores = omega (arith, old, many) in
    c.in-Ok.ensures.room.marks st (slice_get_read m1.stores _ h st refl within c.index_mut-store.ensures.value)

pub leave-result-requires-clause-room : goal.leave-result-requires-clause-room
leave-result-requires-clause-room c =
    let m1 : Kept = kept_of c.prepare_stop.new.self in
    let i = c.args.lease.ticket.0 - m1.first in
    let x = c.index_mut-cell.result.now in
    let on = stopping_still (kept_of c.args.self.now) m1 c.prepare_stop.ensures.same c.args.lease c.args.pause c.requires.stopping in
    let at = cell_at c.states_are_known.ensures c.segments_are_known.ensures m1 c.args.lease c.args.pause on.start on.state on.stands on.back in
    let within : i < length m1.cells = omega (arith, at.0, at.1) in
    c.in-Ok.ensures.room.mails x (slice_get_read m1.cells _ i x refl within c.index_mut-cell.ensures.value)

pub leave-result-requires-clause-goes_on : goal.leave-result-requires-clause-goes_on
leave-result-requires-clause-goes_on c =
    let m1 : Kept = kept_of c.prepare_stop.new.self in
    let i = c.args.lease.ticket.0 - m1.first in
    let x = c.index_mut-cell.result.now in
    let on = stopping_still (kept_of c.args.self.now) m1 c.prepare_stop.ensures.same c.args.lease c.args.pause c.requires.stopping in
    let at = cell_at c.states_are_known.ensures c.segments_are_known.ensures m1 c.args.lease c.args.pause on.start on.state on.stands on.back in
    let within : i < length m1.cells = omega (arith, at.0, at.1) in
    goes_on c.states_are_known.ensures c.segments_are_known.ensures m1 c.args.lease c.args.pause on.start on.state on.stands on.back i x (omega (arith, at.0)) (slice_get_read m1.cells _ i x refl within c.index_mut-cell.ensures.value)

pub leave-result-requires-clause-numbers : goal.leave-result-requires-clause-numbers
leave-result-requires-clause-numbers c =
    let m1 : Kept = kept_of c.prepare_stop.new.self in
    let i = c.args.lease.ticket.0 - m1.first in
    let x = c.index_mut-cell.result.now in
    let on = stopping_still (kept_of c.args.self.now) m1 c.prepare_stop.ensures.same c.args.lease c.args.pause c.requires.stopping in
    let at = cell_at c.states_are_known.ensures c.segments_are_known.ensures m1 c.args.lease c.args.pause on.start on.state on.stands on.back in
    let within : i < length m1.cells = omega (arith, at.0, at.1) in
    numbered c.states_are_known.ensures c.segments_are_known.ensures m1 c.args.lease c.args.pause on.start on.state on.stands on.back i x (slice_get_read m1.cells _ i x refl within c.index_mut-cell.ensures.value)

pub leave-result-requires-clause-mail : goal.leave-result-requires-clause-mail
leave-result-requires-clause-mail c =
    let m1 : Kept = kept_of c.prepare_stop.new.self in
    let i = c.args.lease.ticket.0 - m1.first in
    let x = c.index_mut-cell.result.now in
    let on = stopping_still (kept_of c.args.self.now) m1 c.prepare_stop.ensures.same c.args.lease c.args.pause c.requires.stopping in
    let at = cell_at c.states_are_known.ensures c.segments_are_known.ensures m1 c.args.lease c.args.pause on.start on.state on.stands on.back in
    let within : i < length m1.cells = omega (arith, at.0, at.1) in
    let there : slice_get m1.cells i ≡ Some x = slice_get_read m1.cells _ i x refl within c.index_mut-cell.ensures.value in
    let is = on.stands.shows.cells.each i x there in
    has_mail c.args.host.0 c.args.lease.path c.args.lease.body is.desk.event.held (peeks_now c.args.lease.actor) c.args.pause c.in-Ok.mail c.prepare_stop.new.lease.body (c.in-Ok.ensures.mail x there is.desk is.stands)

pub settle-requires-clause-above : goal.settle-requires-clause-above
settle-requires-clause-above c =
    let on = stopping_still (kept_of c.args.self.now) (kept_of c.prepare_stop.new.self) c.prepare_stop.ensures.same c.args.lease c.args.pause c.requires.stopping in
    above c.states_are_known.ensures c.segments_are_known.ensures (kept_of c.prepare_stop.new.self) c.args.lease c.args.pause on.start on.state on.stands on.back

pub settle-requires-clause-fresh : goal.settle-requires-clause-fresh
settle-requires-clause-fresh c =
    let on = stopping_still (kept_of c.args.self.now) (kept_of c.prepare_stop.new.self) c.prepare_stop.ensures.same c.args.lease c.args.pause c.requires.stopping in
    fresh c.states_are_known.ensures c.segments_are_known.ensures (kept_of c.prepare_stop.new.self) c.args.lease c.args.pause on.start on.state on.stands on.back

pub index_mut-requires : goal.index_mut-requires
index_mut-requires c =
    let on = stopping_still (kept_of c.args.self.now) (kept_of c.prepare_stop.new.self) c.prepare_stop.ensures.same c.args.lease c.args.pause c.requires.stopping in
    let within : c.args.lease.worker.0 < length c.prepare_stop.new.self.hands.items = worker_at c.states_are_known.ensures c.segments_are_known.ensures (kept_of c.prepare_stop.new.self) c.args.lease c.args.pause on.start on.state on.stands on.back in
    search (rules, within)

pub returns-clause-enabled : goal.returns-clause-enabled
returns-clause-enabled c = λ start s stands back.
    let m : Kept = kept_of c.args.self.now in
    let h = c.args.host.0 in
    let place = placed_at c.args.lease.path m.stores h c.requires.place in
    enabled c.states_are_known.ensures c.segments_are_known.ensures m c.args.lease c.args.pause start s stands back h place.0 place.1 place.2

pub returns-clause-stops : goal.returns-clause-stops
returns-clause-stops c =
    let m : Kept = kept_of c.args.self.now in
    let m1 : Kept = kept_of c.prepare_stop.new.self in
    let lease = c.args.lease in
    let h = c.args.host.0 in
    let st = c.index_mut-store.result.now in
    let x = c.index_mut-cell.result.now in
    let i = lease.ticket.0 - m1.first in
    let on = stopping_still m m1 c.prepare_stop.ensures.same lease c.args.pause c.requires.stopping in
    let at = cell_at c.states_are_known.ensures c.segments_are_known.ensures m1 lease c.args.pause on.start on.state on.stands on.back in
    let in_cells : i < length m1.cells = omega (arith, at.0, at.1) in
    let there : slice_get m1.cells i ≡ Some x = slice_get_read m1.cells _ i x refl in_cells c.index_mut-cell.ensures.value in
    let place = placed_at lease.path m.stores h c.requires.place in
    let old = slice_get_within m.stores h place.0 place.1 in
    let many = c.prepare_stop.ensures.same.as_many_stores in
    let in_stores : h < length m1.stores = omega (arith, old, many) in
    let here : slice_get m1.stores h ≡ Some st = slice_get_read m1.stores _ h st refl in_stores c.index_mut-store.ensures.value in
    let leaves = leaves_as x c.leave-result.new.cell st c.leave-result.new.store c.args.pause h c.in-Ok.mail c.leave-result.result c.prepare_stop.new.lease lease c.prepare_stop.ensures.lease
    (record { part = c.leave-result.ensures.part; actor = c.leave-result.ensures.actor; store = c.leave-result.ensures.store; gone = c.leave-result.ensures.gone }) (c.in-Ok.ensures.mail x there) in
    let adds : Adds m1.commits c.settle.new.commits lease.ticket.0 c.leave-result.result = record { committed = c.settle.ensures.committed; results = c.settle.ensures.results } in
    stops_still m m1 c.prepare_stop.ensures.same lease c.args.pause h _
    (stop_taken c.states_are_known.ensures c.segments_are_known.ensures m1 lease c.args.pause h i x c.leave-result.new.cell st c.leave-result.new.store c.leave-result.result c.settle.new.commits (omega (arith, at.0)) there here leaves adds)

pub returns-clause-moves : goal.returns-clause-moves
returns-clause-moves c = λ cell was.
    let m : Kept = kept_of c.args.self.now in
    let m1 : Kept = kept_of c.prepare_stop.new.self in
    let same = c.prepare_stop.ensures.same in
    let lease = c.args.lease in
    let h = c.args.host.0 in
    let st = c.index_mut-store.result.now in
    let x = c.index_mut-cell.result.now in
    let i = lease.ticket.0 - m1.first in
    let on = stopping_still m m1 same lease c.args.pause c.requires.stopping in
    let at = cell_at c.states_are_known.ensures c.segments_are_known.ensures m1 lease c.args.pause on.start on.state on.stands on.back in
    let at_place : m1.first + i ≡ lease.ticket.0 = omega (arith, at.0) in
    let in_cells : i < length m1.cells = omega (arith, at.0, at.1) in
    let there : slice_get m1.cells i ≡ Some x = slice_get_read m1.cells _ i x refl in_cells c.index_mut-cell.ensures.value in
    let place = placed_at lease.path m.stores h c.requires.place in
    let old = slice_get_within m.stores h place.0 place.1 in
    let many = same.as_many_stores in
    let in_stores : h < length m1.stores = omega (arith, old, many) in
    let here : slice_get m1.stores h ≡ Some st = slice_get_read m1.stores _ h st refl in_stores c.index_mut-store.ensures.value in
    let of = same.cells i x there in
    let one : of.cell ≡ cell = some_same of.cell cell (sym of.there ∙ ap (λ (f : ℕ). slice_get m.cells (lease.ticket.0 - f)) same.first ∙ was) in
    let held : length x.held.holds ≡ length cell.held.holds = ap length of.same.held ∙ ap (λ (z : Cell Actor). length z.held.holds) one in
    let path = ap (λ (l : Lease). l.path) c.prepare_stop.ensures.lease in
    let few : length c.leave-result.new.cell.outbox.mails ≤ 1 + length cell.held.holds + length x.outbox.mails = omega (arith, held, c.leave-result.ensures.few_mails) in
    let left = c.leave-result.new.store in
    moves_after m m1 _ (same_asks m m1 same) (stop_of lease h) (1 + length cell.held.holds)
    (moved_both m1 _ (stop_of lease h) (1 + length cell.held.holds) i x c.leave-result.new.cell at_place refl there refl refl few st left here refl
    (λ q n. same_at st left q (c.leave-result.ensures.store q (λ e. n (e ∙ path))) (c.leave-result.ensures.gone q (λ e. n (e ∙ path))))
    (λ away away'. absurd (true≢false (sym (still_has m m1 same lease.path h place.0 st place.1 place.2 here) ∙ away)))
    (λ off. absurd (true≢false off)))
