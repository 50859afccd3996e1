use Rattle.std.proofs.Common.{◌≡◌, ◌∙◌, ◌+◌, ◌-◌, length, refl, sym, ap, subst, arith, true≢false}
use Rattle.std.specs.Prelude.{Result, Ok, Err, OnOk}
use Rattle.wave_base.specs.declared.numbers.Host.{Host}
use Rattle.wave_labels.specs.Labels.{label_of}
use Rattle.wave_states.specs.Labels.{Label, path_of, ticket_of}
use Rattle.wave_effects.specs.declared.engine.Engine.{Engine}
use Rattle.wave_effects.specs.Apart.{Moves, new_cells}
use Rattle.wave_effects.specs.Keeping.{kept_of}
use Rattle.wave_effects.specs.Machines.{Keeps}
use Rattle.wave_effects.specs.Running.{CanStop, IsStopping, Stops, stop_of}
use Rattle.wave_effects.specs.Spare.{IsAsLong, SameButRooms}
use Rattle.wave_effects.proofs.Halting.{cell_at}
use Rattle.wave_effects.proofs.Labelled.{stood_stopped}
use Rattle.wave_effects.proofs.Unasked.{same_asks}
use Rattle.wave_machine.specs.inner.Index.{HasRoom, held_at, held_by}
use Rattle.wave_machine.specs.inner.Updating.{KeepsMails, Sees, is_queue}
use Rattle.wave_machine.proofs.Asked.{listed_same, listed_still, room_same}
use Rattle.wave_machine.proofs.Comings.{alone_here}
use Rattle.wave_machine.proofs.KeptMails.{mails_stopped, numbered_stood}
use Rattle.wave_machine.proofs.Owned as owned
use Rattle.wave_machine.proofs.Roomier.{same_self}
use Rattle.wave_machine.proofs.Untouched.{stopped_done}
use Rattle.wave_machine.proofs.listed.Listed.stop.Goals as goal

-- room was made in the index, and the engine is as it was
pub host_of-host-requires : goal.host_of-host-requires
host_of-host-requires c = (c.args.pause, subst (λ (e : Engine). IsStopping (kept_of e) c.args.lease c.args.pause) (sym c.reserve.ensures.same.engine) c.requires.stopping)

pub stop-requires-clause-stopping : goal.stop-requires-clause-stopping
stop-requires-clause-stopping c = subst (λ (e : Engine). IsStopping (kept_of e) c.args.lease c.args.pause) (sym c.reserve.ensures.same.engine) c.requires.stopping

-- what was not refused
not_refused : {P T E : Type 0} (r : Result T E) → ((e : E) → r ≡ Err e → ⊥) → OnOk r P → P
not_refused (Ok x) h p = p
not_refused (Err e) h p = absurd (h e refl)

pub update-requires : goal.update-requires
update-requires c =
    let x = c.reserve.new.self in
    let same = c.reserve.ensures.same in
    let m = kept_of x.engine in
    let m' = kept_of c.stop.new.self in
    let lease = c.args.lease in
    let t = lease.ticket.0 in
    let l = label_of c.in-Ok.label in
    let h = c.in-Ok.label.host.0 in
    let on = subst (λ (e : Engine). IsStopping (kept_of e) lease c.args.pause) (sym same.engine) c.requires.stopping in
    let is : l ≡ stop_of lease h = c.in-Ok.ensures.label in
    let inside = cell_at c.states_are_known.ensures c.segments_are_known.ensures m lease c.args.pause on.start on.state on.stands on.back in
    let low = inside.0 in
    let under = inside.1 in
    let some = owned.slice_some m.cells (t - m.first) (omega (arith, low, under)) in
    let held : held_at m t ≡ length some.0.held.holds = ap held_by (owned.cell_is m t low ∙ some.1) in
    let moves : Moves m m' l (1 + length some.0.held.holds) = c.in-Ok.ensures.moves some.0 some.1 in
    let sees : Sees m l.host (ticket_of l.act) (path_of l.act) c.look-seen.result =
    subst (λ (z : Label). Sees m z.host (ticket_of z.act) (path_of z.act) c.look-seen.result) (sym is) (subst (λ (x : Host). Sees m x.0 t lease.path c.look-seen.result) (sym c.in-Ok.ensures.host) c.look-seen.ensures) in
    let listed = listed_still c.args.self.now x same c.requires.listed in
    let stood = stood_stopped m m' lease c.args.pause h on c.in-Ok.ensures.enabled c.in-Ok.ensures.stops in
    let room : HasRoom x (1 + length some.0.held.holds) = subst (HasRoom x) (c.may_leave-more.ensures ∙ (λ i. 1 + held_at (kept_of (sym same.engine i)) t) ∙ ap (λ n. 1 + n) held) (not_refused c.reserve.result c.in_default.not-Err c.reserve.ensures.room) in (
      m,
      1 + length some.0.held.holds,
      record {
        taken = record {
          stands = (stood.start, stood.state, stood.stands);
          moves = moves;
          mails = subst (λ (z : Label). KeepsMails m m' z) (sym is) (mails_stopped c.states_are_known.ensures m m' lease c.args.pause h on c.in-Ok.ensures.enabled c.in-Ok.ensures.stops);
          numbered = numbered_stood c.states_are_known.ensures m (record { start = on.start; state = on.state; stands = on.stands });
          grows = λ one. absurd (let none : new_cells l.act ≡ 0 = ap (λ (z : Label). new_cells z.act) is in omega (arith, one, none));
          sees = sees;
          alone = alone_here c.states_list.ensures.can m m' l (1 + length some.0.held.holds) (record { start = on.start; state = on.state; stands = on.stands }) stood moves;
          born = λ queue. absurd (true≢false (sym queue ∙ ap (λ (z : Label). is_queue z.act) is));
        };
        index = listed.index;
        done = stopped_done c.done_stays.ensures m m' x.done listed.done lease c.args.pause h on c.in-Ok.ensures.enabled c.in-Ok.ensures.stops;
        weight = listed.weight;
        room = record { room = room.room; fits = room.fits };
      },
    )

pub returns-in-Ok-clause-enabled : goal.returns-in-Ok-clause-enabled
returns-in-Ok-clause-enabled c = subst (λ (e : Engine). CanStop (kept_of e) c.args.lease c.args.pause c.in-Ok.label.host.0) c.reserve.ensures.same.engine c.in-Ok.ensures.enabled

pub returns-in-Ok-clause-stops : goal.returns-in-Ok-clause-stops
returns-in-Ok-clause-stops c =
    let lease = c.args.lease in
    let h = c.in-Ok.label.host.0 in
    let stops = subst (λ (e : Engine). Stops (kept_of c.reserve.new.self.engine) lease c.args.pause h (kept_of e)) (sym c.update.ensures.engine) c.in-Ok.ensures.stops in
    subst (λ (e : Engine). Stops (kept_of e) lease c.args.pause h (kept_of c.update.new.self.engine)) c.reserve.ensures.same.engine stops

pub returns-in-Err-clause-same : goal.returns-in-Err-clause-same
returns-in-Err-clause-same c = subst (λ (e : Engine). SameButRooms (kept_of c.args.self.now.engine) (kept_of e)) (sym c.reserve.ensures.same.engine) (same_self (kept_of c.args.self.now.engine))

pub returns-in-Err-stop-clause-keeps : goal.returns-in-Err-stop-clause-keeps
returns-in-Err-stop-clause-keeps c = subst (λ (e : Engine). Keeps (kept_of e) (kept_of c.stop.new.self)) c.reserve.ensures.same.engine c.in-Err-stop.ensures.keeps

pub returns-in-Err-stop-clause-same : goal.returns-in-Err-stop-clause-same
returns-in-Err-stop-clause-same c = subst (λ (e : Engine). SameButRooms (kept_of e) (kept_of c.stop.new.self)) c.reserve.ensures.same.engine c.in-Err-stop.ensures.same

pub returns-in-Err-stop-clause-long : goal.returns-in-Err-stop-clause-long
returns-in-Err-stop-clause-long c = subst (λ (e : Engine). IsAsLong e c.stop.new.self) c.reserve.ensures.same.engine c.in-Err-stop.ensures.long

pub returns-in-Err-stop-clause-listed : goal.returns-in-Err-stop-clause-listed
returns-in-Err-stop-clause-listed c =
    let x = c.reserve.new.self in
    let same = c.reserve.ensures.same in
    let on = subst (λ (e : Engine). IsStopping (kept_of e) c.args.lease c.args.pause) (sym same.engine) c.requires.stopping in
    listed_same x _ (listed_still c.args.self.now x same c.requires.listed) (record { start = on.start; state = on.state; stands = on.stands }) c.in-Err-stop.ensures.keeps (same_asks (kept_of x.engine) (kept_of c.stop.new.self) c.in-Err-stop.ensures.same) refl refl refl

pub returns-in-Err-stop-clause-room : goal.returns-in-Err-stop-clause-room
returns-in-Err-stop-clause-room c =
    let same = c.reserve.ensures.same in
    λ more h. room_same c.args.self.now _ more h same.weight same.len same.capacity
