-- What is done stays done: no label touches a cell that has ended and has no mail under way.
use Rattle.std.proofs.Common.{◌≡◌, ◌∙◌, ℕ, zero, suc, ◌+◌, ◌<◌, ◌≤◌, true, ◌++◌, ◌∷◌, [], length, Some, None, refl, sym, ap, subst, arith}
use Rattle.std.specs.Prelude.{slice_get}
use Rattle.wave_base.specs.declared.outcome.EventResult.{EventResult}
use Rattle.wave_base.specs.declared.path.Path.{Path}
use Rattle.wave_base.specs.declared.pause.Pause.{Pause}
use Rattle.wave_base.specs.declared.script.Line.{Line}
use Rattle.wave_base.specs.declared.start.Start.{Start}
use Rattle.event_cells.specs.declared.cell.Cell.{Cell}
use Rattle.event_cells.specs.Cells.{is_over, status_of}
use Rattle.event_cells.specs.Keeps.{is_empty, mail_in}
use Rattle.wave_states.specs.Actors.{Actors}
use Rattle.wave_states.specs.Labels.{Act, Label, Admit, Commit, Queue, Grant, Visit, Start as Starting, Stop, Free, Pass, Land, ticket_of}
use Rattle.wave_states.specs.States as theory
use Rattle.wave_states.specs.States.{Event}
use Rattle.wave_states.specs.Steps.{part_of, step}
use Rattle.wave_theory.proofs.Basics.{clash}
use Rattle.wave_theory.proofs.Opened.{frees, lands, passes, queues, starts, visits}
use Rattle.wave_theory.proofs.Reading.{changes}
use Rattle.code_actor.specs.CodeActors.{Fields}
use Rattle.plan_actors.specs.PlanActors as actors
use Rattle.plan_actors.specs.PlanActors.{plan_actors, plan_kind}
use Rattle.plan_actors.specs.Plans.{begin_in}
use Rattle.wave_effects.specs.declared.actor.Actor.{Actor}
use Rattle.wave_effects.specs.declared.lease.Lease.{Lease}
use Rattle.wave_effects.specs.Ending.{is_done}
use Rattle.wave_effects.specs.Machines.{IsCell, IsEnabled, Keeps, Kept, Known, Shows, Stands, Takes, TheState, event_as, IsStood}
use Rattle.wave_effects.specs.Running.{CanStop, IsStopping, Stops, stop_of}
use Rattle.wave_machine.specs.inner.Done.{AreDone, DoneStays}
use Rattle.wave_effects.proofs.Calm.{grant_on}
use Rattle.wave_effects.proofs.CellParts.{same_event}
use Rattle.wave_effects.proofs.Stopped.{stopped_by}
use Rattle.wave_effects.proofs.Ending.{all_empty, and_left, and_right, and_true, carries_none, empty_mail, is_over_by, none_carries, not_both, over_is, some_at}
use Rattle.wave_effects.proofs.Halting.{Segments}
use Rattle.wave_effects.proofs.Headed.{admits, commits}
use Rattle.wave_effects.proofs.Opening.{free_found, land_found, left_by, pass_found, queue_found, visit_found}
use Rattle.wave_effects.proofs.Queueing.{some_is}
use Rattle.wave_effects.proofs.Reached.{admitted_is}
use Rattle.wave_effects.proofs.Starting.{start_found}
use Rattle.wave_effects.proofs.Taking.{Laws, after, now}

-- a ticket that has ended, and has no mail under way
pub record IsOver (s : TheState) (t : ℕ) : Type 0 where
  pub event : Event actors.Actor
  pub is : (s.cells t).event ≡ Some event
  pub ended : event.status ≡ theory.Ended
  pub none : (k : ℕ) → (s.cells t).mails k ≡ None

module _ (m : Kept) (s : TheState) (h : Shows m s) (i : ℕ) (c : Cell Actor) (there : slice_get m.cells i ≡ Some c) where
  cell_is : IsCell m.plan.program c (s.cells (m.first + i))
  cell_is = h.cells.each i c there

  -- a cell that is done stands for such a ticket
  pub over_of : is_done c ≡ true → IsOver s (m.first + i)
  over_of done = record {
    event = event_as cell_is.desk.event;
    is = cell_is.event;
    ended = cell_is.stands.status ∙ ap status_of (over_is c.status (and_left (is_over c.status) (is_empty c.outbox.mails) done));
    none = λ k. cell_is.mails k ∙ carries_none (mail_in c.outbox.mails k) (cell_is.desk.mails k) (cell_is.stands.mails k) (empty_mail c.outbox.mails k (and_right (is_over c.status) (is_empty c.outbox.mails) done));
  }

  -- and what stands for one is done
  pub done_by : IsOver s (m.first + i) → is_done c ≡ true
  done_by over =
      let same : over.event ≡ event_as cell_is.desk.event = same_event over.event (event_as cell_is.desk.event) (s.cells (m.first + i)).event over.is cell_is.event in
      and_true (is_over c.status) (is_empty c.outbox.mails) (is_over_by c.status (sym cell_is.stands.status ∙ ap (λ (e : Event actors.Actor). e.status) (sym same) ∙ over.ended))
      (all_empty c.outbox.mails (λ k. none_carries (mail_in c.outbox.mails k) (cell_is.desk.mails k) (cell_is.stands.mails k) (sym (cell_is.mails k) ∙ over.none k)))

ready_ends : (p : Path) → theory.Ready p ≡ theory.Ended → ⊥
ready_ends p e = cc

running_ends : (p : Path) → theory.Running p ≡ theory.Ended → ⊥
running_ends p e = cc

-- what is done is as long as it is kept
pub done_kept : (m m' : Kept) (start : Start) (s : TheState) → Stands m start s → Stands m' start s → (n : ℕ) → AreDone m n → AreDone m' n
done_kept m m' start s stands stands' n done = record {
  within = let a = stands.shows.cells.as_many in let b = stands'.shows.cells.as_many in let x = stands.shows.head.admitted in let y = stands'.shows.head.admitted in let w = done.within in omega (arith, a, b, x, y, w);
  each = each;
}
  where
    first_is : m'.first ≡ m.first
    first_is = sym stands'.shows.head.before ∙ stands.shows.head.before

    each : (i : ℕ) (c' : Cell Actor) → i < n → slice_get m'.cells i ≡ Some c' → is_done c' ≡ true
    each i c' low there' =
        let x = some_at m.cells i (omega (arith, low, done.within)) in
        let over = over_of m s stands.shows i x.0 x.1 (done.each i x.0 low x.1) in
        done_by m' s stands'.shows i c' there' (subst (λ f. IsOver s (f + i)) (sym first_is) over)

module _ (laws : Laws) (segments : Segments) (m : Kept) (start : Start) (s s' : TheState) (stands : Stands m start s) where
  known : Known m.plan start s
  known = now laws m start s stands

  abbrev sys : Actors actors.Actor Fields EventResult Line
  sys = plan_actors m.plan.program

  module _ (i : ℕ) (c : Cell Actor) (there : slice_get m.cells i ≡ Some c) (done : is_done c ≡ true) where
    over : IsOver s (m.first + i)
    over = over_of m s stands.shows i c there done

    no_mail : (t k : ℕ) (x : theory.Mail Fields) → (s.cells t).mails k ≡ Some x → m.first + i ≡ t → ⊥
    no_mail t k x e at = not_both ((s.cells t).mails k) x (subst (λ u. (s.cells u).mails k ≡ None) at (over.none k)) e

    not_on : (t : ℕ) (e : Event actors.Actor) → (s.cells t).event ≡ Some e → (e.status ≡ theory.Ended → ⊥) → m.first + i ≡ t → ⊥
    not_on t e is on at = on (ap (λ (x : Event actors.Actor). x.status) (same_event e over.event (s.cells t).event is (subst (λ u. (s.cells u).event ≡ Some over.event) at over.is)) ∙ over.ended)

    module _ (w host : ℕ) where
      abbrev Taken : Act → Type 0
      Taken a = step sys m.plan.workers s (record { worker = w; host = host; act = a }) ≡ Some s'

      others : (a : Act) → Taken a → (m.first + i ≡ ticket_of a → ⊥) → s'.cells (m.first + i) ≡ s.cells (m.first + i)
      others a e apart = (changes sys m.plan.workers s s' (record { worker = w; host = host; act = a }) e).cells (m.first + i) apart

      -- no label changes it
      untouched : (a : Act) → Taken a → s'.cells (m.first + i) ≡ s.cells (m.first + i)
      untouched (Commit t) e = ap (λ (z : TheState). z.cells (m.first + i)) (sym (commits sys m.plan.workers s s' w host t e).gives)
      untouched (Admit t) e = others (Admit t) e (λ at.
          let a = admits sys m.plan.workers s s' w host t e in
          let b = admitted_is (plan_kind m.plan.program m.plan.script.hosts) m.plan.workers (begin_in m.plan start) m.plan.script.batches s known.bounds (m.first + i) over.event over.is in
          absurd (omega (arith, at, a.ticket, b.1)))
      untouched (Queue t k p) e =
          let left = left_by sys m.plan.workers s s' (record { worker = w; host = host; act = Queue t k p }) refl e in
          let calm = queue_found sys host (part_of s t p) left.bench t k p (s.hands w) left.found in
          let v = queues sys t k p host (part_of s t p) left.bench.part calm.part in
          others (Queue t k p) e (no_mail t k v.letter_at.mail v.letter_at.mail_is)
      untouched (Grant t p) e = others (Grant t p) e (λ at.
          let l : Label = record { worker = w; host = host; act = Grant t p } in
          let next = laws m.plan start (stands.labels ++ l ∷ []) s' stands.fits stands.begins (after laws m start s stands l s' e) in
          clash (is_over c.status) (and_left (is_over c.status) (is_empty c.outbox.mails) done) (grant_on m (begin_in m.plan start) s s' t 0 p w host i c c stands.shows at there known.agree next.agree e))
      untouched (Visit t k p) e =
          let left = left_by sys m.plan.workers s s' (record { worker = w; host = host; act = Visit t k p }) refl e in
          let calm = visit_found sys host (part_of s t p) left.bench t k p (s.hands w) left.found in
          let v = visits k p host (part_of s t p) left.bench.part calm.part in
          others (Visit t k p) e (no_mail t k v.letter_at.mail v.letter_at.mail_is)
      untouched (Starting t p) e =
          let left = left_by sys m.plan.workers s s' (record { worker = w; host = host; act = Starting t p }) refl e in
          let begins = start_found sys host (part_of s t p) left.bench t p (s.hands w) left.found in
          let v = starts t p host (part_of s t p) left.bench begins.found in
          others (Starting t p) e (not_on t v.event v.event_is (λ o. ready_ends p (sym v.ready ∙ o)))
      untouched (Stop t p) e =
          let stopped = stopped_by sys m.plan.workers s s' w host t p e in
          let can = (segments m.plan start stands.labels s stands.fits stands.begins stands.reached).stoppable w stopped.hand stopped.there in
          others (Stop t p) e (λ at. not_on stopped.hand.ticket can.event can.is_event (λ o. running_ends stopped.hand.path (sym can.running ∙ o)) (at ∙ sym stopped.ticket))
      untouched (Free t k p) e =
          let left = left_by sys m.plan.workers s s' (record { worker = w; host = host; act = Free t k p }) refl e in
          let calm = free_found sys host (part_of s t p) left.bench t k p (s.hands w) left.found in
          let v = frees t k p host (part_of s t p) left.bench.part calm.part in
          others (Free t k p) e (no_mail t k v.letter_at.mail v.letter_at.mail_is)
      untouched (Pass t k p g) e =
          let left = left_by sys m.plan.workers s s' (record { worker = w; host = host; act = Pass t k p g }) refl e in
          let calm = pass_found sys host (part_of s t p) left.bench t k p g (s.hands w) left.found in
          let v = passes k g p host (part_of s t p) left.bench.part calm.part in
          others (Pass t k p g) e (no_mail t k v.letter_at.mail v.letter_at.mail_is)
      untouched (Land t k p) e =
          let left = left_by sys m.plan.workers s s' (record { worker = w; host = host; act = Land t k p }) refl e in
          let calm = land_found sys host (part_of s t p) left.bench t k p (s.hands w) left.found in
          let v = lands k p host (part_of s t p) left.bench.part calm.part in
          others (Land t k p) e (no_mail t k v.letter_at.mail v.letter_at.mail_is)

    still_over : (l : Label) → step sys m.plan.workers s l ≡ Some s' → IsOver s' (m.first + i)
    still_over l e =
        let same = untouched l.worker l.host l.act e in
        record {
          event = over.event;
          is = ap (λ (x : theory.Cell _ _ _). x.event) same ∙ over.is;
          ended = over.ended;
          none = λ k. ap (λ (x : theory.Cell _ _ _). x.mails k) same ∙ over.none k;
        }

  module _ (m' : Kept) (stands' : Stands m' start s') (l : Label) (e : step sys m.plan.workers s l ≡ Some s') where
    before_is : s'.before ≡ s.before
    before_is = (changes sys m.plan.workers s s' l e).before

    first_is : m'.first ≡ m.first
    first_is = sym stands'.shows.head.before ∙ ap suc before_is ∙ stands.shows.head.before

    still_within : (n : ℕ) → AreDone m n → n ≤ length m'.cells
    still_within zero done = omega arith
    still_within (suc j) done =
        let x = some_at m.cells j (omega (arith, done.within)) in
        let o = still_over j x.0 x.1 (done.each j x.0 (omega arith) x.1) l e in
        let next = laws m.plan start (stands.labels ++ l ∷ []) s' stands.fits stands.begins (after laws m start s stands l s' e) in
        let a = admitted_is (plan_kind m.plan.program m.plan.script.hosts) m.plan.workers (begin_in m.plan start) m.plan.script.batches s' next.bounds (m.first + j) o.event o.is in
        let head = stands'.shows.head in
        let b = head.before in
        let n = head.admitted in
        let many = stands'.shows.cells.as_many in
        omega (arith, a.1, first_is, b, n, many)

    -- what is done stays done
    pub done_led : (n : ℕ) → AreDone m n → AreDone m' n
    done_led n done = record { within = still_within n done; each = each }
      where
        each : (i : ℕ) (c' : Cell Actor) → i < n → slice_get m'.cells i ≡ Some c' → is_done c' ≡ true
        each i c' low there' =
            let x = some_at m.cells i (omega (arith, low, done.within)) in
            let o = still_over i x.0 x.1 (done.each i x.0 low x.1) l e in
            done_by m' s' stands'.shows i c' there' (subst (λ f. IsOver s' (f + i)) (sym first_is) o)

-- ---- over each call

pub kept_done : (m m' : Kept) (n : ℕ) → IsStood m → Keeps m m' → AreDone m n → AreDone m' n
kept_done m m' n on keeps done = done_kept m m' on.start on.state on.stands (keeps on.start on.state on.stands) n done

module _ (stays : DoneStays) (m m' : Kept) (n : ℕ) (done : AreDone m n) where
  pub taken_done : (l : Label) → IsEnabled m l → Takes m m' l → AreDone m' n
  taken_done l on takes = stays m m' on.start on.state on.next l n on.stands (takes on.start on.state on.next on.stands on.enabled) on.enabled done

  pub stopped_done : (lease : Lease) (why : Pause) (host : ℕ) → IsStopping m lease why → CanStop m lease why host → Stops m lease why host m' → AreDone m' n
  stopped_done lease why host on can stops =
      let next = some_is (step (plan_actors m.plan.program) m.plan.workers on.state (stop_of lease host)) (can on.start on.state on.stands on.back) in
      stays m m' on.start on.state next.0 (stop_of lease host) n on.stands (stops on.start on.state next.0 on.stands on.back next.1) next.1 done
