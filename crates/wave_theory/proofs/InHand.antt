-- What is in a hand can be stopped there, and may run.
use Rattle.std.proofs.Common.{◌≡◌, ◌≢◌, ℕ, suc, ◌+◌, ◌<◌, ◌≤◌, ◌⊎◌, ◌==◌, ◌&&◌, not, inl, inr, nat_eq, nat_lt, Bool, true, false, Option, Some, None, is_some, List, [], ◌∷◌, length, refl, sym, ◌∙◌, ap, ap₂, subst, arith}
use Rattle.std.specs.Prelude.{if◌then◌else◌, All, slice_get}
use Rattle.std.specs.List.{AllByRecursion}
use Rattle.std.proofs.lemmas.Bool.Decides.{nat_tests}
use Rattle.std.proofs.lemmas.List.Elements.{recursion_from_All}
use Rattle.wave_base.specs.declared.path.Path.{Path}
use Rattle.wave_base.specs.Paths.{path_eq}
use Rattle.wave_states.specs.Actors.{Actors, Left, Over}
use Rattle.wave_states.specs.States.{State, Cell, Entry, Event, Hand, Record, Running, hold_at, holds_as_peek, is_peek_in, steps_of, Status}
use Rattle.wave_states.specs.States
use Rattle.wave_states.specs.Labels.{Act, Label, Admit, Commit, Stop, is_local}
use Rattle.wave_states.specs.Steps.{step, step_by, only_if, next_ticket, after_admit, after_commit, act_bench, stop, after_stop, after_look, desk_back, segment_of, part_of, with_bench}
use Rattle.wave_states.specs.Runs.{run}
use Rattle.wave_states.specs.Alone.{Alone, after_segments}
use Rattle.wave_states.specs.Begins.{Begin}
use Rattle.wave_states.specs.Kinds.{Kind}
use Rattle.wave_states.specs.Owes.{Owes, IsBegin}
use Rattle.wave_theory.proofs.Basics.{clash, some_same, none_not, bool_cases, number_self, path_self, and_both, then_some, map_some, only_some, if_some, differ, set_there}
use Rattle.wave_theory.proofs.Commute.{local_step}
use Rattle.wave_theory.proofs.Order.{Way, IsWay, Stage, Entering, Lined, Coming, There, Done, is_pending, here}
use Rattle.wave_theory.proofs.Leaves.{Course, IsCourse, Segment}
use Rattle.wave_theory.proofs.Tracks.{owner}
use Rattle.wave_theory.proofs.Frames.{option_some, holds_spot}
use Rattle.wave_theory.proofs.Able.{then_can, map_can, if_can}
use Rattle.wave_theory.proofs.Alone.{Fine, Stands}
use Rattle.wave_theory.proofs.Plans
use Rattle.wave_theory.proofs.Courses.{View, view, view_real}
use Rattle.wave_theory.proofs.Courses
use Rattle.wave_theory.proofs.Shows
use Rattle.wave_theory.proofs.GoodStates.{Good_state}
use Rattle.wave_theory.specs.Hands.{CanStop, HandsStay, HandsStayOver}
use Rattle.wave_theory.proofs.Stages.{there_done}

-- the status of a ticket whose segment is out
pub running_is : (st : Status) (v : Stage) (o : Bool) (p : Path) → Shows.StatusShows st v o p → o ≡ true → st ≡ Running p
running_is States.Status.Travelling Entering o p z f = absurd (clash _ f z)
running_is States.Status.Travelling Coming o p z f = absurd (clash _ f z)
running_is (States.Status.Waiting q) Lined o p z f = absurd (clash _ f z.1)
running_is (States.Status.Ready q) There o p z f = absurd (clash _ f z.1)
running_is (Running q) There o p z f = ap Running z.0
running_is States.Status.Ended Done o p z f = absurd (clash _ f z)
running_is st v o p z f = absurd z

module _ {A F R J : Type 0} (kind : Kind A F R J) (owes : Owes kind) (b : Begin F) (batches : List (List J)) (begins : IsBegin kind b) (jobs : All (All kind.is_job) batches) where
  abbrev w : Way
  w = Courses.w kind owes b batches begins jobs

  abbrev course : Course kind.system
  course = Courses.course kind owes b batches begins jobs

  abbrev Is_real : ℕ → Type 0
  Is_real = Courses.Real kind owes b batches begins jobs

  law : IsWay w
  law = Courses.law kind owes b batches begins jobs

  courses : IsCourse kind.system w course b.before Is_real
  courses = Courses.courses kind owes b batches begins jobs

  module _ (s : State A F R J) (k : Good_state kind owes b batches begins jobs s) (v : ℕ) (hd : Hand A F) (hand_is : s.hands v ≡ Some hd) where
    x : Shows.Shows kind.system w course b.before Is_real s k.ghost
    x = k.shows

    abbrev t : ℕ
    t = hd.ticket

    abbrev p : Path
    p = hd.path

    abbrev n : ℕ
    n = (k.ghost).lines.pos hd.ticket

    hs : Shows.HandShows kind.system w course b.before Is_real k.ghost v hd
    hs = x.hands v hd hand_is

    c : Shows.CellShows kind.system w course b.before Is_real k.ghost t (s.cells t)
    c = x.cells t hs.later hs.known

    going : n ≤ w.last t
    going = x.good.going t hs.known (λ e. there_done (sym hs.stage ∙ e))

    seg : Segment kind.system w course t n
    seg = courses.segment t n c.real going

    held : is_some (hold_at (c).event.held p) ≡ true
    held = c.held p ∙ ap₂ (λ i j. i && not (is_pending j && path_eq (here w (k.ghost).lines t) p)) (subst (λ r. w.held t n r ≡ true) (sym hs.place) (law.at_held t n going)) hs.stage

    holds : (k.ghost).lines.holds p t ≡ true
    holds = subst (λ r. (k.ghost).lines.holds r t ≡ true) (sym hs.place) (holds_spot kind.system w law course b.before Is_real k.ghost x.good t (omega (arith, hs.later)) hs.known (λ e. there_done (sym hs.stage ∙ e)) (ap is_pending hs.stage))

    like : Shows.Like kind.system w course b.before Is_real ((k.ghost).body p) (course.leaf t n p)
    like = x.kept.held p t holds

    entry_there : (s.columns p).store (owner ((k.ghost).trail p)) ≡ Some ((k.ghost).entry p)
    entry_there = by (bool_cases ((k.ghost).born p))
      where
        o : (y : _) × (hold_at (c).event.held p ≡ Some y)
        o = option_some (hold_at (c).event.held p) held

        by : ((k.ghost).born p ≡ true) ⊎ ((k.ghost).born p ≡ false) → (s.columns p).store (owner ((k.ghost).trail p)) ≡ Some ((k.ghost).entry p)
        by (inl u) = (subst (λ i. Shows.ColumnShows kind.system w course b.before Is_real i k.ghost p (s.columns p)) u (x.columns p)).there (c.where_held p o.0 o.1).1
        by (inr u) = absurd (clash _ holds (sym ((x.entries p).holders t) ∙ ap (λ (y : Entry F). Shows.holds_claim y.holders t) ((x.entries p).unborn u)))

    stop_can : is_some (stop kind.system p (owner ((k.ghost).trail p)) hd (part_of s t p)) ≡ true
    stop_can = then_can _ (s.cells t).event (c).event c.event_is (then_can _ ((s.columns p).store (owner ((k.ghost).trail p))) ((k.ghost).entry p) entry_there (by (holds_as_peek (c).event.held p) refl))
      where
        o : (y : _) × (hold_at (c).event.held p ≡ Some y)
        o = option_some (hold_at (c).event.held p) held

        peek_is : holds_as_peek (c).event.held p ≡ w.looks t p
        peek_is = ap is_peek_in (o).1 ∙ (c.where_held p (o).0 (o).1).2

        over : w.looks t p ≡ true → (r : R) × ((segment_of kind.system hd).pause ≡ Over r)
        over e = (let i = subst (λ q. w.looks t q ≡ true) hs.place e in let z = seg.ends i in (z.0, ap (λ (l : Left A F R). l.pause) same ∙ z.1))
          where
            same : segment_of kind.system hd ≡ kind.system.segment (seg).actor (course.leaf t n (w.place t n)).0 (course.leaf t n (w.place t n)).1
            same = ap₂ (λ a f. kind.system.segment a f (steps_of hd.body.children)) (some_same _ _ (hs.actor ∙ seg.actor_is)) (hs.fields ∙ like.fields ∙ ap (λ q. (course.leaf t n q).0) hs.place)
                ∙ ap (λ cs. kind.system.segment (seg).actor (course.leaf t n (w.place t n)).0 (steps_of cs)) (hs.bare e) ∙ sym (seg.blind (subst (λ q. w.looks t q ≡ true) hs.place e))

        by : (i : Bool) → holds_as_peek (c).event.held p ≡ i → is_some (after_stop kind.system p (owner ((k.ghost).trail p)) (part_of s t p) (desk_back (s.cells t) (c).event (segment_of kind.system hd).actor) ((k.ghost).entry p) hd.body.children (segment_of kind.system hd) i) ≡ true
        by false e = refl
        by true e = (let z = over (sym peek_is ∙ e) in subst (λ u. is_some (after_look (part_of s t p) (owner ((k.ghost).trail p)) (desk_back (s.cells t) (c).event (segment_of kind.system hd).actor) ((k.ghost).entry p) u) ≡ true) (sym z.1) refl)

    pub can_stop : (workers : ℕ) → nat_lt v workers ≡ true → CanStop kind.system workers s v hd
    unfolding step
    can_stop workers less = record {
      event = (c).event;
      is_event = c.event_is;
      running = running_is (c).event.status _ _ _ c.status hs.out ∙ ap Running (sym hs.place);
      only = λ u h e f. (let y = x.hands u h e in y.worker ∙ ap (k.ghost).worker f ∙ sym hs.worker);
      host = owner ((k.ghost).trail p);
      here = ap is_some entry_there;
      enabled = if_can (nat_lt v workers) _ less (map_can (λ y. with_bench s t p v y) _ (subst (λ o. is_some (act_bench kind.system (Stop t p) (owner ((k.ghost).trail p)) (part_of s t p) o) ≡ true) (sym hand_is)
          (if_can ((t == t) && path_eq p p) _ (and_both (t == t) (path_eq p p) (number_self t) (path_self p)) (map_can _ _ stop_can))));
    }

    pub may_run : ((calls : ℕ) × kind.may_run hd.actor hd.path calls) × kind.fits hd.path hd.body.fields
    may_run = (ready alone.phase, subst (kind.fits p) (sym (hs.fields ∙ like.fields ∙ ap (λ (u : View A F R). (u.leaf n p).0) view_is)) (alone.fitting p))
      where
        r : Courses.Real kind owes b batches begins jobs t
        r = c.real

        x₀ : Alone A F R
        x₀ = Plans.first_of kind owes b batches begins jobs (r).index (r).job

        view_is : view kind owes b batches begins jobs t ≡ Courses.view_at kind owes b batches begins jobs (r).index (Some (r).job)
        view_is = ap (view kind owes b batches begins jobs) r.ticket_is ∙ view_real kind owes b batches begins jobs r.index r.job r.job_is

        alone : Fine kind owes (after_segments kind.system n x₀)
        alone = Plans.fine_after kind owes x₀ (Plans.first_ok kind owes b batches begins jobs r.index r.job r.job_is) n

        under : (after_segments kind.system n x₀).result ≡ None
        under = (Plans.counts kind owes b batches begins jobs r.index r.job r.job_is).under n (less_suc _ _ (subst (λ (u : View A F R). n ≤ u.one.last) view_is going))
          where
            less_suc : (a m : ℕ) → a ≤ m → a < suc m
            less_suc a m l = omega (arith, l)

        actor_is : hd.actor ≡ (after_segments kind.system n x₀).actor
        actor_is = some_same _ _ (hs.actor ∙ ap (λ (u : View A F R). u.actor n) view_is)

        place_is : hd.path ≡ (after_segments kind.system n x₀).at
        place_is = hs.place ∙ ap (λ (u : View A F R). u.one.place n) view_is

        ready : (((after_segments kind.system n x₀).result ≡ None) × (base : Path) × Stands kind owes (after_segments kind.system n x₀) base) ⊎ ((q : R) × ((after_segments kind.system n x₀).result ≡ Some q) × ((after_segments kind.system n x₀).held ≡ [])) → (calls : ℕ) × kind.may_run hd.actor hd.path calls
        ready (inl z) = (length (z.2).below, subst (λ a. kind.may_run a hd.path (length (z.2).below)) (sym actor_is) (subst (λ q. kind.may_run (after_segments kind.system n x₀).actor q (length (z.2).below)) (sym place_is) (z.2).ready))
        ready (inr z) = absurd (none_not (sym under ∙ z.1))

module _ {A F R J : Type 0} (sys : Actors A F R J) where
  idle_of : {X : Type 0} (i : Bool) (p : Option X) (y : X) → (if i then p else None) ≡ Some y → p ≡ Some y
  idle_of i p y e = (if_some i p y e).1

  -- a label leaves the hands of all other workers
  off_hand : (s s' : State A F R J) (v host : ℕ) (a : Act) (u : ℕ) → step_by sys s v host a ≡ Some s' → nat_eq v u ≡ false → s'.hands u ≡ s.hands u
  off_hand s s' v host a u e d = elim (bool_cases (is_local a)) [
    | inl z ↦ (let y = map_some _ _ s' (sym (local_step sys s v host a z) ∙ e) in ap (λ (i : State A F R J). i.hands u) y.2 ∙ set_there nat_eq s.hands v _ u d)
    | inr z ↦ rest a z e
  ]
    where
      rest : (a : Act) → is_local a ≡ false → step_by sys s v host a ≡ Some s' → s'.hands u ≡ s.hands u
      rest (Admit t) z e = (let j = then_some (λ j. only_if ((host == 0) && (t == next_ticket s)) (after_admit sys s t j)) (slice_get s.head.known s.admitted) s' (idle_of _ _ s' e) in
          ap (λ (i : State A F R J). i.hands u) (sym (only_some _ (after_admit sys s t j.0) s' j.2).1))
      rest (Commit t) z e = (let r = then_some (λ r. only_if ((host == 0) && (t == suc (s.before + s.head.done))) (after_commit sys s r)) (s.cells t).result s' (idle_of _ _ s' e) in
          ap (λ (i : State A F R J). i.hands u) (sym (only_some _ (after_commit sys s r.0) s' r.2).1))
      rest a z e = absurd (clash _ refl z)

  pub hands_stay : HandsStay sys
  unfolding step
  hands_stay workers s v l u e n = off_hand s v l.worker l.host l.act u (if_some (nat_lt l.worker workers) (step_by sys s l.worker l.host l.act) v e).1 (differ l.worker u (λ z. n (sym z)))

  pub hands_stay_over : HandsStayOver sys
  unfolding run step
  hands_stay_over workers s v ls u e n = along ls s e (recursion_from_All (λ (l : Label). u ≢ l.worker) ls n)
    where
      along : (ls : List Label) (s : State A F R J) → run sys workers s ls ≡ Some v → AllByRecursion (λ (l : Label). u ≢ l.worker) ls → v.hands u ≡ s.hands u
      along [] s e n = ap (λ (y : State A F R J). y.hands u) (sym (some_same s v e))
      along (l ∷ ls) s e n = (let y = then_some (λ y. run sys workers y ls) (step sys workers s l) v e in
          along ls y.0 y.2 n.1 ∙ off_hand s y.0 l.worker l.host l.act u (if_some (nat_lt l.worker workers) (step_by sys s l.worker l.host l.act) y.0 y.1).1 (differ l.worker u (λ z. n.0 (sym z))))

-- a worker with a segment out is one of the first so many
pub below_workers : {A F R J : Type 0} (workers : ℕ) (s : State A F R J) (v : ℕ) (hd : Hand A F) → s.hands v ≡ Some hd → ((u : ℕ) → workers ≤ u → s.hands u ≡ None) → nat_lt v workers ≡ true
below_workers workers s v hd e f = elim (bool_cases (nat_lt v workers)) [
  | inl l ↦ l
  | inr l ↦ absurd (none_not (sym (f v (past v workers l)) ∙ e))
]
  where
    past : (a c : ℕ) → nat_lt a c ≡ false → c ≤ a
    past a c e = grind (arith, nat_tests)
