-- What is there to do can be done.
use Rattle.std.proofs.Common.{◌≡◌, ℕ, suc, ◌<◌, ◌≤◌, ◌&&◌, ◌==◌, not, inl, inr, nat_lt, Bool, true, false, Some, None, is_some, List, refl, sym, ◌∙◌, ap, ap₂, subst, arith}
use Rattle.std.specs.Prelude.{All}
use Rattle.std.proofs.lemmas.Bool.Decides.{nat_tests}
use Rattle.wave_base.specs.declared.path.Path.{Path}
use Rattle.wave_base.specs.Paths.{path_eq}
use Rattle.wave_states.specs.Kinds.{Kind}
use Rattle.wave_states.specs.States.{State, Ask, Cell, Claim, Entry, Event, Mail, Mark, Record, Status, Ready, Letter, Enter, Release, Transfer, hold_at, ask_in, is_coming, is_release, entry_in}
use Rattle.wave_states.specs.States
use Rattle.wave_states.specs.Labels.{Act, Queue, Grant, Visit, Start, Free, Pass, Land, ticket_of, path_of, is_local}
use Rattle.wave_states.specs.Steps.{Deliver, act_bench, part_of, with_bench, entry_for, new_entry, route, may_join, letter_at}
use Rattle.wave_states.specs.Begins.{Begin}
use Rattle.wave_states.specs.Owes.{Owes, IsBegin}
use Rattle.wave_theory.proofs.Basics.{clash, some_same, none_not, bool_cases, options, number_self, and_both}
use Rattle.wave_theory.proofs.Order.{Way, IsWay, Stage, Entering, Lined, Coming, There, Done, is_pending, here}
use Rattle.wave_theory.proofs.Leaves.{Course, IsCourse, Segment}
use Rattle.wave_theory.proofs.Tracks.{owner}
use Rattle.wave_theory.proofs.Frames.{option_some, holds_spot}
use Rattle.wave_theory.proofs.Found.{found}
use Rattle.wave_theory.proofs.Able.{then_can, only_can, map_can, if_can, letter_there, visit_can, start_can, free_can, land_can, pass_can, queue_can, forward_mark}
use Rattle.wave_theory.proofs.Reading.{step_local}
use Rattle.wave_theory.proofs.Courses
use Rattle.wave_theory.proofs.Shows
use Rattle.wave_theory.proofs.Agreed
use Rattle.wave_theory.proofs.GoodStates.{Good_state}
use Rattle.wave_theory.proofs.GoodStates
use Rattle.wave_theory.specs.Doable.{CanDo, Doable}
use Rattle.wave_theory.proofs.Stages.{there_done}

less_is : (a c : ℕ) → a < c → nat_lt a c ≡ true
less_is a c l = grind (arith, nat_tests)

-- who is ready is at its context, and its segment isn't out
ready_there : (st : Status) (v : Stage) (o : Bool) (p q : Path) → Shows.StatusShows st v o p → st ≡ Ready q → (v ≡ There) × (o ≡ false) × (q ≡ p)
ready_there (Ready r) There o p q z e = (refl, z.1, sym (path_of_is r q e) ∙ z.0)
  where
    path_of_is : (a c : Path) → Ready a ≡ Ready c → a ≡ c
    path_of_is a c e = cc
ready_there (Ready r) Entering o p q z e = absurd z
ready_there (Ready r) Lined o p q z e = absurd z
ready_there (Ready r) Coming o p q z e = absurd z
ready_there (Ready r) Done o p q z e = absurd z
ready_there States.Status.Travelling v o p q z e = absurd (not_ready e)
  where
    not_ready : States.Status.Travelling ≡ Ready q → ⊥
    not_ready e = grind arith
ready_there States.Status.Ended v o p q z e = absurd (not_ready e)
  where
    not_ready : States.Status.Ended ≡ Ready q → ⊥
    not_ready e = grind arith
ready_there (States.Status.Waiting r) v o p q z e = absurd (not_ready e)
  where
    not_ready : States.Status.Waiting r ≡ Ready q → ⊥
    not_ready e = grind arith
ready_there (States.Status.Running r) v o p q z e = absurd (not_ready e)
  where
    not_ready : States.Status.Running r ≡ Ready q → ⊥
    not_ready e = grind arith

module _ {A F R J : Type 0} (kind : Kind A F R J) (owes : Owes kind) (b : Begin F) (batches : List (List J)) (begins : IsBegin kind b) (jobs : All (All kind.is_job) batches) where
  abbrev w : Way
  w = Courses.w kind owes b batches begins jobs

  abbrev course : Course kind.system
  course = Courses.course kind owes b batches begins jobs

  abbrev Is_real : ℕ → Type 0
  Is_real = Courses.Real kind owes b batches begins jobs

  law : IsWay w
  law = Courses.law kind owes b batches begins jobs

  courses : IsCourse kind.system w course b.before Is_real
  courses = Courses.courses kind owes b batches begins jobs

  module _ (s : State A F R J) (k : Good_state kind owes b batches begins jobs s) (workers : ℕ) where
    x : Shows.Shows kind.system w course b.before Is_real s k.ghost
    x = k.shows

    abbrev g : Shows.Ghost F
    g = k.ghost

    -- an act of one context that an idle worker can take
    by_bench : (host : ℕ) (a : Act) → is_local a ≡ true → is_some (act_bench kind.system a host (part_of s (ticket_of a) (path_of a)) None) ≡ true → CanDo kind workers s host a
    by_bench host a l e v less idle = ap is_some (step_local kind.system workers s (record { worker = v; host = host; act = a }) l)
        ∙ if_can (nat_lt v workers) _ (less_is v workers less) (map_can (λ y. with_bench s (ticket_of a) (path_of a) v y) _ (subst (λ o. is_some (act_bench kind.system a host (part_of s (ticket_of a) (path_of a)) o) ≡ true) (sym idle) e))

    mail_known : (t i : ℕ) (m : Mail F) → (s.cells t).mails i ≡ Some m → (b.before < t) × (t ≤ (g).lines.admitted)
    mail_known t i m e = GoodStates.known kind owes b batches begins jobs s k.ghost x t (λ q. none_not (sym (ap (λ (u : Cell A F R). u.mails i) q) ∙ e))

    event_of : (t : ℕ) → (b.before < t) × (t ≤ (g).lines.admitted) → (e : Event A) × ((s.cells t).event ≡ Some e)
    event_of t n = (let c = x.cells t n.0 n.1 in (c.event, c.event_is))

    letter : (t i : ℕ) (m : Mail F) → (s.cells t).mails i ≡ Some m → letter_at (s.cells t) i m.host m.path ≡ Some m.letter
    letter t i m e = letter_there (s.cells t) i m e

    visiting : (t i : ℕ) (m : Mail F) → (s.cells t).mails i ≡ Some m → is_coming m.letter ≡ true → CanDo kind workers s m.host (Visit t i m.path)
    visiting t i m e c = (let n = event_of t (mail_known t i m e) in by_bench m.host (Visit t i m.path) refl (map_can _ _ (visit_can (part_of s t m.path) i m.path m.host n.0 m.letter n.1 (letter t i m e) c)))

    queueing : (t i : ℕ) (m : Mail F) (a : Ask) → (s.cells t).mails i ≡ Some m → m.letter ≡ Enter a → (en : Entry F) → entry_for kind.system m.path m.host (s.columns m.path) (route (s.columns m.path) m.host a.followed) ≡ Some en → CanDo kind workers s m.host (Queue t i m.path)
    queueing t i m a e l en r = (let n = event_of t (mail_known t i m e) in by_bench m.host (Queue t i m.path) refl (map_can _ _ (queue_can kind.system (part_of s t m.path) t i m.path m.host n.0 m.letter a en n.1 (letter t i m e) (ap ask_in l) r)))

    delivered : (p : Path) (host f : ℕ) → route (s.columns p) host f ≡ Deliver → (en : Entry F) × ((s.columns p).store host ≡ Some en)
    delivered p host f e = elim (bool_cases (is_some ((s.columns p).store host))) [
      | inl z ↦ option_some ((s.columns p).store host) z
      | inr z ↦ absurd (Rattle.wave_theory.proofs.Able.not_deliver (s.columns p) host f z e)
    ]

    starting : (t : ℕ) (event : Event A) (p : Path) → (s.cells t).event ≡ Some event → event.status ≡ Ready p → (host : ℕ) × (is_some ((s.columns p).store host) ≡ true) × CanDo kind workers s host (Start t p)
    starting t event p e r = (owner ((g).trail p), ap is_some entry_there, by_bench (owner ((g).trail p)) (Start t p) refl (start_can (part_of s t p) t p (owner ((g).trail p)) event ((g).entry p) (seg).actor (record_there).0 e entry_there actor_is (record_there).1 r))
      where
        n : (b.before < t) × (t ≤ (g).lines.admitted)
        n = GoodStates.known kind owes b batches begins jobs s k.ghost x t (λ q. none_not (sym (ap (λ (u : Cell A F R). u.event) q) ∙ e))

        c : Shows.CellShows kind.system w course b.before Is_real k.ghost t (s.cells t)
        c = x.cells t (n).0 (n).1

        same : (c).event ≡ event
        same = some_same _ event (sym c.event_is ∙ e)

        at : ((g).lines.stage t ≡ There) × ((g).out t ≡ false) × (p ≡ here w (g).lines t)
        at = ready_there event.status _ _ _ p (subst (λ (u : Event A). Shows.StatusShows u.status ((g).lines.stage t) ((g).out t) (here w (g).lines t)) same c.status) r

        going : (g).lines.pos t ≤ w.last t
        going = x.good.going t n.1 (λ d. there_done (sym at.0 ∙ d))

        seg : Segment kind.system w course t ((g).lines.pos t)
        seg = courses.segment t ((g).lines.pos t) c.real going

        actor_is : event.actor ≡ Some (seg).actor
        actor_is = ap (λ (u : Event A). u.actor) (sym same) ∙ c.actor at.1 ∙ seg.actor_is

        held : is_some (hold_at (c).event.held p) ≡ true
        held = c.held p ∙ ap₂ (λ i j. i && not (is_pending j && path_eq (here w (g).lines t) p)) (subst (λ q. w.held t ((g).lines.pos t) q ≡ true) (sym at.2) (law.at_held t ((g).lines.pos t) going)) at.0

        first : (a t : ℕ) → a < t → 1 ≤ t
        first a t l = omega (arith, l)

        holds : (g).lines.holds p t ≡ true
        holds = subst (λ q. (g).lines.holds q t ≡ true) (sym at.2) (holds_spot kind.system w law course b.before Is_real k.ghost x.good t (first _ _ n.0) n.1 (λ d. there_done (sym at.0 ∙ d)) (ap is_pending at.0))

        entry_there : (s.columns p).store (owner ((g).trail p)) ≡ Some ((g).entry p)
        entry_there = (let o = option_some (hold_at (c).event.held p) held in elim (bool_cases ((g).born p)) [
          | inl u ↦ (subst (λ i. Shows.ColumnShows kind.system w course b.before Is_real i k.ghost p (s.columns p)) u (x.columns p)).there (c.where_held p o.0 o.1).1
          | inr u ↦ absurd (clash _ holds (sym ((x.entries p).holders t) ∙ ap (λ (y : Entry F). Shows.holds_claim y.holders t) ((x.entries p).unborn u)))
        ])

        record_there : (d : Record F) × (((g).entry p).body ≡ Some d)
        record_there = elim (options ((g).entry p).body) [
          | inr z ↦ z
          | inl z ↦ absurd (let a = (x.entries p).away z in
              clash _ (subst (λ u. (g).out u ≡ true) (sym (x.good.alone a.ticket p a.holds a.looks t holds)) a.out) at.1)
        ]

    granting : (p : Path) (host : ℕ) (en : Entry F) (c : Claim) → (s.columns p).store host ≡ Some en → en.waiting (suc en.served) ≡ Some c → may_join c.peek en.holders ≡ true → CanDo kind workers s host (Grant c.ticket p)
    granting p host en c e z j = by_bench host (Grant c.ticket p) refl (map_can _ _ (then_can _ (s.cells c.ticket).event n.0 n.1 (then_can _ ((s.columns p).store host) en e (then_can _ (en.waiting (suc en.served)) c z (only_can ((c.ticket == c.ticket) && may_join c.peek en.holders) _ (and_both (c.ticket == c.ticket) (may_join c.peek en.holders) (number_self c.ticket) j))))))
      where
        f : en ≡ (g).entry p
        f = (found kind.system w course b.before Is_real k.ghost p (s.columns p) host en (x.columns p) e).entry_is

        y : Shows.WaitShows kind.system w course b.before Is_real k.ghost p (suc en.served) c
        y = (x.entries p).waits (suc en.served) c (ap (λ (u : Entry F). u.waiting (suc en.served)) (sym f) ∙ z)

        n : (u : Event A) × ((s.cells c.ticket).event ≡ Some u)
        n = event_of c.ticket (y.later, y.known)

    pub doable : Doable kind workers b batches s
    doable = record {
      visits = λ t i m e l. elim l [ inl z ↦ visiting t i m e (ap is_coming z) | inr z ↦ visiting t i m e (ap is_coming z) ];
      frees = λ t i m e l. (let y = Agreed.releases kind owes b batches begins jobs s k t i m e l in by_bench m.host (Free t i m.path) refl (map_can _ _ (free_can (part_of s t m.path) t i m.path m.host y.0 m.letter y.1 (letter t i m e) (ap is_release l))));
      lands = λ t i m en e l. by_bench m.host (Land t i m.path) refl (map_can _ _ (land_can (part_of s t m.path) i m.path m.host m.letter en (letter t i m e) (ap entry_in l)));
      queues = λ t i m a e l r. elim r [
        | inl z ↦ (let d = delivered m.path m.host a.followed z in queueing t i m a e l d.0 (ap (entry_for kind.system m.path m.host (s.columns m.path)) z ∙ d.1))
        | inr z ↦ queueing t i m a e l (new_entry kind.system m.path) (ap (entry_for kind.system m.path m.host (s.columns m.path)) z)
      ];
      passes = λ t i m a to e l z. (let d = option_some ((s.columns m.path).gone m.host) (forward_mark (s.columns m.path) m.host a.followed to z) in
          by_bench m.host (Pass t i m.path to) refl (map_can _ _ (pass_can (part_of s t m.path) i m.path to m.host m.letter a d.0 (letter t i m e) (ap ask_in l) d.1 z)));
      starts = starting;
      grants = granting;
    }
