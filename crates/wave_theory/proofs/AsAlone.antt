-- Each event is as it is alone, and who holds a context.
use Rattle.std.proofs.Common.{◌≡◌, ℕ, suc, ◌+◌, ◌<◌, ◌≤◌, ◌⊎◌, ◌&&◌, ◌||◌, not, inl, inr, nat_eq, Bool, true, false, Some, is_some, List, [], ◌∷◌, refl, sym, ◌∙◌, ap, ap₂, subst, arith}
use Rattle.std.specs.Prelude.{All}
use Rattle.std.specs.List.{AllByRecursion}
use Rattle.wave_base.specs.declared.path.Path.{Path}
use Rattle.wave_base.specs.Paths.{path_eq}
use Rattle.wave_states.specs.States.{State, Cell, Claim, Entry, Event, Hand, Hold, Mail, Record, Status, Waiting, Running, Letter, Enter, Release, Transfer, hold_at}
use Rattle.wave_states.specs.States
use Rattle.wave_states.specs.Alone.{Alone, has, after_segments, job_after}
use Rattle.wave_states.specs.Begins.{Begin}
use Rattle.wave_states.specs.Kinds.{Kind}
use Rattle.wave_states.specs.Owes.{Owes, IsBegin}
use Rattle.wave_theory.proofs.Basics.{clash, some_same, none_not, bool_cases, options, number_cases, number_is, path_self, and_first, and_second, and_both}
use Rattle.wave_theory.proofs.Order.{Way, IsWay, Stage, Entering, Lined, Coming, There, Done, is_pending, here}
use Rattle.wave_theory.proofs.Leaves.{Course}
use Rattle.wave_theory.proofs.Tracks.{owner}
use Rattle.wave_theory.proofs.Frames.{option_some, holds_of, not_is}
use Rattle.wave_theory.proofs.Plans
use Rattle.wave_theory.proofs.Courses.{View, view, view_real}
use Rattle.wave_theory.proofs.Courses
use Rattle.wave_theory.proofs.Shows
use Rattle.wave_theory.proofs.Told
use Rattle.wave_theory.proofs.Halts
use Rattle.wave_theory.proofs.InHand.{running_is}
use Rattle.wave_theory.proofs.GoodStates.{Good_state}
use Rattle.wave_theory.proofs.GoodStates
use Rattle.wave_theory.specs.Listed.{IsIn}
use Rattle.wave_theory.specs.Holding.{stops, WaitsFor, IsParting, IsHeld, IsAsAlone, Holders}
use Rattle.wave_states.specs.Labels.{Label}
use Rattle.wave_theory.proofs.Stages.{coming_lined, done_lined, entering_lined, there_done, there_lined}

-- a claim that is among these
pub claim_in : (looks : ℕ → Bool) (hs : List Claim) (t : ℕ) → AllByRecursion (λ c. c.peek ≡ looks c.ticket) hs → Shows.holds_claim hs t ≡ true → IsIn hs (record { ticket = t; peek = looks t })
claim_in looks [] t h e = absurd (clash false e refl)
claim_in looks (c ∷ hs) t h e = elim (number_cases c.ticket t) [
  | inl z ↦ inl (same c t z (h.0 ∙ ap looks z))
  | inr z ↦ inr (claim_in looks hs t h.1 (sym (ap (λ i. i || Shows.holds_claim hs t) z) ∙ e))
]
  where
    same : (c : Claim) (t : ℕ) {p : Bool} → c.ticket ≡ t → c.peek ≡ p → c ≡ record { ticket = t; peek = p }
    same c t e f = λ i. record { ticket = e i; peek = f i }

pub in_claims : (looks : ℕ → Bool) (hs : List Claim) (c : Claim) → AllByRecursion (λ c. c.peek ≡ looks c.ticket) hs → IsIn hs c → (Shows.holds_claim hs c.ticket ≡ true) × (c.peek ≡ looks c.ticket)
in_claims looks (d ∷ hs) c h (inl e) = (ap (λ i. i || Shows.holds_claim hs c.ticket) (subst (λ i. nat_eq i.ticket c.ticket ≡ true) (sym e) (Rattle.wave_theory.proofs.Basics.number_self c.ticket)), subst (λ i. i.peek ≡ looks i.ticket) e h.0)
in_claims looks (d ∷ hs) c h (inr e) = (let r = in_claims looks hs c h.1 e in (or_right (nat_eq d.ticket c.ticket) _ r.0, r.1))
  where
    or_right : (a b : Bool) → b ≡ true → (a || b) ≡ true
    or_right a b e = grind arith
in_claims looks [] c h e = absurd e

-- who waits in a line is lined up there
waiting_is : (st : Status) (v : Stage) (o : Bool) (p q : Path) → Shows.StatusShows st v o p → st ≡ Waiting q → (v ≡ Lined) × (q ≡ p)
waiting_is (Waiting r) Lined o p q z e = (refl, sym (path_of_is r q e) ∙ z.0)
  where
    path_of_is : (a c : Path) → Waiting a ≡ Waiting c → a ≡ c
    path_of_is a c e = cc
waiting_is States.Status.Travelling v o p q z e = absurd (not_waiting e)
  where
    not_waiting : States.Status.Travelling ≡ Waiting q → ⊥
    not_waiting e = grind arith
waiting_is States.Status.Ended v o p q z e = absurd (not_waiting e)
  where
    not_waiting : States.Status.Ended ≡ Waiting q → ⊥
    not_waiting e = grind arith
waiting_is (States.Status.Ready r) v o p q z e = absurd (not_waiting e)
  where
    not_waiting : States.Status.Ready r ≡ Waiting q → ⊥
    not_waiting e = grind arith
waiting_is (Running r) v o p q z e = absurd (not_waiting e)
  where
    not_waiting : Running r ≡ Waiting q → ⊥
    not_waiting e = grind arith
waiting_is (Waiting r) Entering o p q z e = absurd z
waiting_is (Waiting r) Coming o p q z e = absurd z
waiting_is (Waiting r) There o p q z e = absurd z
waiting_is (Waiting r) Done o p q z e = absurd z

lined_waits : (st : Status) (v : Stage) (o : Bool) (p : Path) → Shows.StatusShows st v o p → v ≡ Lined → st ≡ Waiting p
lined_waits st Lined o p z e = by st z
  where
    by : (st : Status) → Shows.StatusShows st Lined o p → st ≡ Waiting p
    by (Waiting q) z = ap Waiting z.0
    by States.Status.Travelling z = absurd z
    by States.Status.Ended z = absurd z
    by (States.Status.Ready q) z = absurd z
    by (Running q) z = absurd z
lined_waits st Entering o p z e = absurd (entering_lined e)
lined_waits st Coming o p z e = absurd (coming_lined e)
lined_waits st There o p z e = absurd (there_lined e)
lined_waits st Done o p z e = absurd (done_lined e)

pending_is : (v : Stage) → is_pending v ≡ true → (v ≡ Entering) ⊎ (v ≡ Lined)
pending_is Entering e = inl refl
pending_is Lined e = inr refl
pending_is Coming e = absurd (clash false e refl)
pending_is There e = absurd (clash false e refl)
pending_is Done e = absurd (clash false e refl)

module _ {A F R J : Type 0} (kind : Kind A F R J) (owes : Owes kind) (b : Begin F) (batches : List (List J)) (begins : IsBegin kind b) (jobs : All (All kind.is_job) batches) where
  abbrev w : Way
  w = Courses.w kind owes b batches begins jobs

  abbrev course : Course kind.system
  course = Courses.course kind owes b batches begins jobs

  abbrev Is_real : ℕ → Type 0
  Is_real = Courses.Real kind owes b batches begins jobs

  law : IsWay w
  law = Courses.law kind owes b batches begins jobs

  module _ (s : State A F R J) (k : Good_state kind owes b batches begins jobs s) where
    x : Shows.Shows kind.system w course b.before Is_real s k.ghost
    x = k.shows

    known_event : (t : ℕ) (event : Event A) → (s.cells t).event ≡ Some event → (b.before < t) × (t ≤ (k.ghost).lines.admitted)
    known_event t event e = GoodStates.known kind owes b batches begins jobs s k.ghost x t (λ q. none_not (sym (ap (λ (u : Cell A F R). u.event) q) ∙ e))

    module _ (t : ℕ) (event : Event A) (is_event : (s.cells t).event ≡ Some event) where
      kn : (b.before < t) × (t ≤ (k.ghost).lines.admitted)
      kn = known_event t event is_event

      c : Shows.CellShows kind.system w course b.before Is_real k.ghost t (s.cells t)
      c = x.cells t kn.0 kn.1

      same : event ≡ (c).event
      same = some_same _ _ (sym is_event ∙ c.event_is)

      status : Shows.StatusShows event.status ((k.ghost).lines.stage t) ((k.ghost).out t) (here w (k.ghost).lines t)
      status = subst (λ (u : Event A). Shows.StatusShows u.status ((k.ghost).lines.stage t) ((k.ghost).out t) (here w (k.ghost).lines t)) (sym same) c.status

      held : (p : Path) → is_some (hold_at event.held p) ≡ Shows.in_hand kind.system w course b.before Is_real k.ghost t p
      held p = ap (λ (u : Event A). is_some (hold_at u.held p)) same ∙ c.held p

      -- what is in its hand it doesn't wait for
      not_waited : (p : Path) → Shows.in_hand kind.system w course b.before Is_real k.ghost t p ≡ true → WaitsFor s t event p → ⊥
      not_waited p h (inl e) = (let y : Shows.EnterShows kind.system w course b.before Is_real k.ghost t e.number e.mail.host e.mail.path e.ask = subst (Shows.MailShows kind.system w course b.before Is_real k.ghost t e.number e.mail.host e.mail.path) e.letter (c.mails e.number e.mail e.there) in
          clash _ (and_both _ _ (ap is_pending y.stage) (subst (λ q. path_eq (here w (k.ghost).lines t) q ≡ true) (sym y.place ∙ e.path_is) (path_self (here w (k.ghost).lines t)))) (not_is _ (and_second (w.held t ((k.ghost).lines.pos t) p) _ h)))
      not_waited p h (inr e) = (let y = waiting_is event.status _ _ _ p status e in
          clash _ (and_both _ _ (ap is_pending y.0) (subst (λ q. path_eq (here w (k.ghost).lines t) q ≡ true) (sym y.1) (path_self (here w (k.ghost).lines t)))) (not_is _ (and_second (w.held t ((k.ghost).lines.pos t) p) _ h)))

      -- and what it is to hold it has or waits for
      held_or : (p : Path) → w.held t ((k.ghost).lines.pos t) p ≡ true → (is_some (hold_at event.held p) ≡ true) ⊎ WaitsFor s t event p
      held_or p h = elim (bool_cases (is_pending ((k.ghost).lines.stage t) && path_eq (here w (k.ghost).lines t) p)) [
        | inr z ↦ inl (held p ∙ ap₂ (λ i j. i && not j) h z)
        | inl z ↦ inr (waits (pending_is _ (and_first _ _ z)) (Rattle.wave_theory.proofs.Basics.path_is _ _ (and_second (is_pending ((k.ghost).lines.stage t)) _ z)))
      ]
        where
          waits : ((k.ghost).lines.stage t ≡ Entering) ⊎ ((k.ghost).lines.stage t ≡ Lined) → here w (k.ghost).lines t ≡ p → WaitsFor s t event p
          waits (inl e) q = (let o = ((k.alive).one t kn.0 kn.1).entering e in
              let y : Shows.EnterShows kind.system w course b.before Is_real k.ghost t ((k.ghost).main t) o.mail.host o.mail.path o.ask = subst (Shows.MailShows kind.system w course b.before Is_real k.ghost t ((k.ghost).main t) o.mail.host o.mail.path) o.letter (c.mails ((k.ghost).main t) o.mail o.there) in
              inl (record { number = (k.ghost).main t; mail = o.mail; there = o.there; path_is = y.place ∙ q; ask = o.ask; letter = o.letter }))
          waits (inr e) q = inr (lined_waits event.status _ _ _ status e ∙ ap Waiting q)

    -- an event is as it is alone
    pub as_alone : (labels : List Label) → Halts.HaltsOf kind owes b batches begins jobs (λ t. stops t labels) (k.ghost).lines.pos (k.ghost).lines.admitted →
        (index : ℕ) (event : Event A) → (s.cells (suc b.before + index)).event ≡ Some event → IsAsAlone kind b batches labels s index event
    as_alone labels h index event e = record {
      job = r.job;
      job_is = job_is;
      alone = after_segments kind.system (stops (suc b.before + index) labels) x₀;
      alone_is = refl;
      actor = λ off. (ap (λ (u : Event A). u.actor) (same t event e) ∙ (c t event e).actor (not_out off) ∙ ap (λ (u : View A F R). u.actor ((k.ghost).lines.pos t)) view_is ∙ ap (λ n. Some (after_segments kind.system n (x₀)).actor) pos_is);
      out = λ v hd i z. (let hs = x.hands v hd i in (
        some_same _ _ (hs.actor ∙ ap (λ u. course.actor u ((k.ghost).lines.pos u)) z ∙ ap (λ (u : View A F R). u.actor ((k.ghost).lines.pos t)) view_is ∙ ap (λ n. Some (after_segments kind.system n (x₀)).actor) pos_is),
        hs.fields ∙ (x.kept.held hd.path hd.ticket (holds_hand v hd i)).fields ∙ ap (λ u. (course.leaf u ((k.ghost).lines.pos u) hd.path).0) z ∙ ap (λ (u : View A F R). (u.leaf ((k.ghost).lines.pos t) hd.path).0) view_is ∙ ap (λ n. (after_segments kind.system n (x₀)).tree.fields hd.path) pos_is,
      ));
      result = (c t event e).result ∙ ap (λ (u : View A F R). u.result ((k.ghost).lines.pos t)) view_is ∙ ap (λ n. (after_segments kind.system n (x₀)).result) pos_is;
      held = λ p hold i. (let j = sym (held t event e p) ∙ ap is_some i in (sym (held_as p) ∙ and_first _ _ j, not_waited t event e p j));
      holds = λ p i. held_or t event e p (held_as p ∙ i);
    }
      where
        t : ℕ
        t = suc b.before + index

        r : Courses.Real kind owes b batches begins jobs (suc b.before + index)
        r = (c (suc b.before + index) event e).real

        same_index : (a i j : ℕ) → suc a + i ≡ suc a + j → j ≡ i
        same_index a i j e = omega (arith, e)

        job_is : job_after kind.system b batches index ≡ Some (r).job
        job_is = subst (λ n. job_after kind.system b batches n ≡ Some (r).job) (same_index b.before index (r).index (r).ticket_is) (r).job_is

        x₀ : Alone A F R
        x₀ = Plans.first_of kind owes b batches begins jobs index (r).job

        view_is : view kind owes b batches begins jobs (suc b.before + index) ≡ Courses.view_at kind owes b batches begins jobs index (Some (r).job)
        view_is = view_real kind owes b batches begins jobs index (r).job job_is

        pos_is : (k.ghost).lines.pos (suc b.before + index) ≡ stops (suc b.before + index) labels
        pos_is = h.each (suc b.before + index) (kn (suc b.before + index) event e).0 (kn (suc b.before + index) event e).1

        held_as : (p : Path) → w.held (suc b.before + index) ((k.ghost).lines.pos (suc b.before + index)) p ≡ has (after_segments kind.system (stops (suc b.before + index) labels) (x₀)).held p
        held_as p = ap (λ (u : View A F R). u.one.held ((k.ghost).lines.pos (suc b.before + index)) p) view_is ∙ ap (λ n. has (after_segments kind.system n (x₀)).held p) pos_is

        not_out : ((p : Path) → event.status ≡ Running p → ⊥) → (k.ghost).out (suc b.before + index) ≡ false
        not_out off = elim (bool_cases ((k.ghost).out (suc b.before + index))) [
          | inr z ↦ z
          | inl z ↦ absurd (off _ (running_is event.status _ _ _ (status (suc b.before + index) event e) z))
        ]

        holds_hand : (v : ℕ) (hd : Hand A F) → s.hands v ≡ Some hd → (k.ghost).lines.holds hd.path hd.ticket ≡ true
        holds_hand v hd i = (let hs = x.hands v hd i in subst (λ q. (k.ghost).lines.holds q hd.ticket ≡ true) (sym hs.place) (Rattle.wave_theory.proofs.Frames.holds_spot kind.system w law course b.before Is_real k.ghost x.good hd.ticket (first _ _ hs.later) hs.known (λ z. there_done (sym hs.stage ∙ z)) (ap is_pending hs.stage)))
          where
            first : (a t : ℕ) → a < t → 1 ≤ t
            first a t l = omega (arith, l)

    pub holders : Holders kind b batches s
    holders = record {
      known = λ p en d i j. (let f = Told.entry_same kind owes b batches begins jobs s k p en i in
          let z = in_claims (λ u. w.looks u p) en.holders d (subst (λ (u : Entry F). AllByRecursion (λ c. c.peek ≡ w.looks c.ticket p) u.holders) (sym f) (x.entries p).peeks) j in
          who p d (sym ((x.entries p).holders d.ticket) ∙ ap (λ (u : Entry F). Shows.holds_claim u.holders d.ticket) (sym f) ∙ z.0) z.1);
      there = λ t event p hold e i. held_there t event p hold e i;
    }
      where
        who : (p : Path) (d : Claim) → (k.ghost).lines.holds p d.ticket ≡ true → d.peek ≡ w.looks d.ticket p → IsHeld s p d ⊎ IsParting s d.ticket p
        who p d h e = (let m = x.good.let_in d.ticket p h in let l = (x.entries p).later d.ticket h in let cd = x.cells d.ticket l m.known in
            elim (bool_cases (w.held d.ticket ((k.ghost).lines.pos d.ticket) p)) [
              | inl z ↦ (let o = option_some (hold_at cd.event.held p) (cd.held p ∙ ap₂ (λ i j. i && not j) z (apart m.past)) in
                  inl (record { event = cd.event; is_event = cd.event_is; hold = o.0; is_hold = o.1; peek = (cd.where_held p o.0 o.1).2 ∙ sym e }))
              | inr z ↦ (let o = ((k.alive).one d.ticket l m.known).parting p h z in inr (record { number = (k.ghost).parting d.ticket p; mail = o.mail; there = o.there; path_is = o.path_is; letter = o.letter }))
            ])
          where
            apart : (is_pending ((k.ghost).lines.stage d.ticket) ≡ true → here w (k.ghost).lines d.ticket ≡ p → ⊥) → (is_pending ((k.ghost).lines.stage d.ticket) && path_eq (here w (k.ghost).lines d.ticket) p) ≡ false
            apart n = elim (bool_cases (is_pending ((k.ghost).lines.stage d.ticket) && path_eq (here w (k.ghost).lines d.ticket) p)) [
              | inr z ↦ z
              | inl z ↦ absurd (n (and_first _ _ z) (Rattle.wave_theory.proofs.Basics.path_is _ _ (and_second (is_pending ((k.ghost).lines.stage d.ticket)) _ z)))
            ]

        held_there : (t : ℕ) (event : Event A) (p : Path) (hold : Hold) → (s.cells t).event ≡ Some event → hold_at event.held p ≡ Some hold →
            (en : Entry F) × ((s.columns p).store hold.host ≡ Some en) × IsIn en.holders (record { ticket = t; peek = hold.peek })
        held_there t event p hold e i =
            let l = kn t event e in
            let ct = c t event e in
            let y = ct.where_held p hold (ap (λ (u : Event A). hold_at u.held p) (sym (same t event e)) ∙ i) in
            let h = holds_of kind.system w law course b.before Is_real k.ghost x.good t p (first _ _ l.0) l.1 (sym (held t event e p) ∙ ap is_some i) in
            ((k.ghost).entry p, ap (s.columns p).store y.0 ∙ store_is p y.1 t h, subst (λ j. IsIn ((k.ghost).entry p).holders (record { ticket = t; peek = j })) (sym y.2) (claim_in (λ u. w.looks u p) ((k.ghost).entry p).holders t (x.entries p).peeks ((x.entries p).holders t ∙ h)))
          where
            first : (a t : ℕ) → a < t → 1 ≤ t
            first a t l = omega (arith, l)

            store_is : (p : Path) → ((k.ghost).trail p).stored ≡ true → (t : ℕ) → (k.ghost).lines.holds p t ≡ true → (s.columns p).store (owner ((k.ghost).trail p)) ≡ Some ((k.ghost).entry p)
            store_is p st t h = elim (bool_cases ((k.ghost).born p)) [
              | inl u ↦ (subst (λ i. Shows.ColumnShows kind.system w course b.before Is_real i k.ghost p (s.columns p)) u (x.columns p)).there st
              | inr u ↦ absurd (clash _ h (sym ((x.entries p).holders t) ∙ ap (λ (y : Entry F). Shows.holds_claim y.holders t) ((x.entries p).unborn u)))
            ]
