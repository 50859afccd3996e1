-- What holds of each state on the way: it shows the lines and the fold, and its head has come as far.
use Rattle.std.proofs.Common.{◌≡◌, ℕ, suc, ◌+◌, ◌<◌, ◌≤◌, ◌⊎◌, inl, inr, nat_eq, Bool, true, Option, Some, None, is_some, List, [], refl, sym, ◌∙◌, ap, subst, arith}
use Rattle.std.specs.Prelude.{if◌then◌else◌, slice_get}
use Rattle.wave_base.specs.declared.path.Path.{Path}
use Rattle.wave_states.specs.States.{State, Cell, Event, Mail, set}
use Rattle.wave_states.specs.Steps.{Bench, with_bench, after_commit}
use Rattle.wave_theory.proofs.Basics.{some_same, none_not, number_cases, set_at, set_there}
use Rattle.wave_theory.proofs.Order.{Way, IsWay}
use Rattle.wave_theory.proofs.Leaves.{Course, IsCourse}
use Rattle.wave_theory.proofs.Alive
use Rattle.wave_theory.proofs.Tallies
use Rattle.wave_states.specs.Labels.{is_pass}
use Rattle.wave_theory.proofs.Deeds
use Rattle.wave_theory.proofs.Shows
use Rattle.std.specs.Prelude.{All}
use Rattle.wave_base.specs.Fold.{Head, Progress, with_done}
use Rattle.wave_states.specs.Begins.{Begin}
use Rattle.wave_states.specs.Kinds.{Kind}
use Rattle.wave_states.specs.Owes.{Owes, IsBegin}
use Rattle.wave_states.specs.Labels.{Act}
use Rattle.wave_states.specs.Alone.{Alone, fold_alone, job_after, after_segments, run_alone}
use Rattle.wave_theory.proofs.Ways.{none_yet, looks_is, Counts}
use Rattle.wave_theory.proofs.Courses.{Real, view_real, view, View, done_at}
use Rattle.wave_theory.proofs.Courses
use Rattle.wave_theory.proofs.Plans.{first_of, last_of, first_ok, counts}
use Rattle.wave_theory.proofs.Folds
use Rattle.wave_theory.proofs.Admitting

module _ {A F R J : Type 0} (kind : Kind A F R J) (owes : Owes kind) (b : Begin F) (batches : List (List J)) (begins : IsBegin kind b) (jobs : All (All kind.is_job) batches) where
  abbrev pub w : Way
  w = Courses.w kind owes b batches begins jobs

  abbrev pub course : Course kind.system
  course = Courses.course kind owes b batches begins jobs

  pub law : IsWay w
  law = Courses.law kind owes b batches begins jobs

  abbrev pub Is_real : ℕ → Type 0
  Is_real = Courses.Real kind owes b batches begins jobs

  pub courses : IsCourse kind.system w course b.before Is_real
  courses = Courses.courses kind owes b batches begins jobs

  abbrev pub at : ℕ → Progress F R J
  at n = fold_alone kind.system b batches n

  abbrev pub Shown : State A F R J → Shows.Ghost F → Type 0
  Shown s g = Shows.Shows kind.system w course b.before Is_real s g

  -- the head is the fold's, and what is committed has ended
  pub record Heads (s : State A F R J) : Type 0 where
    pub head_is : s.head ≡ (at s.head.done).head
    pub few : s.head.done ≤ s.admitted
    pub over : (i : ℕ) → i < s.head.done → is_some (s.cells (suc b.before + i)).result ≡ true

  pub record Good_state (s : State A F R J) : Type 0 where
    pub ghost : Shows.Ghost F
    pub shows : Shown s ghost
    pub heads : Heads s
    pub alive : Alive.Alive kind.system w course b.before Is_real s ghost
    pub tally : ℕ → ℕ
    pub tallied : Tallies.Tally kind.system w course b.before Is_real ghost tally

  -- how many labels were taken so far, the Passes aside
  abbrev pub total : State A F R J → (ℕ → ℕ) → ℕ
  total s c = Tallies.sum_to s.admitted (λ i. c (suc b.before + i)) + s.head.done

  pub record Goes (s : State A F R J) (n : ℕ) : Type 0 where
    pub good : Good_state s
    pub counts : total s good.tally ≡ n

  -- what a label does
  abbrev pub Turned : State A F R J → Shows.Ghost F → Shows.Ghost F → Act → Type 0
  Turned s g g' a = Deeds.Turn kind.system w course b.before Is_real s g g' a

  -- the state after a label, before which so many were taken
  pub record Next (s s' : State A F R J) (g : Shows.Ghost F) (n : ℕ) (a : Act) : Type 0 where
    pub good : Good_state s'
    pub counts : total s' good.tally ≡ (if is_pass a then n else suc n)
    pub turn : Turned s g good.ghost a

  -- a ticket of which there is something was admitted
  pub known : (s : State A F R J) (g : Shows.Ghost F) → Shown s g → (t : ℕ) → (s.cells t ≡ record { event = None; mails = λ k. None; result = None } → ⊥) → (b.before < t) × (t ≤ g.lines.admitted)
  known s g x t n = elim (below_or b.before t) [
    | inr l ↦ absurd (n (x.no_cells t (λ a m. absurd (omega arith))))
    | inl l ↦ elim (below_or g.lines.admitted t) [
      | inr m ↦ (l, m)
      | inl m ↦ absurd (n (x.no_cells t (λ a k. absurd (omega arith))))
    ]
  ]
    where
      below_or : (a b : ℕ) → (a < b) ⊎ (b ≤ a)
      below_or a b = grind arith

  pub event_there : (c : Cell A F R) (e : Event A) → c.event ≡ Some e → c ≡ record { event = None; mails = λ k. None; result = None } → ⊥
  event_there c e p q = none_not (sym (ap (λ (u : Cell A F R). u.event) q) ∙ p)

  pub mail_there : (c : Cell A F R) (k : ℕ) (m : Mail F) → c.mails k ≡ Some m → c ≡ record { event = None; mails = λ k. None; result = None } → ⊥
  mail_there c k m p q = none_not (sym (ap (λ (u : Cell A F R). u.mails k) q) ∙ p)

  result_there : (c : Cell A F R) (r : R) → c.result ≡ Some r → c ≡ record { event = None; mails = λ k. None; result = None } → ⊥
  result_there c r p q = none_not (sym (ap (λ (u : Cell A F R). u.result) q) ∙ p)

  -- a label of a ticket that leaves its result, or has none before
  pub heads_after : (s : State A F R J) (t : ℕ) (p : Path) (v : ℕ) (y : Bench A F R) → Heads s → (is_some (s.cells t).result ≡ true → is_some y.part.cell.result ≡ true) → Heads (with_bench s t p v y)
  heads_after s t p v y h k = record {
    head_is = h.head_is;
    few = h.few;
    over = λ i l. elim (number_cases t (suc b.before + i)) [
      | inr n ↦ ap (λ (u : Cell A F R). is_some u.result) (set_there nat_eq s.cells t y.part.cell (suc b.before + i) n) ∙ h.over i l
      | inl n ↦ subst (λ j. is_some (set nat_eq s.cells t y.part.cell j).result ≡ true) n (ap (λ (u : Cell A F R). is_some u.result) (set_at s.cells t y.part.cell) ∙ k (ap (λ j. is_some (s.cells j).result) n ∙ h.over i l))
    ];
  }

  -- the next ticket
  module _ (s : State A F R J) (g : Shows.Ghost F) (x : Shown s g) (h : Heads s) where
    pub first_is : (j : J) → slice_get s.head.known s.admitted ≡ Some j → Admitting.IsFirst kind.system w law course b.before Is_real courses (suc g.lines.admitted) j
    first_is j e = subst (λ t. Admitting.IsFirst kind.system w law course b.before Is_real courses t j) (sym ticket) (record {
      real = record { index = s.admitted; job = j; ticket_is = refl; job_is = kj.1 };
      actor = ap (λ (v : View A F R). v.actor 0) view_is ∙ ap (λ (y : Alone A F R). Some y.actor) (none_yet kind.system x₀);
      result = ap (λ (v : View A F R). v.result 0) view_is ∙ ap (λ (y : Alone A F R). y.result) (none_yet kind.system x₀);
      looks = ap (λ (v : View A F R). v.one.looks []) view_is ∙ ap (view_looks) (sym (ap (λ (y : Alone A F R). y.at) (none_yet kind.system x₀))) ∙ looks_is kind owes x₀ (last_of kind owes b batches begins jobs s.admitted j) (first_ok kind owes b batches begins jobs s.admitted j kj.1) (counts kind owes b batches begins jobs s.admitted j kj.1) 0 (omega arith) (ap (λ (y : Alone A F R). y.fresh) (none_yet kind.system x₀))
          ∙ ap (λ (y : Alone A F R). y.peek) (none_yet kind.system x₀) ∙ ap (λ t. kind.system.peeks (kind.system.make j t)) refl;
    })
      where
        ticket : suc g.lines.admitted ≡ suc b.before + s.admitted
        ticket = omega (arith, x.admitted)

        kj : ((at s.admitted).head.done ≡ s.admitted) × (job_after kind.system b batches s.admitted ≡ Some j)
        kj = Folds.known_job kind.system b batches s.head.done s.admitted j (ap (λ (u : Head J). u.done) (sym h.head_is)) (ap (λ (u : Head J). slice_get u.known s.admitted) (sym h.head_is) ∙ e) h.few

        x₀ : Alone A F R
        x₀ = first_of kind owes b batches begins jobs s.admitted j

        view_is : view kind owes b batches begins jobs (suc b.before + s.admitted) ≡ Courses.view_at kind owes b batches begins jobs s.admitted (Some j)
        view_is = view_real kind owes b batches begins jobs s.admitted j kj.1

        view_looks : Path → Bool
        view_looks = (Courses.view_at kind owes b batches begins jobs s.admitted (Some j)).one.looks

  -- the result of a job in the fold is that of its last segment
  pub fold_result : (i : ℕ) (j : J) (k : ℕ) (r : R) → job_after kind.system b batches i ≡ Some j → k ≤ suc (last_of kind owes b batches begins jobs i j) → (after_segments kind.system k (first_of kind owes b batches begins jobs i j)).result ≡ Some r →
      ((run_alone kind.system (suc b.before + i) (at i).tree j).result ≡ r) × (k ≡ suc (last_of kind owes b batches begins jobs i j))
  fold_result i j k r e l p = (Courses.result_after kind owes b batches begins jobs i j e ∙ same, last_is)
    where
      c : Counts kind.system (first_of kind owes b batches begins jobs i j) (suc (last_of kind owes b batches begins jobs i j))
      c = counts kind owes b batches begins jobs i j e

      last_is : k ≡ suc (last_of kind owes b batches begins jobs i j)
      last_is = elim (at_or_below k (suc (last_of kind owes b batches begins jobs i j)) l) [ inr m ↦ m | inl m ↦ absurd (none_not (sym (c.under k m) ∙ p)) ]
        where
          at_or_below : (a b : ℕ) → a ≤ b → (a < b) ⊎ (a ≡ b)
          at_or_below a b l = grind arith

      same : (counts kind owes b batches begins jobs i j e).result ≡ r
      same = some_same _ r (sym (counts kind owes b batches begins jobs i j e).ends ∙ ap (λ n. (after_segments kind.system n (first_of kind owes b batches begins jobs i j)).result) (sym last_is) ∙ p)

  module _ (s : State A F R J) (g : Shows.Ghost F) (x : Shown s g) (h : Heads s) where
    -- a result that a cell has is the fold's
    pub record ResultIs (t : ℕ) (r : R) : Type 0 where
      pub index : ℕ
      pub job : J
      pub ticket_is : t ≡ suc b.before + index
      pub job_is : job_after kind.system b batches index ≡ Some job
      pub result_is : (run_alone kind.system (suc b.before + index) (at index).tree job).result ≡ r
      pub admitted : t ≤ g.lines.admitted
      pub ended : g.lines.pos t ≡ suc (w.last t)

    pub result_of : (t : ℕ) (r : R) → (s.cells t).result ≡ Some r → ResultIs t r
    result_of t r e = record {
      index = real.index;
      job = real.job;
      ticket_is = real.ticket_is;
      job_is = real.job_is;
      result_is = f.0;
      admitted = k.1;
      ended = f.1 ∙ ap suc (sym last_same);
    }
      where
        k : (b.before < t) × (t ≤ g.lines.admitted)
        k = known s g x t (result_there (s.cells t) r e)

        c : Shows.CellShows kind.system w course b.before Is_real g t (s.cells t)
        c = x.cells t k.0 k.1

        real : Courses.Real kind owes b batches begins jobs t
        real = c.real

        view_is : view kind owes b batches begins jobs t ≡ Courses.view_at kind owes b batches begins jobs real.index (Some real.job)
        view_is = ap (view kind owes b batches begins jobs) real.ticket_is ∙ view_real kind owes b batches begins jobs real.index real.job real.job_is

        last_same : w.last t ≡ last_of kind owes b batches begins jobs real.index real.job
        last_same = ap (λ (v : View A F R). v.one.last) view_is

        f : ((run_alone kind.system (suc b.before + real.index) (at real.index).tree real.job).result ≡ r) × (g.lines.pos t ≡ suc (last_of kind owes b batches begins jobs real.index real.job))
        f = fold_result real.index real.job (g.lines.pos t) r real.job_is (subst (λ n. g.lines.pos t ≤ suc n) last_same (x.good.within t k.1))
            (sym (ap (λ (v : View A F R). v.result (g.lines.pos t)) view_is) ∙ sym c.result ∙ e)

    -- a commit goes on in the fold
    pub commit_heads : (r : R) → (s.cells (suc (b.before + s.head.done))).result ≡ Some r → Heads (after_commit kind.system s r)
    commit_heads r e = record {
      head_is = ap (λ u. with_done u (kind.system.created r)) h.head_is ∙ sym next_head ∙ ap (λ n. (at n).head) (sym done_now);
      few = subst (λ n. n ≤ s.admitted) (sym done_now) (omega (arith, q.admitted, x.admitted));
      over = λ i l. elim (at_or_below i s.head.done (subst (λ n. i < n) done_now l)) [
        | inl m ↦ h.over i m
        | inr m ↦ ap (λ n. is_some (s.cells (suc b.before + n)).result) m ∙ ap (λ n. is_some (s.cells n).result) (let z : suc b.before + s.head.done ≡ suc (b.before + s.head.done) = omega arith in z) ∙ ap is_some e
      ];
    }
      where
        q : ResultIs (suc (b.before + s.head.done)) r
        q = result_of (suc (b.before + s.head.done)) r e

        index_is : (q).index ≡ s.head.done
        index_is = same_index b.before _ _ q.ticket_is
          where
            same_index : (x a i : ℕ) → suc (x + a) ≡ suc x + i → i ≡ a
            same_index x a i e = omega arith

        job_now : job_after kind.system b batches s.head.done ≡ Some (q).job
        job_now = ap (job_after kind.system b batches) (sym index_is) ∙ q.job_is

        result_now : (run_alone kind.system (suc b.before + s.head.done) (at s.head.done).tree (q).job).result ≡ r
        result_now = ap (λ n. (run_alone kind.system (suc b.before + n) (at n).tree (q).job).result) (sym index_is) ∙ q.result_is

        next_head : (at (suc s.head.done)).head ≡ with_done (at s.head.done).head (kind.system.created r)
        next_head = ap (λ (v : Progress F R J). v.head) (Folds.goes_on kind.system b batches s.head.done (q).job job_now (done_at kind owes b batches begins jobs s.head.done (q).job job_now)) ∙ ap (λ u. with_done (at s.head.done).head (kind.system.created u)) result_now

        done_now : (with_done s.head (kind.system.created r)).done ≡ suc s.head.done
        done_now = Folds.with_done_done s.head (kind.system.created r)

        at_or_below : (a b : ℕ) → a < suc b → (a < b) ⊎ (a ≡ b)
        at_or_below a b l = grind arith

  pub idle_of : {X : Type 0} (o : Option X) {Y : Type 0} (p : Option Y) (y : Y) → (if Rattle.std.specs.Prelude.is_none o then p else None) ≡ Some y → (o ≡ None) × (p ≡ Some y)
  idle_of None p y e = (refl, e)
  idle_of (Some a) p y e = absurd (none_not e)
