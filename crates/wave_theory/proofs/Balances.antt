-- How many mails each event sent, by what it holds and the segments that are over.
use Rattle.std.proofs.Common.{◌≡◌, ◌≢◌, ℕ, suc, ◌+◌, ◌<◌, ◌≤◌, ◌⊎◌, ◌==◌, ◌&&◌, inl, inr, nat_eq, nat_lt, Bool, true, false, Some, None, List, [], ◌∷◌, ◌++◌, length, refl, sym, ◌∙◌, ap, ap₂, subst, arith}
use Rattle.std.specs.Prelude.{if◌then◌else◌, All, slice_get}
use Rattle.wave_base.specs.declared.path.Path.{Path}
use Rattle.wave_base.specs.Paths.{path_eq}
use Rattle.wave_states.specs.States.{State, Cell, Column, Entry, Event, Enter, Transfer, set}
use Rattle.wave_states.specs.Labels.{Act, Label, Admit, Queue, Grant, Start, Stop, Free, Pass, Land, Commit, ticket_of, path_of, is_local}
use Rattle.wave_states.specs.Labels
use Rattle.wave_states.specs.Steps.{Bench, step, step_by, act_bench, with_bench, part_of, others, only_if, next_ticket, after_admit, after_commit}
use Rattle.wave_states.specs.Runs.{run}
use Rattle.wave_states.specs.Begins.{Begin, start_state, entry_at_start}
use Rattle.wave_base.specs.Tree.{there}
use Rattle.wave_states.specs.Kinds.{Kind}
use Rattle.wave_states.specs.Owes.{Owes, IsBegin}
use Rattle.wave_theory.proofs.Basics.{some_same, none_not, number_cases, path_cases, set_at, set_there, set_at_path, then_some, map_some, only_some, if_some}
use Rattle.wave_theory.proofs.Commute.{local_step}
use Rattle.wave_theory.proofs.Order.{Way, Stage, Entering, Lined, Coming, There, Done, here}
use Rattle.wave_theory.proofs.Leaves.{Course}
use Rattle.wave_theory.proofs.Deeds.{Outline, outline, Deed, done_by, Suits}
use Rattle.wave_theory.proofs.Deeds
use Rattle.wave_theory.proofs.Homes
use Rattle.wave_theory.proofs.Tallies.{sum_to, sum_zero, sum_more}
use Rattle.wave_theory.proofs.Sizes.{one_if, last_stale}
use Rattle.wave_theory.proofs.Plans.{first_of, last_of, counts}
use Rattle.wave_theory.proofs.Courses.{View, view, view_real}
use Rattle.wave_theory.proofs.Courses
use Rattle.wave_theory.proofs.Shows
use Rattle.wave_theory.proofs.GoodStates.{Good_state}
use Rattle.wave_theory.proofs.GoodStates
use Rattle.wave_theory.proofs.Along
use Rattle.wave_theory.specs.Numbers.{HasEntry}
use Rattle.wave_theory.proofs.Stages.{there_done}
use Rattle.wave_theory.proofs.Spent.{OnceIn, Spends, going, granting, over, plain}
use Rattle.wave_theory.proofs.Spent

module _ {A F R J : Type 0} (kind : Kind A F R J) (owes : Owes kind) (b : Begin F) (batches : List (List J)) (begins : IsBegin kind b) (jobs : All (All kind.is_job) batches) where
  abbrev w : Way
  w = Courses.w kind owes b batches begins jobs

  abbrev course : Course kind.system
  course = Courses.course kind owes b batches begins jobs

  abbrev Is_real : ℕ → Type 0
  Is_real = Courses.Real kind owes b batches begins jobs

  abbrev Single : State A F R J → Type 0
  Single s = (p : Path) (en : Entry F) → HasEntry s p en → OnceIn en.holders

  abbrev pub pend : Stage → ℕ
  pend Entering = 1
  pend Lined = 1
  pend Coming = 0
  pend There = 0
  pend Done = 0

  abbrev pub live : Stage → ℕ
  live Entering = 1
  live Lined = 1
  live Coming = 1
  live There = 1
  live Done = 0

  -- so many contexts the ticket has entered before this segment
  abbrev pub came_to : ℕ → ℕ → ℕ
  came_to t n = sum_to (suc n) (λ i. one_if kind.system (w.fresh t i))

  -- what was sent, and is to be given up or waited for, is one for each segment that is over or out and each context that was entered
  abbrev pub Balance : Event A → ℕ → Stage → ℕ → Type 0
  Balance e t v n = e.sent + length e.held + pend v ≡ live v + n + came_to t n

  pub came_more : (t n : ℕ) → came_to t (suc n) ≡ came_to t n + one_if kind.system (w.fresh t (suc n))
  came_more t n = sum_more (suc n) (λ i. one_if kind.system (w.fresh t i))

  -- nothing is entered after the last segment
  pub none_after : (t : ℕ) → Is_real t → w.fresh t (suc (w.last t)) ≡ false
  none_after t r = subst (λ (v : View A F R). v.one.fresh (suc v.one.last) ≡ false) (sym (ap (view kind owes b batches begins jobs) r.ticket_is ∙ view_real kind owes b batches begins jobs r.index r.job r.job_is))
      (last_stale kind.system (first_of kind owes b batches begins jobs r.index r.job) (last_of kind owes b batches begins jobs r.index r.job) (counts kind owes b batches begins jobs r.index r.job r.job_is) refl refl)

  module _ (some_host : 0 < kind.hosts) (workers : ℕ) where
    pub record Kept (s : State A F R J) (g : Shows.Ghost F) : Type 0 where
      pub single : Single s
      pub balance : (t : ℕ) → b.before < t → t ≤ g.lines.admitted → (e : Event A) → (s.cells t).event ≡ Some e → Balance e t (g.lines.stage t) (g.lines.pos t)

    abbrev pub KeptBy : (ls : List Label) (s : State A F R J) → Good_state kind owes b batches begins jobs s → Type 0
    KeptBy ls s k = Kept s k.ghost

    module _ (s s' : State A F R J) (k : Good_state kind owes b batches begins jobs s) (l : Label) (h : Kept s k.ghost) (e : step kind.system workers s l ≡ Some s') (n : Along.Follows kind owes b batches begins jobs some_host workers s s' k l) where
      abbrev g : Shows.Ghost F
      g = k.ghost

      abbrev o : Outline
      o = outline k.ghost

      by_it : step_by kind.system s l.worker l.host l.act ≡ Some s'
      unfolding step
      by_it = (if_some (nat_lt l.worker workers) (step_by kind.system s l.worker l.host l.act) s' e).1

      real_of : (t : ℕ) → k.ghost.lines.stage t ≡ There → Is_real t
      real_of t st = (let kn = Homes.known_by_shows kind owes b batches begins jobs s k.ghost k.shows t (λ z. there_done (sym st ∙ z)) in (k.shows.cells t kn.0 kn.1).real)

      ending_sum : (t : ℕ) → (g).lines.stage t ≡ There → (g).lines.pos t ≡ w.last t → (u u' : Event A) → u'.sent + length u'.held ≡ u.sent + length u.held → Balance u t ((g).lines.stage t) ((g).lines.pos t) →
          Balance u' t (set nat_eq (g).lines.stage t Done t) (set nat_eq (g).lines.pos t (suc ((g).lines.pos t)) t)
      ending_sum t st last u u' y bal = sums _ _ _ _ _ _ _ _ _ _ (ap pend st) (ap live st) (ap pend (set_at (g).lines.stage t Done)) (ap live (set_at (g).lines.stage t Done)) (set_at (g).lines.pos t _)
          (ap (came_to t) (set_at (g).lines.pos t (suc ((g).lines.pos t))) ∙ came_more t ((g).lines.pos t) ∙ ap (λ i. came_to t ((g).lines.pos t) + one_if kind.system i) (ap (λ m. w.fresh t (suc m)) last ∙ none_after t (real_of t st))) y bal
        where
          sums : (x x' p v p' v' m m' c c' : ℕ) → p ≡ 0 → v ≡ 1 → p' ≡ 0 → v' ≡ 0 → m' ≡ suc m → c' ≡ c + 0 → x' ≡ x → x + p ≡ v + m + c → x' + p' ≡ v' + m' + c'
          sums x x' p v p' v' m m' c c' h0 h1 h2 h3 h4 h5 h6 h7 = omega (arith, h0, h1, h2, h3, h4, h5, h6, h7)

      -- the ticket of the label
      own : (a : Act) (d : Deed) → Suits a d → Deeds.Fits kind.system w course b.before Is_real s k.ghost (n.good).ghost (ticket_of a) (path_of a) d → (u u' : Event A) → Spends a u u' →
          ((v : Stage) → (done_by w o (ticket_of a) (path_of a) d).stage (ticket_of a) ≡ v → (q : Bool) × (r : Path) × Shows.StatusShows u'.status v q r) →
          d ≢ Deeds.Admits → Balance u (ticket_of a) ((g).lines.stage (ticket_of a)) ((g).lines.pos (ticket_of a)) → Balance u' (ticket_of a) ((done_by w o (ticket_of a) (path_of a) d).stage (ticket_of a)) ((done_by w o (ticket_of a) (path_of a) d).pos (ticket_of a))
      own a Deeds.Admits su f u u' sp st off bal = absurd (off refl)
      own a Deeds.Lines_up su f u u' sp st off bal = sums _ _ _ _ _ _ _ _ (ap pend f.stage) (ap live f.stage) (ap pend (set_at (g).lines.stage (ticket_of a) Lined)) (ap live (set_at (g).lines.stage (ticket_of a) Lined)) (plain a Deeds.Lines_up refl su u u' sp) bal
        where
          sums : (x x' p v p' v' m c : ℕ) → p ≡ 1 → v ≡ 1 → p' ≡ 1 → v' ≡ 1 → x' ≡ x → x + p ≡ v + m + c → x' + p' ≡ v' + m + c
          sums x x' p v p' v' m c h0 h1 h2 h3 h4 h5 = omega (arith, h0, h1, h2, h3, h4, h5)
      own a Deeds.Lets_in su f u u' sp st off bal = sums _ _ _ _ _ _ _ _ (ap pend f.stage) (ap live f.stage) (ap pend (set_at (g).lines.stage (ticket_of a) There)) (ap live (set_at (g).lines.stage (ticket_of a) There)) (granting a su u u' sp) bal
        where
          sums : (x x' p v p' v' m c : ℕ) → p ≡ 1 → v ≡ 1 → p' ≡ 0 → v' ≡ 1 → x' ≡ suc x → x + p ≡ v + m + c → x' + p' ≡ v' + m + c
          sums x x' p v p' v' m c h0 h1 h2 h3 h4 h5 = omega (arith, h0, h1, h2, h3, h4, h5)
      own a Deeds.Arrives su f u u' sp st off bal = sums _ _ _ _ _ _ _ _ (ap pend f) (ap live f) (ap pend (set_at (g).lines.stage (ticket_of a) There)) (ap live (set_at (g).lines.stage (ticket_of a) There)) (plain a Deeds.Arrives refl su u u' sp) bal
        where
          sums : (x x' p v p' v' m c : ℕ) → p ≡ 0 → v ≡ 1 → p' ≡ 0 → v' ≡ 1 → x' ≡ x → x + p ≡ v + m + c → x' + p' ≡ v' + m + c
          sums x x' p v p' v' m c h0 h1 h2 h3 h4 h5 = omega (arith, h0, h1, h2, h3, h4, h5)
      own a Deeds.Rests su f u u' sp st off bal = ap (λ x. x + pend ((g).lines.stage (ticket_of a))) (plain a Deeds.Rests refl su u u' sp) ∙ bal
      own a Deeds.Lands su f u u' sp st off bal = ap (λ x. x + pend ((g).lines.stage (ticket_of a))) (plain a Deeds.Lands refl su u u' sp) ∙ bal
      own a Deeds.Goes_on su f u u' sp st off bal = sums _ _ _ _ _ _ _ _ _ _ (ap pend f.stopped.stage) (ap live f.stopped.stage) (ap pend (set_at (g).lines.stage (ticket_of a) Coming)) (ap live (set_at (g).lines.stage (ticket_of a) Coming)) (set_at (g).lines.pos (ticket_of a) _)
          (ap (came_to (ticket_of a)) (set_at (g).lines.pos (ticket_of a) (suc ((g).lines.pos (ticket_of a)))) ∙ came_more (ticket_of a) ((g).lines.pos (ticket_of a)) ∙ ap (λ i. came_to (ticket_of a) ((g).lines.pos (ticket_of a)) + one_if kind.system i) f.stale) (going Coming a Deeds.Goes_on refl su u u' sp (st Coming (set_at (g).lines.stage (ticket_of a) Coming)) (λ q r z. z)) bal
        where
          sums : (x x' p v p' v' m m' c c' : ℕ) → p ≡ 0 → v ≡ 1 → p' ≡ 0 → v' ≡ 1 → m' ≡ suc m → c' ≡ c + 0 → x' ≡ suc x → x + p ≡ v + m + c → x' + p' ≡ v' + m' + c'
          sums x x' p v p' v' m m' c c' h0 h1 h2 h3 h4 h5 h6 h7 = omega (arith, h0, h1, h2, h3, h4, h5, h6, h7)
      own a (Deeds.Goes_in s₁ r₁) su f u u' sp st off bal = sums _ _ _ _ _ _ _ _ _ _ (ap pend f.stopped.stage) (ap live f.stopped.stage) (ap pend (set_at (g).lines.stage (ticket_of a) Entering)) (ap live (set_at (g).lines.stage (ticket_of a) Entering)) (set_at (g).lines.pos (ticket_of a) _)
          (ap (came_to (ticket_of a)) (set_at (g).lines.pos (ticket_of a) (suc ((g).lines.pos (ticket_of a)))) ∙ came_more (ticket_of a) ((g).lines.pos (ticket_of a)) ∙ ap (λ i. came_to (ticket_of a) ((g).lines.pos (ticket_of a)) + one_if kind.system i) f.fresh) (going Entering a (Deeds.Goes_in s₁ r₁) refl su u u' sp (st Entering (set_at (g).lines.stage (ticket_of a) Entering)) (λ q r z. z)) bal
        where
          sums : (x x' p v p' v' m m' c c' : ℕ) → p ≡ 0 → v ≡ 1 → p' ≡ 1 → v' ≡ 1 → m' ≡ suc m → c' ≡ c + 1 → x' ≡ suc x → x + p ≡ v + m + c → x' + p' ≡ v' + m' + c'
          sums x x' p v p' v' m m' c c' h0 h1 h2 h3 h4 h5 h6 h7 = omega (arith, h0, h1, h2, h3, h4, h5, h6, h7)
      own a Deeds.Ends su f u u' sp st off bal = ending_sum (ticket_of a) f.stopped.stage f.last u u' (over a Deeds.Ends refl su u u' sp (st Done (set_at (g).lines.stage (ticket_of a) Done))) bal
      own a (Deeds.Moves to) su f u u' sp st off bal = ending_sum (ticket_of a) f.stopped.stage f.last u u' (over a (Deeds.Moves to) refl su u u' sp (st Done (set_at (g).lines.stage (ticket_of a) Done))) bal

      -- what the label leaves of the cells and the entries
      pub record Whole (a : Act) (after : State A F R J) : Type 0 where
        pub others : (u : ℕ) → nat_eq (ticket_of a) u ≡ false → after.cells u ≡ s.cells u
        pub event : (u' : Event A) → (after.cells (ticket_of a)).event ≡ Some u' → ((u'.sent ≡ 1) × (u'.held ≡ []) × ((t : ℕ) × (a ≡ Admit t))) ⊎ ((u : Event A) × ((s.cells (ticket_of a)).event ≡ Some u) × Spends a u u')
        pub single : Single after

      local_whole : (a : Act) → is_local a ≡ true → step_by kind.system s l.worker l.host a ≡ Some s' → Whole a s'
      local_whole a z e = by (map_some _ _ s' (sym (local_step kind.system s l.worker l.host a z) ∙ e))
        where
          by : (y : Bench A F R) × (act_bench kind.system a l.host (part_of s (ticket_of a) (path_of a)) (s.hands l.worker) ≡ Some y) × (s' ≡ with_bench s (ticket_of a) (path_of a) l.worker y) → Whole a s'
          by y = subst (Whole a) (sym y.2) (record {
            others = λ u d. set_there nat_eq s.cells (ticket_of a) (y.0).part.cell u d;
            event = λ u' j. inr (lv.event u' (sym (ap (λ (c : Cell A F R). c.event) (set_at s.cells (ticket_of a) (y.0).part.cell)) ∙ j));
            single = λ p en i. single_by p en i;
          })
            where
              lv : Spent.Leaves kind owes b batches begins jobs s k a y.0
              lv = Spent.local kind owes b batches begins jobs s k l.worker l.host a y.0 (s.hands l.worker) refl z y.1

              single_by : (p : Path) (en : Entry F) → HasEntry (with_bench s (ticket_of a) (path_of a) l.worker y.0) p en → OnceIn en.holders
              single_by p en (inl i) = elim (path_cases (path_of a) p) [
                | inr d ↦ h.single p en (inl (i.0, sym (ap (λ (c : Column F). c.store i.0) (set_there path_eq s.columns (path_of a) (y.0).part.column p d)) ∙ i.1))
                | inl d ↦ elim ((lv).store h.single i.0 en (sym (ap (λ (c : Column F). c.store i.0) (set_at_path s.columns (path_of a) (y.0).part.column)) ∙ ap (λ q. (set path_eq s.columns (path_of a) (y.0).part.column q).store i.0) d ∙ i.1)) [
                  | inl r ↦ h.single (path_of a) en (inl (i.0, r))
                  | inr r ↦ r
                ]
              ]
              single_by p en (inr i) = elim (number_cases (ticket_of a) i.0) [
                | inr d ↦ h.single p en (inr (i.0, i.1, i.2, sym (ap (λ (c : Cell A F R). c.mails i.1) (set_there nat_eq s.cells (ticket_of a) (y.0).part.cell i.0 d)) ∙ i.3))
                | inl d ↦ elim ((lv).mails h.single i.1 _ en (sym (ap (λ (c : Cell A F R). c.mails i.1) (set_at s.cells (ticket_of a) (y.0).part.cell)) ∙ ap (λ q. (set nat_eq s.cells (ticket_of a) (y.0).part.cell q).mails i.1) d ∙ i.3) refl) [
                  | inl r ↦ h.single p en (inr (ticket_of a, i.1, i.2, r))
                  | inr r ↦ r
                ]
              ]

      whole : (a : Act) → step_by kind.system s l.worker l.host a ≡ Some s' → Whole a s'
      whole (Admit t) e = (let j = then_some (λ j. only_if ((l.host == 0) && (t == next_ticket s)) (after_admit kind.system s t j)) (slice_get s.head.known s.admitted) s' (if_some _ _ s' e).1 in
          subst (Whole (Admit t)) (only_some ((l.host == 0) && (t == next_ticket s)) (after_admit kind.system s t j.0) s' j.2).1 (record {
            others = λ u d. set_there nat_eq s.cells t _ u d;
            event = λ u' i. inl (first t j.0 u' i);
            single = λ p en i. single_by t j.0 p en i;
          }))
        where
          first : (t : ℕ) (j : J) (u' : Event A) → ((after_admit kind.system s t j).cells t).event ≡ Some u' → (u'.sent ≡ 1) × (u'.held ≡ []) × ((i : ℕ) × (Admit t ≡ Admit i))
          first t j u' i = (let z = some_same _ u' (sym (ap (λ (c : Cell A F R). c.event) (set_at s.cells t (Rattle.wave_states.specs.Steps.new_cell kind.system (kind.system.make j t) t))) ∙ i) in (ap (λ (v : Event A). v.sent) (sym z), ap (λ (v : Event A). v.held) (sym z), (t, refl)))

          single_by : (t : ℕ) (j : J) (p : Path) (en : Entry F) → HasEntry (after_admit kind.system s t j) p en → OnceIn en.holders
          single_by t j p en (inl i) = h.single p en (inl i)
          single_by t j p en (inr i) = elim (number_cases t i.0) [
            | inr d ↦ h.single p en (inr (i.0, i.1, i.2, sym (ap (λ (c : Cell A F R). c.mails i.1) (set_there nat_eq s.cells t _ i.0 d)) ∙ i.3))
            | inl d ↦ absurd (none_new i.1 (sym (ap (λ (c : Cell A F R). c.mails i.1) (set_at s.cells t (Rattle.wave_states.specs.Steps.new_cell kind.system (kind.system.make j t) t))) ∙ ap (λ q. (set nat_eq s.cells t (Rattle.wave_states.specs.Steps.new_cell kind.system (kind.system.make j t) t) q).mails i.1) d ∙ i.3))
          ]
            where
              none_new : (n : ℕ) {c : ℕ} → (Rattle.wave_states.specs.Steps.new_cell kind.system (kind.system.make j t) t).mails n ≡ Some (record { host = c; path = p; letter = Transfer en }) → ⊥
              none_new n e = none_not (Spent.not_passed kind owes b batches begins jobs s k (λ i. None) 1 (record { host = 0; path = []; letter = Enter (record { number = t; followed = 0; peek = kind.system.peeks (kind.system.make j t) }) }) (record { number = t; followed = 0; peek = kind.system.peeks (kind.system.make j t) }) refl n _ en e refl)
      whole (Commit t) e = (let r = then_some (λ r. only_if ((l.host == 0) && (t == suc (s.before + s.head.done))) (after_commit kind.system s r)) (s.cells t).result s' (if_some _ _ s' e).1 in
          subst (Whole (Commit t)) (only_some ((l.host == 0) && (t == suc (s.before + s.head.done))) (after_commit kind.system s r.0) s' r.2).1 (record {
            others = λ u d. refl;
            event = λ u' i. inr (u', i, refl);
            single = λ p en i. h.single p en i;
          }))
      whole (Queue t i p) e = local_whole (Queue t i p) refl e
      whole (Grant t p) e = local_whole (Grant t p) refl e
      whole (Labels.Visit t i p) e = local_whole (Labels.Visit t i p) refl e
      whole (Start t p) e = local_whole (Start t p) refl e
      whole (Stop t p) e = local_whole (Stop t p) refl e
      whole (Free t i p) e = local_whole (Free t i p) refl e
      whole (Pass t i p to) e = local_whole (Pass t i p to) refl e
      whole (Land t i p) e = local_whole (Land t i p) refl e

      wh : Whole l.act s'
      wh = whole l.act by_it

      abbrev g' : Shows.Ghost F
      g' = (n.good).ghost

      abbrev o' : Outline
      o' = done_by w (outline k.ghost) (ticket_of l.act) (path_of l.act) (n.turn).deed

      stage_is : (t : ℕ) → (g').lines.stage t ≡ (o').stage t
      stage_is t = ap (λ (u : Outline). u.stage t) (n.turn).is

      pos_is : (t : ℕ) → (g').lines.pos t ≡ (o').pos t
      pos_is t = ap (λ (u : Outline). u.pos t) (n.turn).is

      status_of : (t : ℕ) → b.before < t → t ≤ (g').lines.admitted → (u : Event A) → (s'.cells t).event ≡ Some u → (v : Stage) → (o').stage t ≡ v → (q : Bool) × (r : Path) × Shows.StatusShows u.status v q r
      status_of t lt la u i v z = (let c = (n.good).shows.cells t lt la in (
        (g').out t,
        here w (g').lines t,
        subst (λ j. Shows.StatusShows u.status j ((g').out t) (here w (g').lines t)) (stage_is t ∙ z) (subst (λ (d : Event A). Shows.StatusShows d.status ((g').lines.stage t) ((g').out t) (here w (g').lines t)) (some_same _ u (sym c.event_is ∙ i)) c.status),
      ))

      pub kept_next : Kept s' g'
      kept_next = record {
        single = (wh).single;
        balance = λ t lt la u i. subst (λ v. Balance u t v ((g').lines.pos t)) (sym (stage_is t)) (subst (λ m. Balance u t ((o').stage t) m) (sym (pos_is t)) (elim (number_cases (ticket_of l.act) t) [
          | inr d ↦ other t d lt la u i
          | inl d ↦ subst (λ t. b.before < t → t ≤ (g').lines.admitted → (s'.cells t).event ≡ Some u → Balance u t ((o').stage t) ((o').pos t)) d (λ lt la i. mine lt la u i ((wh).event u i)) lt la i
        ]));
      }
        where
          other : (t : ℕ) → nat_eq (ticket_of l.act) t ≡ false → b.before < t → t ≤ (g').lines.admitted → (u : Event A) → (s'.cells t).event ≡ Some u → Balance u t ((o').stage t) ((o').pos t)
          other t d lt la u i = (let z = Deeds.stays_off kind.system w course b.before Is_real s k.ghost (n.good).ghost (ticket_of l.act) (path_of l.act) (n.turn).deed (n.turn).fits t d in
              subst (λ v. Balance u t v ((o').pos t)) (sym z.0) (subst (λ m. Balance u t ((g).lines.stage t) m) (sym z.1) (h.balance t lt (known (Deeds.how_many kind.system w course b.before Is_real s k.ghost (n.good).ghost (ticket_of l.act) (path_of l.act) (n.turn).deed (n.turn).fits)) u (sym (ap (λ (c : Cell A F R). c.event) ((wh).others t d)) ∙ i))))
            where
              below : (t m : ℕ) → t ≤ suc m → (suc m ≡ t → ⊥) → t ≤ m
              below t m l f = grind arith

              known : ((o').admitted ≡ (g).lines.admitted) ⊎ (((o').admitted ≡ suc (g).lines.admitted) × (ticket_of l.act ≡ suc (g).lines.admitted)) → t ≤ (g).lines.admitted
              known (inl z) = subst (λ m. t ≤ m) (ap (λ (u : Outline). u.admitted) (n.turn).is ∙ z) la
              known (inr z) = below t (g).lines.admitted (subst (λ m. t ≤ m) (ap (λ (u : Outline). u.admitted) (n.turn).is ∙ z.0) la) (λ y. Rattle.wave_theory.proofs.Basics.not_same (ticket_of l.act) t d (z.1 ∙ y))

          admits_is : (d : Deed) → ((t : ℕ) × (l.act ≡ Admit t)) → Suits l.act d → d ≡ Deeds.Admits
          admits_is d q su = by d (subst (λ a. Suits a d) q.1 su)
            where
              by : (d : Deed) → Suits (Admit q.0) d → d ≡ Deeds.Admits
              by Deeds.Admits s = refl
              by Deeds.Lines_up s = absurd s
              by Deeds.Lets_in s = absurd s
              by Deeds.Arrives s = absurd s
              by Deeds.Rests s = absurd s
              by Deeds.Lands s = absurd s
              by Deeds.Goes_on s = absurd s
              by Deeds.Ends s = absurd s
              by (Deeds.Goes_in st r) s = absurd s
              by (Deeds.Moves to) s = absurd s

          mine : b.before < ticket_of l.act → ticket_of l.act ≤ (g').lines.admitted → (u : Event A) → (s'.cells (ticket_of l.act)).event ≡ Some u →
              ((u.sent ≡ 1) × (u.held ≡ []) × ((t : ℕ) × (l.act ≡ Admit t))) ⊎ ((v : Event A) × ((s.cells (ticket_of l.act)).event ≡ Some v) × Spends l.act v u) → Balance u (ticket_of l.act) ((o').stage (ticket_of l.act)) ((o').pos (ticket_of l.act))
          mine lt la u i (inl z) = (let d = admits_is (n.turn).deed z.2 (n.turn).suits in
              let m : ticket_of l.act ≡ suc (g).lines.admitted = (subst (λ e. Deeds.Fits kind.system w course b.before Is_real s k.ghost (n.good).ghost (ticket_of l.act) (path_of l.act) e) d (n.turn).fits).0 in
              subst (λ e. Balance u (ticket_of l.act) ((done_by w o (ticket_of l.act) (path_of l.act) e).stage (ticket_of l.act)) ((done_by w o (ticket_of l.act) (path_of l.act) e).pos (ticket_of l.act))) (sym d)
              (subst (λ t. Balance u t (set nat_eq (g).lines.stage (suc (g).lines.admitted) Entering t) (set nat_eq (g).lines.pos (suc (g).lines.admitted) 0 t)) (sym m) (begins_so (suc (g).lines.admitted) z.0 z.1)))
            where
              begins_so : (t : ℕ) → u.sent ≡ 1 → u.held ≡ [] → Balance u t (set nat_eq (g).lines.stage t Entering t) (set nat_eq (g).lines.pos t 0 t)
              begins_so t a c = sums _ _ _ _ _ _ a (ap length c) (ap pend (set_at (g).lines.stage t Entering)) (ap live (set_at (g).lines.stage t Entering)) (set_at (g).lines.pos t 0) (ap (came_to t) (set_at (g).lines.pos t 0) ∙ sum_more 0 (λ i. one_if kind.system (w.fresh t i)) ∙ ap₂ (λ i j. i + j) (sum_zero (λ i. one_if kind.system (w.fresh t i))) (ap (one_if kind.system) ((Spent.law kind owes b batches begins jobs).first_fresh t)))
                where
                  sums : (x y p v m c : ℕ) → x ≡ 1 → y ≡ 0 → p ≡ 1 → v ≡ 1 → m ≡ 0 → c ≡ 0 + 1 → x + y + p ≡ v + m + c
                  sums x y p v m c h0 h1 h2 h3 h4 h5 = omega (arith, h0, h1, h2, h3, h4, h5)
          mine lt la u i (inr z) = own l.act (n.turn).deed (n.turn).suits (n.turn).fits z.0 u z.2 (status_of (ticket_of l.act) lt la u i)
              (λ d. none_not (sym (fresh_cell d) ∙ z.1)) (h.balance (ticket_of l.act) lt (known (options_of (n.turn).deed)) z.0 z.1)
            where
              -- a ticket that is admitted has no cell before
              fresh_cell : (n.turn).deed ≡ Deeds.Admits → (s.cells (ticket_of l.act)).event ≡ None
              fresh_cell d = (let m = (subst (λ e. Deeds.Fits kind.system w course b.before Is_real s k.ghost (n.good).ghost (ticket_of l.act) (path_of l.act) e) d (n.turn).fits).0 in ap (λ (c : Cell A F R). c.event) (k.shows.no_cells (ticket_of l.act) (λ x y. past _ _ m y)))
                where
                  past : (t a : ℕ) → t ≡ suc a → t ≤ a → ⊥
                  past t a e l = omega (arith, e, l)

              options_of : (d : Deed) → Unit {0}
              options_of d = tt

              known : Unit {0} → ticket_of l.act ≤ (g).lines.admitted
              known y = (GoodStates.known kind owes b batches begins jobs s k.ghost k.shows (ticket_of l.act) (λ q. none_not (sym (ap (λ (c : Cell A F R). c.event) q) ∙ z.1))).1

    pub record Spending (s : State A F R J) : Type 0 where
      pub good : Good_state kind owes b batches begins jobs s
      pub kept : Kept s good.ghost

    pub spending : (ls : List Label) (s : State A F R J) → run kind.system workers (start_state b batches) ls ≡ Some s → Spending s
    spending ls s e = by (Along.along kind owes b batches begins jobs some_host workers KeptBy next first ls s e)
      where
        next : (ls : List Label) (s s' : State A F R J) (k : Good_state kind owes b batches begins jobs s) (l : Label) → Along.from_start kind owes b batches begins jobs some_host workers ls s → KeptBy ls s k → step kind.system workers s l ≡ Some s' → (n : Along.Follows kind owes b batches begins jobs some_host workers s s' k l) → KeptBy (ls ++ l ∷ []) s' n.good
        next ls s s' k l r h e n = kept_next s s' k l h e n

        first : KeptBy [] (start_state b batches) (Along.first kind owes b batches begins jobs some_host workers)
        first = record { single = λ p en i. single_first p en i; balance = λ t lt la u i. absurd (none_not i) }
          where
            single_first : (p : Path) (en : Entry F) → HasEntry {A = A} {F = F} {R = R} {J = J} (start_state b batches) p en → OnceIn en.holders
            single_first p en (inr i) = absurd (none_not i.3)
            single_first p en (inl i) = by (there b.tree p) refl
              where
                by : (j : Bool) → there b.tree p ≡ j → OnceIn en.holders
                by true j = elim (number_cases (b.places.fields p) i.0) [
                  | inl d ↦ subst (λ (v : Entry F). OnceIn v.holders) (some_same _ en (sym (set_at (λ (h : ℕ). None) (b.places.fields p) (Some (entry_at_start b p))) ∙ ap (λ c. set nat_eq (λ h. None) (b.places.fields p) (Some (entry_at_start b p)) c) d ∙ sym (ap (λ q. (if q then set nat_eq (λ h. None) (b.places.fields p) (Some (entry_at_start b p)) else (λ h. None)) i.0) j) ∙ i.1)) tt
                  | inr d ↦ absurd (none_not (sym (set_there nat_eq (λ (h : ℕ). None) (b.places.fields p) (Some (entry_at_start b p)) i.0 d) ∙ sym (ap (λ q. (if q then set nat_eq (λ h. None) (b.places.fields p) (Some (entry_at_start b p)) else (λ h. None)) i.0) j) ∙ i.1))
                ]
                by false j = absurd (none_not (sym (ap (λ q. (if q then set nat_eq (λ h. None) (b.places.fields p) (Some (entry_at_start b p)) else (λ h. None)) i.0) j) ∙ i.1))

        by : Along.Along kind owes b batches begins jobs some_host workers KeptBy next (ls) s → Spending s
        by a = record { good = a.good; kept = a.holds }
