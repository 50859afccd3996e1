-- How many mails an event sends.
use Rattle.std.proofs.Common.{◌≡◌, ℕ, suc, ◌+◌, ◌<◌, ◌≤◌, ◌&&◌, not, inl, inr, true, false, Some, is_some, List, [], ◌∷◌, length, refl, sym, ◌∙◌, ap, subst, arith}
use Rattle.std.specs.Prelude.{All, cond}
use Rattle.wave_base.specs.declared.path.Path.{Path}
use Rattle.wave_base.specs.Paths.{path_eq}
use Rattle.wave_states.specs.Kinds.{Kind}
use Rattle.wave_states.specs.States.{State, Cell, Event, Hold, hold_at}
use Rattle.wave_states.specs.Alone.{fold_alone, job_after, run_alone, segments_of}
use Rattle.wave_states.specs.Begins.{Begin}
use Rattle.wave_states.specs.Owes.{Owes, IsBegin}
use Rattle.wave_theory.proofs.Basics.{clash, some_same, none_not, path_self}
use Rattle.wave_theory.proofs.Order.{Way, IsWay, Stage, Entering, Lined, Coming, There, Done, is_pending, here}
use Rattle.wave_theory.proofs.Leaves.{Course}
use Rattle.wave_theory.proofs.Held.{hold_cons}
use Rattle.wave_theory.proofs.Tallies.{sum_to, sum_up}
use Rattle.wave_theory.proofs.Sizes.{one_if, entries}
use Rattle.wave_theory.proofs.Plans.{first_of, last_of, counts, segments_is}
use Rattle.wave_theory.proofs.Courses.{View, view, view_real, entered_after}
use Rattle.wave_theory.proofs.Courses
use Rattle.wave_theory.proofs.Agreed.{ended_done, stage_cases}
use Rattle.wave_theory.proofs.Balances
use Rattle.wave_theory.proofs.Shows
use Rattle.wave_theory.proofs.GoodStates.{Good_state}
use Rattle.wave_theory.proofs.GoodStates
use Rattle.wave_theory.specs.Sent.{Sent, shares}

-- nothing is held
pub none_held : (held : List (Path × Hold)) → ((p : Path) → is_some (hold_at held p) ≡ false) → length held ≡ 0
none_held [] f = refl
none_held (x ∷ xs) f = absurd (clash true refl (sym (ap is_some (hold_cons x xs x.0 ∙ ap (λ b. cond b (Some x.1) (hold_at xs x.0)) (path_self x.0))) ∙ f x.0))

module _ {A F R J : Type 0} (kind : Kind A F R J) (owes : Owes kind) (b : Begin F) (batches : List (List J)) (begins : IsBegin kind b) (jobs : All (All kind.is_job) batches) where
  abbrev w : Way
  w = Courses.w kind owes b batches begins jobs

  abbrev course : Course kind.system
  course = Courses.course kind owes b batches begins jobs

  abbrev Is_real : ℕ → Type 0
  Is_real = Courses.Real kind owes b batches begins jobs

  law : IsWay w
  law = Courses.law kind owes b batches begins jobs

  -- what a ticket comes to before its last segment
  came_all : (index : ℕ) (job : J) → job_after kind.system b batches index ≡ Some job → Balances.came_to kind owes b batches begins jobs (suc b.before + index) (w.last (suc b.before + index)) ≡ length (run_alone kind.system (suc b.before + index) (fold_alone kind.system b batches index).tree job).entered
  came_all index job e = ap (λ (v : View A F R). sum_to (suc v.one.last) (λ i. one_if kind.system (v.one.fresh i))) (view_real kind owes b batches begins jobs index job e)
      ∙ entries kind.system (first_of kind owes b batches begins jobs index job) (last_of kind owes b batches begins jobs index job) (counts kind owes b batches begins jobs index job e) refl refl
      ∙ ap length (sym (entered_after kind owes b batches begins jobs index job e))

  segments_all : (index : ℕ) (job : J) → job_after kind.system b batches index ≡ Some job → suc (w.last (suc b.before + index)) ≡ segments_of kind.system (suc b.before + index) (fold_alone kind.system b batches index).tree job
  segments_all index job e = ap (λ (v : View A F R). suc v.one.last) (view_real kind owes b batches begins jobs index job e) ∙ segments_is kind owes b batches begins jobs index job e

  live_one : (v : Stage) → Balances.live kind owes b batches begins jobs v ≤ 1
  live_one Entering = omega arith
  live_one Lined = omega arith
  live_one Coming = omega arith
  live_one There = omega arith
  live_one Done = omega arith

  module _ (s : State A F R J) (k : Good_state kind owes b batches begins jobs s) (balance : (t : ℕ) → b.before < t → t ≤ k.ghost.lines.admitted → (e : Event A) → (s.cells t).event ≡ Some e → Balances.Balance kind owes b batches begins jobs e t (k.ghost.lines.stage t) (k.ghost.lines.pos t)) where
    x : Shows.Shows kind.system w course b.before Is_real s k.ghost
    x = k.shows

    abbrev g : Shows.Ghost F
    g = k.ghost

    pub sent : Sent kind b batches s
    sent index event e = record { job = r.job; job_is = job_is; within = elim (stage_cases ((g).lines.stage (suc b.before + index))) [ inl d ↦ upto _ _ (over d) | inr d ↦ going d ]; exactly = λ z. over (ended_done event.status _ _ _ status z) }
      where
        n : (b.before < suc b.before + index) × (suc b.before + index ≤ (g).lines.admitted)
        n = GoodStates.known kind owes b batches begins jobs s k.ghost x (suc b.before + index) (λ q. none_not (sym (ap (λ (u : Cell A F R). u.event) q) ∙ e))

        c : Shows.CellShows kind.system w course b.before Is_real k.ghost (suc b.before + index) (s.cells (suc b.before + index))
        c = x.cells (suc b.before + index) (n).0 (n).1

        same : (c).event ≡ event
        same = some_same _ event (sym c.event_is ∙ e)

        status : Shows.StatusShows event.status ((g).lines.stage (suc b.before + index)) ((g).out (suc b.before + index)) (here w (g).lines (suc b.before + index))
        status = subst (λ (u : Event A). Shows.StatusShows u.status ((g).lines.stage (suc b.before + index)) ((g).out (suc b.before + index)) (here w (g).lines (suc b.before + index))) same c.status

        r : Courses.Real kind owes b batches begins jobs (suc b.before + index)
        r = c.real

        same_index : (a i j : ℕ) → suc a + i ≡ suc a + j → j ≡ i
        same_index a i j e = omega (arith, e)

        job_is : job_after kind.system b batches index ≡ Some (r).job
        job_is = subst (λ n. job_after kind.system b batches n ≡ Some (r).job) (same_index b.before index (r).index (r).ticket_is) (r).job_is

        upto : (a c : ℕ) → a ≡ c → a ≤ c
        upto a c e = omega (arith, e)

        bal : Balances.Balance kind owes b batches begins jobs event (suc b.before + index) ((g).lines.stage (suc b.before + index)) ((g).lines.pos (suc b.before + index))
        bal = balance (suc b.before + index) (n).0 (n).1 event e

        going : ((g).lines.stage (suc b.before + index) ≡ Done → ⊥) → event.sent ≤ shares kind b batches index (r).job
        going d = (let l = x.good.going (suc b.before + index) (n).1 d in
            let m = live_one ((g).lines.stage (suc b.before + index)) in
            let u = sum_up (suc ((g).lines.pos (suc b.before + index))) (suc (w.last (suc b.before + index))) (λ i. one_if kind.system (w.fresh (suc b.before + index) i)) (more _ _ l) in
            at_most _ _ _ _ _ _ _ _ _ _ bal m l u (segments_all index r.job job_is) (came_all index r.job job_is))
          where
            more : (a c : ℕ) → a ≤ c → suc a ≤ suc c
            more a c l = omega (arith, l)

            at_most : (x y p v m c last full segs ent : ℕ) → x + y + p ≡ v + m + c → v ≤ 1 → m ≤ last → c ≤ full → suc last ≡ segs → full ≡ ent → x ≤ segs + ent
            at_most x y p v m c last full segs ent a q l u i j = omega (arith, a, q, l, u, i, j)

        over : (g).lines.stage (suc b.before + index) ≡ Done → event.sent ≡ shares kind b batches index (r).job
        over d = exact _ _ _ _ _ _ _ _ bal nothing (ap (Balances.pend kind owes b batches begins jobs) d) (ap (Balances.live kind owes b batches begins jobs) d) pos_is
            (ap (Balances.came_to kind owes b batches begins jobs (suc b.before + index)) pos_is ∙ Balances.came_more kind owes b batches begins jobs (suc b.before + index) (w.last (suc b.before + index)) ∙ ap (λ i. Balances.came_to kind owes b batches begins jobs (suc b.before + index) (w.last (suc b.before + index)) + one_if kind.system i) (Balances.none_after kind owes b batches begins jobs (suc b.before + index) c.real) ∙ none_more _)
            (segments_all index r.job job_is) (came_all index r.job job_is)
          where
            pos_is : (g).lines.pos (suc b.before + index) ≡ suc (w.last (suc b.before + index))
            pos_is = x.good.ended (suc b.before + index) (n).1 d

            nothing : length event.held ≡ 0
            nothing = none_held event.held (λ p. ap (λ (u : Event A). is_some (hold_at u.held p)) (sym same) ∙ c.held p ∙ ap (λ i. i && not (is_pending ((g).lines.stage (suc b.before + index)) && path_eq (here w (g).lines (suc b.before + index)) p)) (ap (λ m. w.held (suc b.before + index) m p) pos_is ∙ law.none (suc b.before + index) p))

            none_more : (a : ℕ) → a + 0 ≡ a
            none_more a = omega arith

            exact : (x y p v m c segs ent : ℕ) {last full : ℕ} → x + y + p ≡ v + m + c → y ≡ 0 → p ≡ 0 → v ≡ 0 → m ≡ suc last → c ≡ full → suc last ≡ segs → full ≡ ent → x ≡ segs + ent
            exact x y p v m c segs ent a h i j k l q r = omega (arith, a, h, i, j, k, l, q, r)
