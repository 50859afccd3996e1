-- What an event sent, and what it holds, is together no more than its segments and the contexts that it enters.
use Rattle.std.proofs.Common.{◌≡◌, ℕ, suc, ◌+◌, ◌<◌, ◌≤◌, inl, inr, Some, List, length, refl, sym, ◌∙◌, ap, arith}
use Rattle.std.specs.Prelude.{All}
use Rattle.wave_states.specs.Kinds.{Kind}
use Rattle.wave_states.specs.States.{State, Cell, Event}
use Rattle.wave_states.specs.Alone.{fold_alone, job_after, run_alone, segments_of}
use Rattle.wave_states.specs.Begins.{Begin}
use Rattle.wave_states.specs.Owes.{Owes, IsBegin}
use Rattle.wave_theory.proofs.Basics.{none_not}
use Rattle.wave_theory.proofs.Order.{Way, Stage, Entering, Lined, Coming, There, Done}
use Rattle.wave_theory.proofs.Tallies.{sum_to, sum_up}
use Rattle.wave_theory.proofs.Sizes.{one_if, entries}
use Rattle.wave_theory.proofs.Plans.{first_of, last_of, counts, segments_is}
use Rattle.wave_theory.proofs.Courses.{View, view_real, entered_after}
use Rattle.wave_theory.proofs.Courses
use Rattle.wave_theory.proofs.Agreed.{stage_cases}
use Rattle.wave_theory.proofs.Balances
use Rattle.wave_theory.proofs.Shows
use Rattle.wave_theory.proofs.GoodStates.{Good_state}
use Rattle.wave_theory.proofs.GoodStates
use Rattle.wave_theory.specs.Sent.{shares}

module _ {A F R J : Type 0} (kind : Kind A F R J) (owes : Owes kind) (b : Begin F) (batches : List (List J)) (begins : IsBegin kind b) (jobs : All (All kind.is_job) batches) where
  abbrev w : Way
  w = Courses.w kind owes b batches begins jobs

  -- what a ticket enters before its last segment, and how many segments it has
  came_all : (index : ℕ) (job : J) → job_after kind.system b batches index ≡ Some job → Balances.came_to kind owes b batches begins jobs (suc b.before + index) (w.last (suc b.before + index)) ≡ length (run_alone kind.system (suc b.before + index) (fold_alone kind.system b batches index).tree job).entered
  came_all index job e = ap (λ (v : View A F R). sum_to (suc v.one.last) (λ i. one_if kind.system (v.one.fresh i))) (view_real kind owes b batches begins jobs index job e)
      ∙ entries kind.system (first_of kind owes b batches begins jobs index job) (last_of kind owes b batches begins jobs index job) (counts kind owes b batches begins jobs index job e) refl refl
      ∙ ap length (sym (entered_after kind owes b batches begins jobs index job e))

  segments_all : (index : ℕ) (job : J) → job_after kind.system b batches index ≡ Some job → suc (w.last (suc b.before + index)) ≡ segments_of kind.system (suc b.before + index) (fold_alone kind.system b batches index).tree job
  segments_all index job e = ap (λ (v : View A F R). suc v.one.last) (view_real kind owes b batches begins jobs index job e) ∙ segments_is kind owes b batches begins jobs index job e

  live_one : (v : Stage) → Balances.live kind owes b batches begins jobs v ≤ 1
  live_one Entering = omega arith
  live_one Lined = omega arith
  live_one Coming = omega arith
  live_one There = omega arith
  live_one Done = omega arith

  -- the job of an event, and what it has to send and to give up
  pub record Shares (t : ℕ) (event : Event A) : Type 0 where
    pub index : ℕ
    pub job : J
    pub job_is : job_after kind.system b batches index ≡ Some job
    pub within : event.sent + length event.held ≤ shares kind b batches index job

  module _ (s : State A F R J) (k : Good_state kind owes b batches begins jobs s) (balance : (t : ℕ) → b.before < t → t ≤ k.ghost.lines.admitted → (e : Event A) → (s.cells t).event ≡ Some e → Balances.Balance kind owes b batches begins jobs e t (k.ghost.lines.stage t) (k.ghost.lines.pos t)) where
    x : Shows.Shows kind.system w (Courses.course kind owes b batches begins jobs) b.before (Courses.Real kind owes b batches begins jobs) s k.ghost
    x = k.shows

    abbrev g : Shows.Ghost F
    g = k.ghost

    pub sends_few : (t : ℕ) (event : Event A) → (s.cells t).event ≡ Some event → Shares t event
    sends_few t event e = record { index = (r).index; job = (r).job; job_is = (r).job_is; within = all }
      where
        n : (b.before < t) × (t ≤ (g).lines.admitted)
        n = GoodStates.known kind owes b batches begins jobs s k.ghost x t (λ q. none_not (sym (ap (λ (u : Cell A F R). u.event) q) ∙ e))

        r : Courses.Real kind owes b batches begins jobs t
        r = (x.cells t (n).0 (n).1).real

        bal : Balances.Balance kind owes b batches begins jobs event t ((g).lines.stage t) ((g).lines.pos t)
        bal = balance t (n).0 (n).1 event e

        came : ℕ → ℕ
        came m = Balances.came_to kind owes b batches begins jobs t m

        segments : suc (w.last t) ≡ segments_of kind.system (suc b.before + (r).index) (fold_alone kind.system b batches (r).index).tree (r).job
        segments = ap (λ m. suc (w.last m)) (r).ticket_is ∙ segments_all (r).index (r).job (r).job_is

        entered : Balances.came_to kind owes b batches begins jobs t (w.last t) ≡ length (run_alone kind.system (suc b.before + (r).index) (fold_alone kind.system b batches (r).index).tree (r).job).entered
        entered = ap (λ m. Balances.came_to kind owes b batches begins jobs m (w.last m)) (r).ticket_is ∙ came_all (r).index (r).job (r).job_is

        all : event.sent + length event.held ≤ shares kind b batches (r).index (r).job
        all = elim (stage_cases ((g).lines.stage t)) [ inl d ↦ over d | inr d ↦ going d ]
          where
            going : ((g).lines.stage t ≡ Done → ⊥) → event.sent + length event.held ≤ shares kind b batches (r).index (r).job
            going d =
                let l = x.good.going t (n).1 d in
                let u = sum_up (suc ((g).lines.pos t)) (suc (w.last t)) (λ i. one_if kind.system (w.fresh t i)) (more _ _ l) in
                at_most _ _ _ _ _ _ _ _ _ _ bal (live_one ((g).lines.stage t)) l u segments entered
              where
                more : (a c : ℕ) → a ≤ c → suc a ≤ suc c
                more a c l = omega (arith, l)

                at_most : (x y p v m c last full segs ent : ℕ) → x + y + p ≡ v + m + c → v ≤ 1 → m ≤ last → c ≤ full → suc last ≡ segs → full ≡ ent → x + y ≤ segs + ent
                at_most x y p v m c last full segs ent a q l u i j = omega (arith, a, q, l, u, i, j)

            over : (g).lines.stage t ≡ Done → event.sent + length event.held ≤ shares kind b batches (r).index (r).job
            over d =
                let pos_is : (g).lines.pos t ≡ suc (w.last t) = x.good.ended t (n).1 d in
                exact _ _ _ _ _ _ _ _ _ _ bal (ap (Balances.live kind owes b batches begins jobs) d) pos_is
                (ap (Balances.came_to kind owes b batches begins jobs t) pos_is ∙ Balances.came_more kind owes b batches begins jobs t (w.last t) ∙ ap (λ i. Balances.came_to kind owes b batches begins jobs t (w.last t) + one_if kind.system i) (Balances.none_after kind owes b batches begins jobs t (r)))
                segments entered
              where
                exact : (x y p v m c last full segs ent : ℕ) → x + y + p ≡ v + m + c → v ≡ 0 → m ≡ suc last → c ≡ full + 0 → suc last ≡ segs → full ≡ ent → x + y ≤ segs + ent
                exact x y p v m c last full segs ent a q l u i j = omega (arith, a, q, l, u, i, j)
