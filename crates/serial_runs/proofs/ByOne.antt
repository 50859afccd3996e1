-- Each finished run ends in the state to which the oldest rule leads a worker alone, and that run is serial.
use Rattle.std.proofs.Common.{◌≡◌, ℕ, suc, ◌<◌, ◌≤◌, inl, inr, nat_lt, true, Some, List, [], ◌∷◌, sym, ◌∙◌, ap, arith}
use Rattle.std.specs.Prelude.{All, None, if◌then◌else◌, option_and_then}
use Rattle.std.specs.List.{AllByRecursion}
use Rattle.std.proofs.lemmas.Bool.Decides.{nat_tests}
use Rattle.std.proofs.lemmas.List.Elements.{All-from_recursion}
use Rattle.wave_base.specs.Fold.{Progress}
use Rattle.wave_states.specs.Actors.{Actors}
use Rattle.wave_states.specs.States.{State}
use Rattle.wave_states.specs.Labels.{Label}
use Rattle.wave_states.specs.Steps.{step, step_by}
use Rattle.wave_states.specs.Runs.{Finished, oldest, run}
use Rattle.wave_states.specs.Kinds.{Kind}
use Rattle.wave_states.specs.Owes.{Owes, IsBegin}
use Rattle.wave_states.specs.Begins.{Begin, start_state}
use Rattle.wave_states.specs.Alone.{fold_alone, job_after}
use Rattle.wave_theory.specs.Drives.{HasDrive}
use Rattle.wave_theory.proofs.Basics.{options, then_some, if_some}
use Rattle.wave_theory.proofs.Rules.{rules_pick}
use Rattle.wave_theory.proofs.Driving
use Rattle.wave_theory.proofs.Folds
use Rattle.wave_theory.proofs.Told
use Rattle.wave_theory.proofs.Live
use Rattle.wave_theory.proofs.GoodStates.{Good_state}
use Rattle.wave_theory.proofs.Reached
use Rattle.serial_runs.specs.Serial.{HasSerial}
use Rattle.serial_runs.proofs.Causes.{by_crew}
use Rattle.serial_runs.proofs.Ends
use Rattle.serial_runs.proofs.Oldest

module _ {A F R J : Type 0} (sys : Actors A F R J) where
  -- what a worker alone takes, worker 0 of more takes
  taken_by_more : (crew : ℕ) → 0 < crew → (s v : State A F R J) (l : Label) → step sys 1 s l ≡ Some v → step sys crew s l ≡ Some v
  unfolding step
  taken_by_more crew some s v l e =
      let i = if_some (nat_lt l.worker 1) (step_by sys s l.worker l.host l.act) v e in
      ap (λ u. if u then step_by sys s l.worker l.host l.act else None) (less l.worker crew i.0 some) ∙ i.1
    where
      less : (n a : ℕ) → nat_lt n 1 ≡ true → 0 < a → nat_lt n a ≡ true
      less n a e l = grind (arith, nat_tests)

  run_by_more : (crew : ℕ) → 0 < crew → (ls : List Label) (s v : State A F R J) → run sys 1 s ls ≡ Some v → run sys crew s ls ≡ Some v
  unfolding run
  run_by_more crew some [] s v e = e
  run_by_more crew some (l ∷ ls) s v e =
      let u = then_some (λ u. run sys 1 u ls) (step sys 1 s l) v e in
      ap (option_and_then (λ u. run sys crew u ls)) (taken_by_more crew some s u.0 l u.1) ∙ run_by_more crew some ls u.0 v u.2

  one_takes : (ls : List Label) (s v : State A F R J) → run sys 1 s ls ≡ Some v → AllByRecursion (λ (l : Label). l.worker ≡ 0) ls
  unfolding run
  one_takes [] s v e = tt
  one_takes (l ∷ ls) s v e = (let u = then_some (λ u. run sys 1 u ls) (step sys 1 s l) v e in (zero_is l.worker (by_crew sys 1 s u.0 l u.1), one_takes ls u.0 v u.2))
    where
      zero_is : (n : ℕ) → nat_lt n 1 ≡ true → n ≡ 0
      zero_is n e = grind (arith, nat_tests)

module _ {A F R J : Type 0} (kind : Kind A F R J) (owes : Owes kind) (b : Begin F) (batches : List (List J)) (begins : IsBegin kind b) (jobs : All (All kind.is_job) batches) (some_host : 0 < kind.hosts) where
  abbrev at : ℕ → Progress F R J
  at n = fold_alone kind.system b batches n

  -- in a finished state no job is left
  over : (crew : ℕ) → 0 < crew → (labels : List Label) (s : State A F R J) → run kind.system crew (start_state b batches) labels ≡ Some s → Finished kind.system crew s → job_after kind.system b batches s.head.done ≡ None
  over crew some labels s r fin = elim (options (job_after kind.system b batches s.head.done)) [
    | inl e ↦ e
    | inr j ↦ absurd (past _ _ (done_next j.0 j.1) (Live.all_committed kind owes b batches begins jobs s k crew some fin (suc s.head.done)))
  ]
    where
      k : Good_state kind owes b batches begins jobs s
      k = Reached.reached kind owes b batches begins jobs some_host crew s labels r

      done_next : (j : J) → job_after kind.system b batches s.head.done ≡ Some j → (at (suc s.head.done)).head.done ≡ suc s.head.done
      done_next j e = ap (λ (v : Progress F R J). v.head.done) (Told.goes_on kind owes b batches begins jobs s.head.done j e) ∙ Folds.with_done_done (at s.head.done).head _ ∙ ap suc (sym (Live.done_is kind owes b batches begins jobs s k crew some fin))

      past : (m d : ℕ) → m ≡ suc d → m ≤ d → ⊥
      past m d e l = omega (arith, e, l)

  pub serial : (crew : ℕ) → 0 < crew → (labels : List Label) (s : State A F R J) → run kind.system crew (start_state b batches) labels ≡ Some s → Finished kind.system crew s → HasSerial kind crew b batches s
  serial crew some labels s r fin = by (Driving.driven kind owes b batches begins jobs some_host 1 (omega arith) s.head.done (over crew some labels s r fin) oldest (rules_pick A F R J).by_oldest 0)
    where
      by : HasDrive kind 1 b batches oldest 0 → HasSerial kind crew b batches s
      by d = record {
        labels = d.labels;
        serial = Oldest.serial kind owes b batches begins jobs some_host 1 (omega arith) 0 d.labels d.is_drive;
        by_one = All-from_recursion (λ (l : Label). l.worker ≡ 0) d.labels (one_takes kind.system d.labels (start_state b batches) d.state d.is_run);
        is_run = run_by_more kind.system crew some d.labels (start_state b batches) d.state d.is_run ∙ ap Some (Ends.one_end kind owes b batches begins jobs some_host d.state s
            (Ends.ends kind owes b batches begins jobs some_host 1 (omega arith) d.labels d.state d.is_run d.finished)
            (Ends.ends kind owes b batches begins jobs some_host crew some labels s r fin));
      }
