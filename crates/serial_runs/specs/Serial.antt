-- Serial runs: all labels of one ticket, and then all of the next. And that each finished run ends where a serial one does.
use Rattle.std.specs.Prelude.{◌≡◌, ◌≤◌, ℕ, List, Some, All}
use Rattle.wave_states.specs.Kinds.{Kind}
use Rattle.wave_states.specs.States.{State}
use Rattle.wave_states.specs.Labels.{Label, ticket_of}
use Rattle.wave_states.specs.Runs.{Finished, IsDrive, oldest, run}
use Rattle.wave_states.specs.Begins.{Begin, start_state}
use Rattle.wave_states.specs.Owes.{IsBegin, IsPlan}
use Rattle.wave_theory.specs.Listed.{Rising}

-- the tickets of the labels never fall
abbrev pub IsSerial : List Label → Type 0
IsSerial labels = Rising (λ (l m : Label). ticket_of l.act ≤ ticket_of m.act) labels

module _ {A F R J : Type 0} (kind : Kind A F R J) where
  -- One end. Whichever labels are taken, and by however many workers, all finished runs of a plan end in one state.
  abbrev pub OneEnd : ℕ → Begin F → List (List J) → List Label → State A F R J → Type 0
  OneEnd workers b batches labels s = Finished kind.system workers s →
      (others : ℕ) (labels' : List Label) (s' : State A F R J) → IsPlan kind others batches → run kind.system others (start_state b batches) labels' ≡ Some s' → Finished kind.system others s' → s' ≡ s

  -- The oldest rule is serial. What it picks, the first label of the least ticket, makes a serial run.
  abbrev pub OldestIsSerial : Type 0
  OldestIsSerial = (workers : ℕ) (b : Begin F) (batches : List (List J)) → IsBegin kind b → IsPlan kind workers batches →
      (x : ℕ) (labels : List Label) → IsDrive kind.system workers kind.hosts oldest x (start_state b batches) labels → IsSerial labels

  -- a serial run of the plan, by worker 0 alone, leads to the state
  pub record HasSerial (workers : ℕ) (b : Begin F) (batches : List (List J)) (s : State A F R J) : Type 0 where
    pub labels : List Label
    pub serial : IsSerial labels
    pub by_one : All (λ (l : Label). l.worker ≡ 0) labels
    pub is_run : run kind.system workers (start_state b batches) labels ≡ Some s

  -- Serial. Each finished run ends in the very state to which a serial run of the same plan leads.
  abbrev pub Serial : ℕ → Begin F → List (List J) → State A F R J → Type 0
  Serial workers b batches s = Finished kind.system workers s → HasSerial workers b batches s
