-- The fold ends, and how many labels a run takes at most is a number that is known beforehand.
use Rattle.std.specs.Prelude.{◌≡◌, ◌≤◌, ◌+◌, ◌*◌, ℕ, suc, List, None, All, length}
use Rattle.std.specs.List.{sum_by}
use Rattle.std.specs.List.Sorted.{IsStrictlySortedBy}
use Rattle.wave_base.specs.declared.path.Path.{Path}
use Rattle.wave_base.specs.Paths.{path_cmp}
use Rattle.wave_base.specs.Tree.{Tree}
use Rattle.wave_states.specs.Kinds.{Kind}
use Rattle.wave_states.specs.States.{State}
use Rattle.wave_states.specs.Labels.{Label}
use Rattle.wave_states.specs.Alone.{run_alone, job_after}
use Rattle.wave_states.specs.Work.{WorkNumbers, work_after}
use Rattle.wave_states.specs.Begins.{Begin}
use Rattle.wave_states.specs.Owes.{IsBegin}
use Rattle.wave_theory.specs.Counted.{size, most_moves}

-- so many jobs may come of all batches, where so many come of each job
abbrev pub worth_of : {J : Type 0} → (J → ℕ) → List (List J) → ℕ
worth_of worth batches = sum_by (sum_by worth) batches

-- so many labels may be taken for so much work
abbrev pub most_labels : {F : Type 0} → Begin F → WorkNumbers → ℕ
most_labels b x = size x + x.entered * most_moves b x

module _ {A F R J : Type 0} (kind : Kind A F R J) where
  -- So many jobs may come of a job, itself among them: on whatever tree it runs, more than come of those that it creates.
  abbrev pub IsWorth : (J → ℕ) → Type 0
  IsWorth worth = (j : J) (ticket : ℕ) (tree : Tree F) → kind.is_job j → ((p : Path) → kind.fits p (tree.fields p)) → IsStrictlySortedBy path_cmp tree.paths →
      suc (sum_by worth (kind.system.created (run_alone kind.system ticket tree j).result)) ≤ worth j

  -- Ends. After as many jobs as may come of the batches there is none left.
  abbrev pub Ends : Type 0
  Ends = (worth : J → ℕ) → IsWorth worth → (b : Begin F) (batches : List (List J)) → IsBegin kind b → All (All kind.is_job) batches → (n : ℕ) → worth_of worth batches ≤ n → job_after kind.system b batches n ≡ None

  -- Measured. However the labels are chosen, there are at most so many.
  abbrev pub Measured : ℕ → Begin F → List (List J) → List Label → State A F R J → Type 0
  Measured workers b batches labels s = (worth : J → ℕ) → IsWorth worth → length labels ≤ most_labels b (work_after kind.system b batches (worth_of worth batches))
