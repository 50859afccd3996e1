-- What it is for a law to hold always, and the words of the fold that laws use.
use Rattle.std.specs.Prelude.{◌≡◌, ℕ, List, Some, if◌then◌else◌}
use Rattle.wave_base.specs.declared.path.Path.{Path}
use Rattle.wave_base.specs.Fold.{Progress}
use Rattle.wave_states.specs.Kinds.{Kind}
use Rattle.wave_states.specs.States.{State}
use Rattle.wave_states.specs.Labels.{Label}
use Rattle.wave_states.specs.Runs.{run}
use Rattle.wave_states.specs.Alone.{fold_alone}
use Rattle.wave_states.specs.Begins.{Begin, start_state, is_root}
use Rattle.wave_states.specs.Owes.{IsBegin, IsPlan}

module _ {A F R J : Type 0} (kind : Kind A F R J) where
  -- It holds of every list of labels and the state that it leads to, for every plan and Begin that fit.
  abbrev pub AlwaysOf : (Kind A F R J → ℕ → Begin F → List (List J) → List Label → State A F R J → Type 0) → Type 0
  AlwaysOf Law = (workers : ℕ) (b : Begin F) (batches : List (List J)) → IsBegin kind b → IsPlan kind workers batches →
      (labels : List Label) (s : State A F R J) → run kind.system workers (start_state b batches) labels ≡ Some s → Law kind workers b batches labels s

  -- and says nothing of the labels but to which state they lead
  abbrev pub AlwaysBy : (Kind A F R J → ℕ → Begin F → List (List J) → State A F R J → Type 0) → Type 0
  AlwaysBy Law = AlwaysOf (λ kind workers b batches labels s. Law kind workers b batches s)

  -- and says nothing of how many workers there are
  abbrev pub Always : (Kind A F R J → Begin F → List (List J) → State A F R J → Type 0) → Type 0
  Always Law = AlwaysBy (λ kind workers. Law kind)

module _ {A F R J : Type 0} (kind : Kind A F R J) (b : Begin F) (batches : List (List J)) where
  -- after so many jobs, each run whole, in the order of their tickets
  abbrev pub fold : ℕ → Progress F R J
  fold n = fold_alone kind.system b batches n

  -- there are so many jobs
  abbrev pub AreThere : ℕ → Type 0
  AreThere n = (fold n).head.done ≡ n

  -- what counts at a context as served before this run
  abbrev pub served_before : Path → ℕ
  served_before p = if is_root p then b.before else 0
