-- What one law says of each label of a journal: where it stands, its host owns the context, just before it or just after it.
use Rattle.std.specs.Prelude.{◌≡◌, ◌⊎◌, ℕ, List, ◌∷◌, ◌++◌, Some}
use Rattle.wave_states.specs.Kinds.{Kind}
use Rattle.wave_states.specs.States.{State, Mark}
use Rattle.wave_states.specs.Labels.{Act, Label, Admit, Pass, Commit, path_of}
use Rattle.wave_states.specs.Steps.{step}
use Rattle.wave_states.specs.Runs.{run}
use Rattle.wave_states.specs.Begins.{Begin, start_state}
use Rattle.wave_states.specs.Owners.{IsOwner}

module _ {A F R J : Type 0} where
  -- From s to v. Admit and Commit are on no context. A Pass is taken by a host that the context has left: there is its mark.
  abbrev pub OwnsBeside : State A F R J → State A F R J → Act → ℕ → Type 0
  OwnsBeside s v (Admit t) host = Unit {0}
  OwnsBeside s v (Commit t) host = Unit {0}
  OwnsBeside s v (Pass t k p to) host = (m : Mark) × ((s.columns p).gone host ≡ Some m)
  OwnsBeside s v act host = IsOwner s (path_of act) host ⊎ IsOwner v (path_of act) host

module _ {A F R J : Type 0} (kind : Kind A F R J) where
  -- a label of a journal, with the states just before it and just after it
  pub record IsTakenBy (workers : ℕ) (b : Begin F) (batches : List (List J)) (before : List Label) (l : Label) (after : List Label) (s : State A F R J) : Type 0 where
    pub found : State A F R J
    pub left : State A F R J
    pub reached : run kind.system workers (start_state b batches) before ≡ Some found
    pub taken : step kind.system workers found l ≡ Some left
    pub goes_on : run kind.system workers left after ≡ Some s
    pub owned : OwnsBeside found left l.act l.host

  -- Owners take. Each label of a journal, wherever it stands, is taken by a host that owns its context just before it or just after it.
  abbrev pub OwnersTake : ℕ → Begin F → List (List J) → List Label → State A F R J → Type 0
  OwnersTake workers b batches labels s = (before after : List Label) (l : Label) → labels ≡ before ++ l ∷ after → IsTakenBy workers b batches before l after s
