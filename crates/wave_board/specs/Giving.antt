-- What a worker gives back to a board.
use Rattle.std.specs.Prelude.{◌≡◌, ◌++◌, ◌∷◌, []}
use Rattle.wave_base.specs.declared.pause.Pause.{Pause}
use Rattle.wave_labels.specs.declared.label.Label.{Label}
use Rattle.wave_labels.specs.Labels.{label_of}
use Rattle.wave_effects.specs.declared.lease.Lease.{Lease}
use Rattle.wave_effects.specs.Machines.{TheState}
use Rattle.wave_effects.specs.Running.{IsBack, stop_of}
use Rattle.wave_board.specs.declared.board.Board.{Board}
use Rattle.wave_board.specs.declared.origin.Origin.{Origin}
use Rattle.wave_board.specs.declared.trail.Trail.TheVariants.{Step}
use Rattle.wave_board.specs.Boards.{IsAt, StandsFor, history_of}

module _ (b : Board) (lease : Lease) (why : Pause) where
  -- in a state, lease and pause are what one segment gives on what the lease's worker has in its hand there
  pub record MayGive (o : Origin) (s : TheState) : Type 0 where
    pub at : IsAt b o s
    pub back : IsBack b.machine.kept.plan.program s lease why

  -- there is such a name and state
  pub record CanGive : Type 0 where
    pub origin : Origin
    pub state : TheState
    pub may : MayGive origin state

  -- and for each of them the other board stands for the same name
  abbrev pub Gives : Board → Type 0
  Gives b' = (o : Origin) (s : TheState) → MayGive o s → StandsFor b' o

-- the Stop of the lease was appended
pub record IsGiven (before after : Board) (lease : Lease) : Type 0 where
  pub label : Label
  pub is_stop : label_of label ≡ stop_of lease label.host.0
  pub history : history_of after ≡ history_of before ++ Step label ∷ []
