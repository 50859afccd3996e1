-- A replay under way: the labels that were taken, and the segments that are out.
use Rattle.std.specs.Prelude.{◌≡◌, List}
use Rattle.wave_base.specs.Starts.{first_start}
use Rattle.wave_labels.specs.declared.label.Label.{Label}
use Rattle.plan_actors.specs.Plans.{Plan}
use Rattle.wave_effects.specs.Machines.{TheState}
use Rattle.wave_drives.specs.Walks.{IsUnder}
use Rattle.journal_replay.specs.declared.error.ReplayError.{ReplayError}
use Rattle.journal_replay.specs.declared.error.ReplayError.TheVariants.{Refused, OutOfMemory}
use Rattle.wave_drives.specs.declared.walk.Walk.{Walk}
use Rattle.journal_replay.specs.Replays.{IsRefusal, LeadsTo}

-- the labels lead to a state for which the machine stands, and each segment that is out was run
pub record IsWalking (plan : Plan) (labels : List Label) (w : Walk) : Type 0 where
  pub same : w.machine.kept.plan ≡ plan
  pub state : TheState
  pub under : IsUnder w.machine.kept w.ends.items (first_start plan.program.shape) state
  pub run : LeadsTo plan labels state

-- where it stops, a label of the journal is the first that can't be taken; want of memory says nothing
abbrev pub StopsIn : Plan → List Label → ReplayError → Type 0
StopsIn plan journal (Refused step label enabled) = IsRefusal plan journal step label enabled
StopsIn plan journal (OutOfMemory _) = Unit {0}
