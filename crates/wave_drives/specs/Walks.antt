-- A machine under way, with the segments that are out: each was run as it began.
use Rattle.std.specs.Prelude.{◌≡◌, ℕ, List, length, Option, Some, None, slice_get}
use Rattle.wave_base.specs.declared.start.Start.{Start}
use Rattle.service_code.specs.declared.program.Program.{Program}
use Rattle.wave_states.specs.Labels.{Label}
use Rattle.wave_states.specs.States.{Hand}
use Rattle.wave_states.specs.Steps.{step}
use Rattle.code_actor.specs.CodeActors.{Fields}
use Rattle.plan_actors.specs.PlanActors as actors
use Rattle.plan_actors.specs.PlanActors.{plan_actors}
use Rattle.wave_effects.specs.Leases.{HasRun}
use Rattle.wave_effects.specs.Machines.{Kept, Stands, TheState}
use Rattle.wave_drives.specs.declared.ends.End.{End}

-- lease and pause are those of a segment of what the worker has in its hand
abbrev pub IsEnd : Program → ℕ → Hand actors.Actor Fields → Option (Option End) → Type 0
IsEnd program w hand (Some (Some e)) = (e.lease.worker.0 ≡ w) × HasRun program hand e.lease e.pause
IsEnd program w hand (Some None) = ⊥
IsEnd program w hand None = ⊥

-- a state for which the machine stands, where each segment that is out was run
pub record IsUnder (m : Kept) (run : List (Option End)) (start : Start) (s : TheState) : Type 0 where
  pub stands : Stands m start s
  pub as_many : length run ≡ m.plan.workers
  pub ends : (w : ℕ) (hand : Hand actors.Actor Fields) → s.hands w ≡ Some hand → IsEnd m.plan.program w hand (slice_get run w)

-- and one in which the label is enabled
pub record IsTaking (m : Kept) (ends : List (Option End)) (l : Label) : Type 0 where
  pub start : Start
  pub state : TheState
  pub next : TheState
  pub under : IsUnder m ends start state
  pub enabled : step (plan_actors m.plan.program) m.plan.workers state l ≡ Some next

-- each has become the one that the label leads to
abbrev pub Leads : Kept → List (Option End) → Label → Kept → List (Option End) → Type 0
Leads m ends l m' ends' = (start : Start) (s s' : TheState) → IsUnder m ends start s → step (plan_actors m.plan.program) m.plan.workers s l ≡ Some s' → IsUnder m' ends' start s'
