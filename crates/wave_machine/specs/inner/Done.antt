-- The first cells of a run, as far as they are done: nothing is asked for by them any more.
use Rattle.std.specs.Prelude.{◌≡◌, ◌<◌, ◌≤◌, ℕ, true, length, Some, slice_get}
use Rattle.wave_base.specs.declared.start.Start.{Start}
use Rattle.event_cells.specs.declared.cell.Cell.{Cell}
use Rattle.wave_states.specs.Labels.{Label}
use Rattle.wave_states.specs.Steps.{step}
use Rattle.plan_actors.specs.PlanActors.{plan_actors}
use Rattle.wave_effects.specs.declared.actor.Actor.{Actor}
use Rattle.wave_effects.specs.Ending.{is_done}
use Rattle.wave_effects.specs.Machines.{Kept, Stands, TheState}

-- so many of the first cells are done
pub record AreDone (m : Kept) (n : ℕ) : Type 0 where
  pub within : n ≤ length m.cells
  pub each : (i : ℕ) (c : Cell Actor) → i < n → slice_get m.cells i ≡ Some c → is_done c ≡ true

-- what is done stays done, whatever label is taken
abbrev pub DoneStays : Type 0
DoneStays = (m m' : Kept) (start : Start) (s s' : TheState) (l : Label) (n : ℕ) → Stands m start s → Stands m' start s' → step (plan_actors m.plan.program) m.plan.workers s l ≡ Some s' → AreDone m n → AreDone m' n
