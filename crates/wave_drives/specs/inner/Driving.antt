-- Drives under way: the labels that a rule picked so far.
use Rattle.std.specs.Prelude.{◌≡◌, ℕ, List, [], ◌∷◌, Option, Some}
use Rattle.wave_base.specs.declared.start.Start.{Start}
use Rattle.wave_states.specs.Actors.{Actors}
use Rattle.wave_states.specs.Begins.{start_state}
use Rattle.wave_states.specs.Canonical.{enabled_labels}
use Rattle.wave_states.specs.Labels.{Label}
use Rattle.wave_states.specs.Runs.{Rule}
use Rattle.wave_states.specs.States.{State}
use Rattle.wave_states.specs.Steps.{step}
use Rattle.plan_actors.specs.PlanActors.{plan_actors}
use Rattle.plan_actors.specs.Plans.{Plan, begin_in}
use Rattle.wave_drives.specs.declared.ends.End.{End}
use Rattle.wave_drives.specs.declared.rules.PickRule.{PickRule}
use Rattle.wave_effects.specs.Machines.{Kept, TheState}
use Rattle.wave_drives.specs.Rules.{rule_number, rule_of}
use Rattle.wave_drives.specs.Walks.{IsUnder}

module _ {A F R J : Type 0} (sys : Actors A F R J) (workers hosts : ℕ) (rule : Rule A F R J) where
  -- the rule picks these, one after the other, from one number and state to others
  abbrev pub DrivesTo : ℕ → State A F R J → List Label → ℕ → State A F R J → Type 0
  DrivesTo x s [] y v = (x ≡ y) × (s ≡ v)
  DrivesTo x s (l ∷ ls) y v =
      ((rule x s (enabled_labels sys workers hosts s)).1 ≡ Some l)
      × (u : State A F R J) × (step sys workers s l ≡ Some u)
      × DrivesTo (rule x s (enabled_labels sys workers hosts s)).0 u ls y v

abbrev pub first_state : Plan → Start → TheState
first_state plan start = start_state (begin_in plan start) plan.script.batches

-- a drive that has come so far
pub record IsDriving (m : Kept) (plan : Plan) (start : Start) (rule : PickRule) (draw : ℕ) (labels : List Label) (ends : List (Option End)) : Type 0 where
  pub same : m.plan ≡ plan
  pub state : TheState
  pub under : IsUnder m ends start state
  pub drives : DrivesTo (plan_actors plan.program) plan.workers plan.script.hosts (rule_of rule) (rule_number rule) (first_state plan start) labels draw state
