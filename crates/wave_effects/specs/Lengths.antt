-- How many labels a run has.
use Rattle.std.specs.Prelude.{◌≡◌, ◌≤◌, ◌+◌, ℕ, List, length}
use Rattle.wave_base.specs.declared.outcome.EventResult.{EventResult}
use Rattle.wave_base.specs.declared.script.Line.{Line}
use Rattle.wave_base.specs.declared.start.Start.{Start}
use Rattle.wave_states.specs.Begins.{Begin}
use Rattle.wave_states.specs.Kinds.{Kind}
use Rattle.wave_states.specs.Labels.{Label}
use Rattle.wave_states.specs.Runs as runs
use Rattle.wave_theory.specs.Counted.{pass_count}
use Rattle.code_actor.specs.CodeActors.{Fields}
use Rattle.plan_actors.specs.Efforts.{least_labels, most_labels}
use Rattle.plan_actors.specs.PlanActors.{Actor, plan_actors, plan_kind}
use Rattle.plan_actors.specs.Plans.{Plan, Fits, FitsStart, begin_in}
use Rattle.wave_effects.specs.Machines.{IsReached, Kept, Stands, TheState}

-- two labels for each ticket, three for each segment and two for each context that a ticket enters, besides the Passes; and no more in all
-- than if each Enter were passed as often as contexts are sent on
pub record IsMeasured (plan : Plan) (start : Start) (labels : List Label) : Type 0 where
  pub besides_passes : length labels ≡ least_labels plan start + pass_count labels
  pub most : length labels ≤ most_labels plan start

-- So it is with each run that is finished.
abbrev pub FinishedRunsAreMeasured : Type 0
FinishedRunsAreMeasured = (plan : Plan) (start : Start) → Fits plan → FitsStart plan start → (labels : List Label) (s : TheState) → IsReached plan start labels s
    → runs.Finished (plan_actors plan.program) plan.workers s → IsMeasured plan start labels

-- A law of the theory over the labels that lead to a state, at the plan's actors, its workers, its beginning and its batches.
abbrev pub HoldsOver : (Kind Actor Fields EventResult Line → ℕ → Begin Fields → List (List Line) → List Label → TheState → Type 0) → Type 0
HoldsOver Law = (m : Kept) (start : Start) (s : TheState) (stands : Stands m start s) → Law (plan_kind m.plan.program m.plan.script.hosts) m.plan.workers (begin_in m.plan start) m.plan.script.batches stands.labels s
