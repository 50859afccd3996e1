-- The runs of plans, and what is said of all of them.
use Rattle.std.specs.Prelude.{◌≡◌, ℕ, List, Some}
use Rattle.wave_base.specs.declared.outcome.EventResult.{EventResult}
use Rattle.wave_base.specs.declared.script.Line.{Line}
use Rattle.wave_base.specs.declared.start.Start.{Start}
use Rattle.wave_states.specs.Begins.{Begin, start_state}
use Rattle.wave_states.specs.Kinds.{Kind}
use Rattle.wave_states.specs.Labels.{Label}
use Rattle.wave_states.specs.Runs as runs
use Rattle.wave_states.specs.States.{State}
use Rattle.code_actor.specs.CodeActors.{Fields}
use Rattle.plan_actors.specs.PlanActors.{Actor, plan_actors, plan_kind}
use Rattle.plan_actors.specs.Plans.{Plan, Fits, FitsStart, begin_in}

abbrev pub PlanState : Type 0
PlanState = State Actor Fields EventResult Line

-- these labels lead from what a Start says to this state
abbrev pub IsRunTo : Plan → Start → List Label → PlanState → Type 0
IsRunTo plan start labels s = runs.run (plan_actors plan.program) plan.workers (start_state (begin_in plan start) plan.script.batches) labels ≡ Some s

-- and there is nothing left to do
abbrev pub IsOver : Plan → PlanState → Type 0
IsOver plan s = runs.Finished (plan_actors plan.program) plan.workers s

-- of each run of a plan that fits
abbrev pub OfRuns : (Plan → Start → List Label → PlanState → Type 0) → Type 0
OfRuns Law = (plan : Plan) (start : Start) → Fits plan → FitsStart plan start → (labels : List Label) (s : PlanState) → IsRunTo plan start labels s → Law plan start labels s

-- of each that is over
abbrev pub OfWholeRuns : (Plan → Start → List Label → PlanState → Type 0) → Type 0
OfWholeRuns Law = OfRuns (λ plan start labels s. IsOver plan s → Law plan start labels s)

-- a law over the labels that lead to a state, at the plan's actors, its workers, its beginning and its batches
abbrev pub AtPlans : (Kind Actor Fields EventResult Line → ℕ → Begin Fields → List (List Line) → List Label → PlanState → Type 0) → Type 0
AtPlans Law = OfRuns (λ plan start labels s. Law (plan_kind plan.program plan.script.hosts) plan.workers (begin_in plan start) plan.script.batches labels s)
