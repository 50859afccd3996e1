-- What holds of every state that a machine stands for.
use Rattle.std.specs.Prelude.{◌≤◌, ℕ, List, length}
use Rattle.wave_base.specs.declared.outcome.EventResult.{EventResult}
use Rattle.wave_base.specs.declared.script.Line.{Line}
use Rattle.wave_base.specs.declared.start.Start.{Start}
use Rattle.wave_states.specs.Begins.{Begin}
use Rattle.wave_states.specs.Kinds.{Kind}
use Rattle.code_actor.specs.CodeActors.{Fields}
use Rattle.plan_actors.specs.Efforts.{most_labels}
use Rattle.plan_actors.specs.PlanActors.{Actor, plan_kind}
use Rattle.plan_actors.specs.Plans.{begin_in}
use Rattle.wave_effects.specs.Machines.{Kept, Stands, TheState}

-- A law of the theory, at the plan's actors, its workers, its beginning and its batches.
abbrev pub Holds : (Kind Actor Fields EventResult Line → ℕ → Begin Fields → List (List Line) → TheState → Type 0) → Type 0
Holds Law = (m : Kept) (start : Start) (s : TheState) → Stands m start s → Law (plan_kind m.plan.program m.plan.script.hosts) m.plan.workers (begin_in m.plan start) m.plan.script.batches s

-- The labels that lead to such a state are no more than the plan's work allows.
abbrev pub IsShort : Type 0
IsShort = (m : Kept) (start : Start) (s : TheState) (stands : Stands m start s) → length stands.labels ≤ most_labels m.plan start
