-- What is known of a state that labels lead to, as its listing needs it.
use Rattle.std.specs.Prelude.{◌≡◌, suc, Some}
use Rattle.wave_base.specs.declared.start.Start.{Start}
use Rattle.wave_states.specs.Labels.{Label}
use Rattle.wave_states.specs.Steps.{step}
use Rattle.wave_theory.specs.Doable.{Doable}
use Rattle.wave_theory.specs.Hands.{Stoppable}
use Rattle.wave_theory.specs.Owners.{OneOwner}
use Rattle.wave_theory.specs.Trails.{Trails}
use Rattle.plan_actors.specs.PlanActors.{plan_actors, plan_kind}
use Rattle.plan_actors.specs.Plans.{Plan, begin_in}
use Rattle.wave_effects.specs.Machines.{Known, TheState}

-- What there is to do can be done, a segment that is out can be stopped, and no context has two owners; each has a trail or was not born
-- yet; the state keeps within its bounds and its parts agree, and so it is after one label more.
pub record CanList (plan : Plan) (start : Start) (s : TheState) : Type 0 where
  pub doable : Doable (plan_kind plan.program plan.script.hosts) plan.workers (begin_in plan start) plan.script.batches s
  pub stoppable : Stoppable (plan_kind plan.program plan.script.hosts) plan.workers (begin_in plan start) plan.script.batches s
  pub owner : OneOwner (plan_kind plan.program plan.script.hosts) plan.workers (begin_in plan start) plan.script.batches s
  pub trails : Trails (plan_kind plan.program plan.script.hosts) (begin_in plan start) plan.script.batches s
  pub known : Known plan start s
  pub next : (l : Label) (s' : TheState) → step (plan_actors plan.program) plan.workers s l ≡ Some s' → Known plan start s'

-- with one worker more
abbrev pub one_more : Plan → Plan
one_more plan = record { program = plan.program; script = plan.script; workers = suc plan.workers }
