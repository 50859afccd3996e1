-- What is known of a state that labels lead to, as a drive needs it.
use Rattle.wave_base.specs.declared.start.Start.{Start}
use Rattle.wave_theory.specs.Listed.{Listed}
use Rattle.plan_actors.specs.PlanActors.{plan_kind}
use Rattle.plan_actors.specs.Plans.{Plan, begin_in}
use Rattle.wave_effects.specs.Machines.{TheState}

-- the canonical list has what is enabled
pub record CanDrive (plan : Plan) (start : Start) (s : TheState) : Type 0 where
  pub listed : Listed (plan_kind plan.program plan.script.hosts) plan.workers (begin_in plan start) plan.script.batches s
