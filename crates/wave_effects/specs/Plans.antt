-- Plans as programs have them, and the plans of the theory.
use Rattle.plan_actors.specs.Plans as theory
use Rattle.wave_effects.specs.declared.plan.Plan.{Plan}

abbrev pub plan_of : Plan → theory.Plan
plan_of plan = record { program = plan.program; script = plan.script; workers = plan.workers }
