-- How many labels a drive has.
use Rattle.std.specs.Prelude.{List}
use Rattle.wave_base.specs.declared.start.Start.{Start}
use Rattle.wave_states.specs.Begins.{start_state}
use Rattle.wave_states.specs.Labels.{Label}
use Rattle.wave_states.specs.Runs as runs
use Rattle.plan_actors.specs.PlanActors.{plan_actors}
use Rattle.plan_actors.specs.Plans.{Plan, Fits, FitsStart, begin_in}
use Rattle.wave_effects.specs.Lengths.{IsMeasured}
use Rattle.wave_drives.specs.declared.rules.PickRule.{PickRule}
use Rattle.wave_drives.specs.Rules.{rule_number, rule_of}

-- What a rule drives is as long as a run that is finished.
abbrev pub DrivesAreMeasured : Type 0
DrivesAreMeasured = (plan : Plan) (start : Start) → Fits plan → FitsStart plan start → (rule : PickRule) (labels : List Label)
    → runs.IsDrive (plan_actors plan.program) plan.workers plan.script.hosts (rule_of rule) (rule_number rule) (start_state (begin_in plan start) plan.script.batches) labels
    → IsMeasured plan start labels
