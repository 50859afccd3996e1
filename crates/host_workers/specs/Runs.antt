-- What a run of a plan gives.
use Rattle.std.specs.Prelude.{◌≡◌, List, map}
use Rattle.wave_base.specs.declared.finished.Finished.{Finished}
use Rattle.wave_base.specs.declared.start.Start.{Start}
use Rattle.plan_actors.specs.Finishing.{Tells}
use Rattle.plan_actors.specs.PlanActors.{plan_kind}
use Rattle.plan_actors.specs.Plans.{begin_in}
use Rattle.serial_runs.specs.Journals.{OwnersTake}
use Rattle.serial_runs.specs.Serial.{HasSerial}
use Rattle.wave_labels.specs.declared.label.Label.{Label}
use Rattle.wave_labels.specs.Labels.{label_of}
use Rattle.wave_effects.specs.declared.plan.Plan.{Plan}
use Rattle.wave_effects.specs.Lengths.{IsMeasured}
use Rattle.wave_effects.specs.Plans.{plan_of}
use Rattle.wave_effects.specs.Machines.{IsFinishedRun}
use Rattle.host_workers.specs.Lines.{told_by}

-- The journal is a run of the machine, label by label from the Start to a state in which nothing is left to do. What was done is what that very
-- state tells, and that is what the script gives. The journal has just as many labels as the plan's work asks for, and the Passes. Each of them,
-- wherever it stands, is taken by a host that owns its context just before it or just after it. And to the very state in which the run ends a
-- serial run of the same plan leads, which takes all labels of one ticket, and then all of the next, by one worker alone.
pub record IsRun (plan : Plan) (start : Start) (r : Finished × List Label) : Type 0 where
  pub run : IsFinishedRun (plan_of plan) start (map label_of r.1)
  pub tells : Tells run.state start plan.script.batches r.0
  pub done : r.0 ≡ told_by plan start
  pub measured : IsMeasured (plan_of plan) start (map label_of r.1)
  pub owned : OwnersTake (plan_kind plan.program plan.script.hosts) plan.workers (begin_in (plan_of plan) start) plan.script.batches (map label_of r.1) run.state
  pub serial : HasSerial (plan_kind plan.program plan.script.hosts) plan.workers (begin_in (plan_of plan) start) plan.script.batches run.state

-- The same under a name that is looked into only where it is asked for: who calls for a run of its own need not know what the machine is.
unfoldable pub IsWholeRun : Plan → Start → Finished × List Label → Type 0
IsWholeRun plan start r = IsRun plan start r
