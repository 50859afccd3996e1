-- The runs of a plan that a crew may take, as lists of labels from a Start on.
use Rattle.std.specs.Prelude.{ℕ, max, min, List, Option, Some, None}
use Rattle.wave_base.specs.declared.finished.Finished.{Finished}
use Rattle.wave_base.specs.declared.limits.TheConstants.{WORKERS}
use Rattle.wave_base.specs.declared.start.Start.{Start}
use Rattle.command_words.specs.declared.command.Crew.{Crew}
use Rattle.command_words.specs.declared.command.Schedule.{Schedule}
use Rattle.command_words.specs.declared.command.Schedule.TheVariants as schedule
use Rattle.wave_states.specs.Begins.{start_state}
use Rattle.wave_states.specs.Labels.{Label}
use Rattle.wave_states.specs.Runs as runs
use Rattle.plan_actors.specs.Finishing.{Tells}
use Rattle.plan_actors.specs.PlanActors.{plan_actors}
use Rattle.plan_actors.specs.Plans.{Plan, begin_in}
use Rattle.wave_drives.specs.declared.rules.PickRule.{PickRule}
use Rattle.wave_drives.specs.declared.rules.PickRule.TheVariants.{Seed, Oldest, Newest, Movers, MailLast}
use Rattle.wave_effects.specs.Lengths.{IsMeasured}
use Rattle.wave_effects.specs.Machines.{IsFinishedRun, IsReached, TheState}
use Rattle.wave_drives.specs.Rules.{rule_number, rule_of}

-- a plan has 1 to 16 workers, and another number is taken for the nearest of these
abbrev pub nearest_workers : ℕ → ℕ
nearest_workers n = min (max n 1) WORKERS

-- the rule by which a schedule picks
abbrev pub rule_by : Schedule → PickRule
rule_by (schedule.Seed x) = Seed x
rule_by schedule.Oldest = Oldest
rule_by schedule.Newest = Newest
rule_by schedule.Movers = Movers
rule_by schedule.MailLast = MailLast

-- This is what the machine's run comes to: the labels lead, one after the other, from the Start to a state in which nothing is left to do, and
-- that state tells just what was done. They are as many as the plan's work asks for, and the Passes.
pub record ComesTo (plan : Plan) (start : Start) (labels : List Label) (done : Finished) : Type 0 where
  pub run : IsFinishedRun plan start labels
  pub tells : Tells run.state start plan.script.batches done
  pub measured : IsMeasured plan start labels

-- they are what the rule picks, until nothing is left
abbrev pub IsDriveBy : PickRule → Plan → Start → List Label → Type 0
IsDriveBy rule plan start labels =
    runs.IsDrive (plan_actors plan.program) plan.workers plan.script.hosts (rule_of rule) (rule_number rule)
    (start_state (begin_in plan start) plan.script.batches) labels

abbrev pub IsRunBy : Option Schedule → Plan → Start → List Label → Type 0
IsRunBy (Some schedule) plan start labels = IsDriveBy (rule_by schedule) plan start labels
IsRunBy None plan start labels = IsFinishedRun plan start labels

-- a crew with a schedule takes what its rule picks, and one without some finished run
abbrev pub IsRunOf : Crew → Plan → Start → List Label → Type 0
IsRunOf crew plan start labels = IsRunBy crew.schedule plan start labels
