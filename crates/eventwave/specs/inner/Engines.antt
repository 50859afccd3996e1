-- What an engine makes of a plan.
use Rattle.std.specs.Prelude.{◌≡◌, ◌≤◌, ◌+◌, ◌^◌, ℕ, Bool, true, false, List, length, Option, Some, None, map}
use Rattle.wave_base.specs.declared.finished.Finished.{Finished}
use Rattle.wave_base.specs.declared.start.Start.{Start}
use Rattle.resolved_service.specs.declared.service.Resolved.{Resolved}
use Rattle.script_fold.specs.Runs.{finished_of}
use Rattle.code_runner.specs.Coded.{IsCode}
use Rattle.plan_actors.specs.Calls.{code_ran}
use Rattle.plan_actors.specs.Plans.{Plan, Fits, FitsStart}
use Rattle.wave_labels.specs.declared.label.Label.{Label}
use Rattle.wave_labels.specs.Labels.{label_of}
use Rattle.due_answer.specs.declared.task.Engine.{Engine}
use Rattle.due_answer.specs.declared.task.Engine.TheVariants.{Evaluator, Drive, Workers}
use Rattle.due_parts.specs.Runs.{IsDriveBy}
use Rattle.wave_effects.specs.Machines.{IsFinishedRun}
use Rattle.eventwave.specs.declared.made.Made.{Made}

-- it runs on the thread of the caller
abbrev pub is_alone : Engine → Bool
is_alone (Workers n) = false
is_alone _ = true

-- what the script gives from this Start, each call run by its code
abbrev pub given_by : Plan → Start → Finished
given_by plan start = finished_of (code_ran plan.program) plan.program.shape start plan.script

-- the plan is one of this service's code, it fits, and so does the Start; there is a ticket for each result
pub record CanMake (service : Resolved) (plan : Plan) (start : Start) : Type 0 where
  pub code : IsCode service plan.program
  pub fits : Fits plan
  pub begins : FitsStart plan start
  pub few : start.next.0 + length (given_by plan start).results ≤ 2 ^ 32

-- The evaluator leaves no journal. What a rule drives is its drive, and workers leave some finished run: so a schedule that is not obeyed leaves
-- another journal, or none.
abbrev pub IsJournalBy : Engine → Plan → Start → Option (List Label) → Type 0
IsJournalBy Evaluator plan start None = Unit {0}
IsJournalBy Evaluator plan start (Some journal) = ⊥
IsJournalBy (Drive n rule) plan start None = ⊥
IsJournalBy (Drive n rule) plan start (Some journal) = IsDriveBy rule plan start (map label_of journal)
IsJournalBy (Workers n) plan start None = ⊥
IsJournalBy (Workers n) plan start (Some journal) = IsFinishedRun plan start (map label_of journal)

-- a journal, where there is one, is a finished run
abbrev pub IsRunIn : Plan → Start → Option (List Label) → Type 0
IsRunIn plan start None = Unit {0}
IsRunIn plan start (Some journal) = IsFinishedRun plan start (map label_of journal)

-- an engine made this of a plan
pub record IsMade (engine : Engine) (plan : Plan) (start : Start) (made : Made) : Type 0 where
  pub done : made.done ≡ given_by plan start
  pub journal : IsJournalBy engine plan start made.journal
  pub run : IsRunIn plan start made.journal
