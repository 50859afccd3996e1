-- What a command comes to before anything is run.
use Rattle.std.specs.Prelude.{◌≡◌, List, ℕ, Some, Result, Ok, Err}
use Rattle.checkpoint_store.specs.Points.{IsPoint}
use Rattle.command_words.specs.declared.command.Command.{Command}
use Rattle.command_words.specs.declared.command.Places.{Places}
use Rattle.script_reader.specs.declared.elastic.Elastic.{Elastic}
use Rattle.due_parts.specs.declared.answer.Answer.{Answer}
use Rattle.due_parts.specs.declared.refusal.Refusal.{Refusal}
use Rattle.due_parts.specs.declared.refusal.Refusal.TheVariants.{Due, OutOfMemory}
use Rattle.due_parts.specs.declared.report.Report.TheVariants.{Point}
use Rattle.due_parts.specs.declared.telling.Telling.{Telling}
use Rattle.due_parts.specs.declared.telling.Telling.TheVariants.{Reports, Traces}
use Rattle.due_parts.specs.declared.runnable.Runnable.{Runnable}
use Rattle.due_parts.specs.Accepted.{CanRun, IsTraced, point_of, report_of}
use Rattle.due_stages.specs.declared.work.StagedWork.{StagedWork}
use Rattle.due_stages.specs.Accepted.{CanStage}
use Rattle.due_stages.specs.Elastic.{listed_of}
use Rattle.due_answer.specs.declared.prepared.Prepared.{Prepared}
use Rattle.due_answer.specs.declared.prepared.Prepared.TheVariants.{Given, Run, Stages}
use Rattle.due_answer.specs.declared.task.Engine.{Engine}
use Rattle.due_answer.specs.declared.task.Task.{Task}
use Rattle.due_answer.specs.Due.{IsToldFor}
use Rattle.due_answer.specs.Tasks.{staged_of, task_of}

-- what is told of work that was run: the report; or the listing, and the journal of a run of the crew
abbrev pub Tells : Telling → Runnable → Answer → Type 0
Tells (Reports report) work a = a ≡ report_of work report
Tells (Traces places crew) work a = IsTraced crew work places a

-- The work can be run, and where its point is asked for it has one; it is run for what the command asks for; and whatever is told of it so is due.
pub record IsRunFor (c : Command) (bytes : List ℕ) (task : Task) (work : Runnable) : Type 0 where
  pub asked : task_of c ≡ Some task
  pub can_run : CanRun work
  pub saved : task.telling ≡ Reports Point → IsPoint work.program.shape (point_of work)
  pub due : (a : Answer) → Tells task.telling work a → IsToldFor c bytes a

-- A script with policies can be run piece by piece; it is listed so, and run by that, as the command asks for; and its listing is due.
pub record IsStagedFor (c : Command) (bytes : List ℕ) (places : Places) (engine : Engine) (work : StagedWork) : Type 0 where
  pub asked : staged_of c ≡ Some (places, engine)
  pub elastic : Elastic
  pub can : CanStage elastic work
  pub due : (a : Answer) → a ≡ listed_of work.program.shape work.service elastic places → IsToldFor c bytes a

-- an answer is due at once
abbrev pub IsPrepared : Command → List ℕ → Prepared → Type 0
IsPrepared c bytes (Given answer) = IsToldFor c bytes answer
IsPrepared c bytes (Run task work) = IsRunFor c bytes task work
IsPrepared c bytes (Stages places engine work) = IsStagedFor c bytes places engine work

-- the same, or a refusal that is due
abbrev pub IsFound : Command → List ℕ → Result Prepared Refusal → Type 0
IsFound c bytes (Ok prepared) = IsPrepared c bytes prepared
IsFound c bytes (Err (Due answer)) = IsToldFor c bytes answer
IsFound c bytes (Err (OutOfMemory refused)) = Unit {0}

-- an answer that was found at once
abbrev pub prepared_answer : Result Answer Refusal → Result Prepared Refusal
prepared_answer (Ok answer) = Ok (Given answer)
prepared_answer (Err refusal) = Err refusal
