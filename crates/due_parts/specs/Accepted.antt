-- What is accepted of an input, and what is due for it then.
use Rattle.std.specs.Prelude.{◌≡◌, ◌≤◌, ◌+◌, ◌^◌, ℕ, List, length, map, Result, Ok, Err}
use Rattle.wave_base.specs.declared.finished.Finished.{Finished}
use Rattle.wave_base.specs.declared.limits.TheConstants.{WORKERS}
use Rattle.wave_base.specs.Starts.{IsStart, first_start}
use Rattle.resolved_service.specs.declared.service.Resolved.{Resolved}
use Rattle.script_fold.specs.Runs.{finished_of}
use Rattle.code_runner.specs.Coded.{IsCode}
use Rattle.plan_actors.specs.Calls.{code_ran}
use Rattle.plan_actors.specs.Plans.{Plan, Fits}
use Rattle.command_words.specs.declared.command.Crew.{Crew}
use Rattle.command_words.specs.declared.command.Places.{Places}
use Rattle.checkpoint_store.specs.declared.point.Checkpoint.{Checkpoint}
use Rattle.checkpoint_store.specs.Points.{IsPoint}
use Rattle.journal_text.specs.JournalTexts.{journal_text}
use Rattle.wave_labels.specs.declared.label.Label.{Label}
use Rattle.wave_labels.specs.Labels.{label_of}
use Rattle.due_parts.specs.declared.refusal.Refusal.{Refusal}
use Rattle.due_parts.specs.declared.refusal.Refusal.TheVariants.{Due, OutOfMemory}
use Rattle.due_parts.specs.declared.telling.Telling.{Telling}
use Rattle.due_parts.specs.declared.telling.Telling.TheVariants.{Reports, Traces}
use Rattle.due_parts.specs.declared.answer.Answer.{Answer}
use Rattle.due_parts.specs.declared.report.Report.{Report}
use Rattle.due_parts.specs.declared.report.Report.TheVariants.{Listing}
use Rattle.due_parts.specs.declared.runnable.Runnable.{Runnable}
use Rattle.due_parts.specs.Answers.{Only, with_text}
use Rattle.due_parts.specs.Scripts.{IsDueScripted}
use Rattle.due_parts.specs.Told.{point_behind, report_answer}
use Rattle.due_parts.specs.Runs.{IsRunOf, nearest_workers}

-- the plan of so many workers
abbrev pub plan_with : Runnable → ℕ → Plan
plan_with work workers = record { program = work.program; script = work.script; workers = workers }

-- a plan that fits, and whose program is the code of a service
pub record HasCode (plan : Plan) : Type 0 where
  pub service : Resolved
  pub code : IsCode service plan.program
  pub fits : Fits plan

-- what its script gives from its Start, with calls run by their code
abbrev pub run_outcome : Runnable → Finished
run_outcome work = finished_of (code_ran work.program) work.program.shape work.start work.script

-- a report of that
abbrev pub report_of : Runnable → Report → Answer
report_of work report = report_answer work.program.shape work.start work.script report (run_outcome work)

-- what is told of it where it is traced, with this journal
abbrev pub trace_of : Runnable → Places → List Label → Answer
trace_of work places journal = with_text (report_of work (Listing places)) (journal_text work.program.shape journal)

-- where it has come to then
abbrev pub point_of : Runnable → Checkpoint
point_of work = point_behind work.start work.script (run_outcome work)

-- the labels of a journal are a run of the crew
abbrev pub IsJournalOf : Crew → Runnable → List Label → Type 0
IsJournalOf crew work journal = IsRunOf crew (plan_with work (nearest_workers crew.workers)) work.start (map label_of journal)

-- what is told of it where a crew traces it
pub record IsTraced (crew : Crew) (work : Runnable) (places : Places) (answer : Answer) : Type 0 where
  pub journal : List Label
  pub run : IsJournalOf crew work journal
  pub is : answer ≡ trace_of work places journal

-- The program is the code of the service; with 1 to 16 workers its plan fits, and so does its Start; there is a ticket for
-- each result; each crew has a run; and what it leaves that begins with the root alone can be saved.
pub record CanRun (work : Runnable) : Type 0 where
  pub code : IsCode work.service work.program
  pub fits : (workers : ℕ) → 1 ≤ workers → workers ≤ WORKERS → Fits (plan_with work workers)
  pub begins : IsStart work.program.shape work.script.hosts work.start
  pub few : work.start.next.0 + length (run_outcome work).results ≤ 2 ^ 32
  pub runs : (crew : Crew) → (journal : List Label) × IsJournalOf crew work journal
  pub saved : work.start ≡ first_start work.program.shape → IsPoint work.program.shape (point_of work)

-- Whatever is to be told: what is reported of all that it gives is due, and nothing else; and what is traced of a run of the crew is due.
pub record IsReady (P : Telling → Answer → Type 0) (work : Runnable) : Type 0 where
  pub can_run : CanRun work
  pub due : (report : Report) → Only (P (Reports report)) (report_of work report)
  pub traced : (places : Places) (crew : Crew) (journal : List Label) → IsJournalOf crew work journal → P (Traces places crew) (trace_of work places journal)

-- a refusal is due, whatever is to be told, and nothing else
abbrev pub IsAcceptedBy : (Telling → Answer → Type 0) → Result Runnable Refusal → Type 0
IsAcceptedBy P (Err (Due answer)) = (telling : Telling) → Only (P telling) answer
IsAcceptedBy P (Err (OutOfMemory refused)) = Unit {0}
IsAcceptedBy P (Ok work) = IsReady P work

-- of the bytes of a service and a script
abbrev pub IsAccepted : List ℕ → Result Runnable Refusal → Type 0
IsAccepted bytes accepted = IsAcceptedBy (λ telling. IsDueScripted telling bytes) accepted

-- an answer that was found, or a refusal: it is so of that, and of no other
abbrev pub IsOnlyDueOf : (Answer → Type 0) → Result Answer Refusal → Type 0
IsOnlyDueOf P (Ok answer) = Only P answer
IsOnlyDueOf P (Err (Due answer)) = Only P answer
IsOnlyDueOf P (Err (OutOfMemory refused)) = Unit {0}
