-- What is run for a command.
use Rattle.std.specs.Prelude.{◌≡◌, Bool, true, false, Some}
use Rattle.checkpoint_store.specs.Points.{IsPoint}
use Rattle.command_words.specs.declared.command.Command.{Command}
use Rattle.command_words.specs.Inputs.{runs_workers}
use Rattle.due_answer.specs.declared.task.Task.{Task}
use Rattle.due_answer.specs.Tasks.{task_of}
use Rattle.due_parts.specs.declared.report.Report.TheVariants.{Listing, Point}
use Rattle.due_parts.specs.declared.telling.Telling.{Telling}
use Rattle.due_parts.specs.declared.telling.Telling.TheVariants.{Reports, Traces}
use Rattle.due_parts.specs.declared.runnable.Runnable.{Runnable}
use Rattle.due_parts.specs.Accepted.{CanRun, point_of}

-- a command asks for this task, and workers run it or do not; the work can be run, and where its point is asked for it has one
pub record IsDone (by_workers : Bool) (task : Task) (work : Runnable) : Type 0 where
  pub command : Command
  pub who : runs_workers command ≡ by_workers
  pub asked : task_of command ≡ Some task
  pub can_run : CanRun work
  pub saved : task.telling ≡ Reports Point → IsPoint work.program.shape (point_of work)

-- lines are written while it is run
abbrev pub has_lines : Telling → Bool
has_lines (Reports (Listing places)) = true
has_lines (Reports report) = false
has_lines (Traces places crew) = true
