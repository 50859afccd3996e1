-- Work that is to be run by an engine, and told so.
use Rattle.std.specs.Prelude.{◌≡◌, List, ℕ, Result, Ok, Err}
use Rattle.checkpoint_store.specs.Points.{IsPoint}
use Rattle.due_parts.specs.declared.answer.Answer.{Answer}
use Rattle.due_parts.specs.declared.refusal.Refusal.{Refusal}
use Rattle.due_parts.specs.declared.refusal.Refusal.TheVariants.{Due, OutOfMemory}
use Rattle.due_parts.specs.declared.telling.Telling.{Telling}
use Rattle.due_parts.specs.declared.runnable.Runnable.{Runnable}
use Rattle.due_parts.specs.Accepted.{IsReady, point_of}
use Rattle.due_parts.specs.Answers.{Only}
use Rattle.due_parts.specs.Scripts.{IsDueScripted}
use Rattle.due_answer.specs.declared.prepared.Prepared.{Prepared}
use Rattle.due_answer.specs.declared.prepared.Prepared.TheVariants.{Given, Run, Stages}
use Rattle.due_answer.specs.declared.task.Engine.{Engine}
use Rattle.due_answer.specs.declared.task.Task.{Task}

-- the task is this, and the work is ready for it; the point that it leaves can be saved
pub record IsReadyFor (telling : Telling) (engine : Engine) (bytes : List ℕ) (task : Task) (work : Runnable) : Type 0 where
  pub task_is : task ≡ record { telling = telling; engine = engine }
  pub ready : IsReady (λ t. IsDueScripted t bytes) work
  pub saved : IsPoint work.program.shape (point_of work)

abbrev pub AreReady : Telling → Engine → List ℕ → Result Prepared Refusal → Type 0
AreReady telling engine bytes (Ok (Run task work)) = IsReadyFor telling engine bytes task work
AreReady telling engine bytes (Ok (Given answer)) = ⊥
AreReady telling engine bytes (Ok (Stages places by work)) = ⊥
AreReady telling engine bytes (Err (Due answer)) = Only (IsDueScripted telling bytes) answer
AreReady telling engine bytes (Err (OutOfMemory refused)) = Unit {0}
