-- What is due for a run that goes on from a checkpoint.
use Rattle.std.specs.Prelude.{◌≡◌, List, ℕ, Result, Ok, Err}
use Rattle.wave_base.specs.declared.shape.Shape.{Shape}
use Rattle.mace_ast.specs.Decls.{ServiceTree}
use Rattle.type_rules.specs.Known.{shape_of}
use Rattle.checkpoint_store.specs.declared.error.CheckError.{CheckError}
use Rattle.checkpoint_store.specs.declared.point.Checkpoint.{Checkpoint}
use Rattle.checkpoint_store.specs.Verdicts.{IsVerdict}
use Rattle.fault_notes.specs.Notes.{check_note}
use Rattle.script_reader.specs.Judged.{script_earlier}
use Rattle.due_parts.specs.declared.answer.Answer.{Answer}
use Rattle.due_parts.specs.declared.telling.Telling.{Telling}
use Rattle.due_parts.specs.Answers.{refusal}
use Rattle.due_parts.specs.Scripts.{IsDueLines, IsDueShort, IsDueThree}
use Rattle.due_parts.specs.Told.{IsDueTold}

-- the text of a script, run from a point on: its hosts and its event lines count as said before
abbrev pub IsDueFrom : Telling → ServiceTree → List ℕ → Checkpoint → Answer → Type 0
IsDueFrom telling tree text point due = IsDueShort (IsDueLines (IsDueTold telling tree point.start) (shape_of tree) (script_earlier point.hosts point.lines)) text due

abbrev pub IsDueChecked : (Checkpoint → Answer → Type 0) → Result Checkpoint CheckError → Answer → Type 0
IsDueChecked P (Err e) due = due ≡ refusal 8 (check_note e)
IsDueChecked P (Ok point) due = P point due

-- of the text of a checkpoint: its first fault is told, and P is what is due where it has none
pub record IsDuePoint (P : Checkpoint → Answer → Type 0) (shape : Shape) (text : List ℕ) (due : Answer) : Type 0 where
  pub read : Result Checkpoint CheckError
  pub reads : IsVerdict shape text read
  pub due_is : IsDueChecked P read due

-- of the bytes of a service, a checkpoint and a script
abbrev pub IsDueResumed : Telling → List ℕ → Answer → Type 0
IsDueResumed telling bytes due = IsDueThree (λ point script tree. IsDuePoint (IsDueFrom telling tree script) (shape_of tree) point) bytes due
