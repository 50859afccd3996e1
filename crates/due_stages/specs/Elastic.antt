-- What is due for a script with policies: the listing of the script that it stands for.
use Rattle.std.specs.Prelude.{◌≡◌, List, [], ℕ, Result, Ok, Err}
use Rattle.wave_base.specs.declared.shape.Shape.{Shape}
use Rattle.wave_base.specs.Starts.{first_start}
use Rattle.mace_ast.specs.Decls.{ServiceTree}
use Rattle.resolved_service.specs.declared.service.Resolved.{Resolved}
use Rattle.type_rules.specs.Known.{shape_of}
use Rattle.type_rules.specs.Services.{resolve_service}
use Rattle.type_rules.specs.Views.{resolved_view}
use Rattle.command_words.specs.declared.command.Places.{Places}
use Rattle.wave_meaning.specs.Meaning.{results_of, IsWhole}
use Rattle.wave_text.specs.Lines.{lines_of}
use Rattle.fault_notes.specs.Notes.{script_note}
use Rattle.input_parts.specs.Parts.{service_of, script_of}
use Rattle.script_reader.specs.declared.elastic.Elastic.{Elastic}
use Rattle.script_reader.specs.declared.error.ScriptError.{ScriptError}
use Rattle.script_reader.specs.Elastics.{IsReadElastic}
use Rattle.elastic_meaning.specs.Walks.{expanded_script}
use Rattle.due_parts.specs.declared.answer.Answer.{Answer}
use Rattle.due_parts.specs.declared.report.Report.TheVariants.{Listing}
use Rattle.due_parts.specs.Answers.{refusal}
use Rattle.due_parts.specs.Scripts.{IsDueBehind, IsDueShort}
use Rattle.due_parts.specs.Told.{report_answer}

-- the script that it stands for is run from the first Start and listed, with the places of the contexts or without
abbrev pub listed_of : Shape → Resolved → Elastic → Places → Answer
listed_of shape service elastic places =
    report_answer shape (first_start shape) (expanded_script shape service elastic) (Listing places) (results_of shape service (expanded_script shape service elastic))

-- of a script with policies that was read: the run of what it stands for, on the service with each name resolved, comes to its end, and is listed
pub record IsDueExpansion (places : Places) (tree : ServiceTree) (elastic : Elastic) (due : Answer) : Type 0 where
  pub service : Resolved
  pub resolved : resolved_view service ≡ resolve_service tree
  pub whole : IsWhole (shape_of tree) service (expanded_script (shape_of tree) service elastic)
  pub due_is : due ≡ listed_of (shape_of tree) service elastic places

abbrev pub IsDueElasticRead : (Elastic → Answer → Type 0) → Result Elastic ScriptError → Answer → Type 0
IsDueElasticRead P (Err e) due = due ≡ refusal 4 (script_note e)
IsDueElasticRead P (Ok elastic) due = P elastic due

-- of a text that isn't too long: its first fault is told, and P is what is due where it has none
pub record IsDueElasticLines (P : Elastic → Answer → Type 0) (shape : Shape) (text : List ℕ) (due : Answer) : Type 0 where
  pub read : Result Elastic ScriptError
  pub reads : IsReadElastic shape [] (lines_of text) read
  pub due_is : IsDueElasticRead P read due

-- of a text, which may have too many bytes
abbrev pub IsDueElasticScript : Places → List ℕ → ServiceTree → Answer → Type 0
IsDueElasticScript places text tree due = IsDueShort (IsDueElasticLines (IsDueExpansion places tree) (shape_of tree)) text due

-- of the bytes of a service and a script with policies
abbrev pub IsDueElastic : Places → List ℕ → Answer → Type 0
IsDueElastic places bytes due = IsDueBehind (IsDueElasticScript places) (service_of bytes) (script_of bytes) due
