-- What is due for a service and the text of a script: the first fault, or what is asked for where there is none.
use Rattle.std.specs.Prelude.{◌≡◌, ℕ, ◌<◌, ◌≤◌, ◌⊎◌, List, [], length, Option, Some, None, Result, Ok, Err}
use Rattle.wave_base.specs.declared.limits.TheConstants.{SCRIPT_BYTES}
use Rattle.wave_base.specs.declared.script.Script.{Script}
use Rattle.wave_base.specs.declared.shape.Shape.{Shape}
use Rattle.mace_ast.specs.Decls.{ServiceTree}
use Rattle.type_rules.specs.Known.{shape_of}
use Rattle.fault_notes.specs.Notes.{script_note}
use Rattle.input_parts.specs.Parts.{service_of, script_of}
use Rattle.script_reader.specs.declared.earlier.Earlier.{Earlier}
use Rattle.script_reader.specs.declared.error.ScriptError.{ScriptError}
use Rattle.script_reader.specs.Judged.{nothing_earlier}
use Rattle.script_reader.specs.Scripts.{IsRead}
use Rattle.wave_text.specs.Lines.{lines_of}
use Rattle.due_parts.specs.declared.answer.Answer.{Answer}
use Rattle.due_parts.specs.declared.telling.Telling.{Telling}
use Rattle.due_parts.specs.Answers.{no_script, refusal, too_large_input, too_large_script}
use Rattle.due_parts.specs.Services.{IsDueService}
use Rattle.due_parts.specs.Told.{IsDueFirst}

abbrev pub IsDueRead : (Script → Answer → Type 0) → Result Script ScriptError → Answer → Type 0
IsDueRead P (Err e) due = due ≡ refusal 4 (script_note e)
IsDueRead P (Ok script) due = P script due

-- of the text of a script that isn't too long, after what was said earlier: its first fault is told, and P is what is due where it has none
pub record IsDueLines (P : Script → Answer → Type 0) (shape : Shape) (earlier : Earlier) (text : List ℕ) (due : Answer) : Type 0 where
  pub read : Result Script ScriptError
  pub reads : IsRead shape earlier [] (lines_of text) read
  pub due_is : IsDueRead P read due

-- of the text of a script, which may have too many bytes
abbrev pub IsDueShort : (List ℕ → Answer → Type 0) → List ℕ → Answer → Type 0
IsDueShort P text due = ((SCRIPT_BYTES < length text) × (due ≡ too_large_script)) ⊎ ((length text ≤ SCRIPT_BYTES) × P text due)

abbrev pub IsDueScript : (ServiceTree → Script → Answer → Type 0) → List ℕ → ServiceTree → Answer → Type 0
IsDueScript P text tree due = IsDueShort (IsDueLines (P tree) (shape_of tree) nothing_earlier) text due

-- of a service, and of what stands behind it, which has to be there
abbrev pub IsDueBehind : (List ℕ → ServiceTree → Answer → Type 0) → List ℕ → Option (List ℕ) → Answer → Type 0
IsDueBehind P text None due = due ≡ no_script
IsDueBehind P text (Some rest) due = IsDueService (P rest) text due

-- what stands behind the service, as two parts, where both are there
abbrev pub with_third : List ℕ → Option (List ℕ) → Option (List ℕ × List ℕ)
with_third second None = None
with_third second (Some third) = Some (second, third)

abbrev pub two_parts : Option (List ℕ) → Option (List ℕ × List ℕ)
two_parts None = None
two_parts (Some rest) = with_third (service_of rest) (script_of rest)

-- of a service, and of two parts behind it, which have to be there
abbrev pub IsDueBehindBoth : (List ℕ → List ℕ → ServiceTree → Answer → Type 0) → List ℕ → Option (List ℕ × List ℕ) → Answer → Type 0
IsDueBehindBoth P text None due = due ≡ no_script
IsDueBehindBoth P text (Some parts) due = IsDueService (P parts.0 parts.1) text due

abbrev pub IsDueThree : (List ℕ → List ℕ → ServiceTree → Answer → Type 0) → List ℕ → Answer → Type 0
IsDueThree P bytes due = IsDueBehindBoth P (service_of bytes) (two_parts (script_of bytes)) due

-- of the bytes of a service and a script
abbrev pub IsDueScripted : Telling → List ℕ → Answer → Type 0
IsDueScripted telling bytes due = IsDueBehind (IsDueScript (IsDueFirst telling)) (service_of bytes) (script_of bytes) due

-- of bytes, which may be more than so many
abbrev pub IsDueSized : ℕ → (List ℕ → Answer → Type 0) → List ℕ → Answer → Type 0
IsDueSized most P bytes due = ((most < length bytes) × (due ≡ too_large_input)) ⊎ ((length bytes ≤ most) × P bytes due)
