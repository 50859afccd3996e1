-- The code of a typed service, or what is due where a function is too long.
use Rattle.std.specs.Prelude.{◌≡◌, ℕ, ◌-◌, List, [], ◌++◌, length, codes, Option, Some, None, Result, Ok, Err, slice_get, All}
use Rattle.wave_base.specs.Shapes.{class_name}
use Rattle.wave_base.specs.declared.shape.EventInfo.{EventInfo}
use Rattle.wave_base.specs.declared.shape.Shape.{Shape}
use Rattle.resolved_service.specs.declared.service.Method.{Method}
use Rattle.resolved_service.specs.declared.service.Resolved.{Resolved}
use Rattle.service_code.specs.declared.program.Program.{Program}
use Rattle.service_code.specs.Listing.{CanList}
use Rattle.code_scheme.specs.Programs.{scheme_program}
use Rattle.due_parts.specs.declared.answer.Answer.{Answer}
use Rattle.due_parts.specs.declared.refusal.Refusal.{Refusal}
use Rattle.due_parts.specs.declared.refusal.Refusal.TheVariants.{Due, OutOfMemory}
use Rattle.due_parts.specs.Answers.{refusal}
use Rattle.due_parts.specs.Services.{IsLong, AreShort}

-- the name of the function with a number: the methods come first, and then the events
abbrev pub event_name : Option EventInfo → List ℕ
event_name None = []
event_name (Some e) = e.name

abbrev pub name_in : Shape → Option Method → Option EventInfo → List ℕ
name_in shape (Some m) event = class_name shape m.class.0 ++ codes "." ++ m.name
name_in shape None event = event_name event

abbrev pub name_at : Shape → Resolved → ℕ → List ℕ
name_at shape service n = name_in shape (slice_get service.methods n) (slice_get shape.events (n - length service.methods))

abbrev pub IsLongNamed : Shape → Resolved → ℕ → Answer → Type 0
IsLongNamed shape service n due = due ≡ refusal 3 (codes "C1 CodeTooLong " ++ name_at shape service n)

-- the program by the scheme, which can be listed
pub record IsCoded (shape : Shape) (service : Resolved) (program : Program) : Type 0 where
  pub is : program ≡ scheme_program shape service
  pub short : AreShort shape service
  pub can_list : All (CanList program.shape) program.functions

abbrev pub IsCompiled : Shape → Resolved → Result Program Refusal → Type 0
IsCompiled shape service (Ok program) = IsCoded shape service program
IsCompiled shape service (Err (Due answer)) = IsLong shape service answer
IsCompiled shape service (Err (OutOfMemory refused)) = Unit {0}
