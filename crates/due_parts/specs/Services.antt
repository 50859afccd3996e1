-- What is due for the text of a service: its first fault, or what is asked for where it has none.
use Rattle.std.specs.Prelude.{◌≡◌, ℕ, ◌≤◌, ◌⊎◌, List, ◌++◌, length, codes, All, Option, Some, None, Result, Ok, Err}
use Rattle.wave_base.specs.declared.limits.TheConstants.{INSTRUCTIONS}
use Rattle.wave_base.specs.declared.shape.Shape.{Shape}
use Rattle.mace_ast.specs.Decls.{ServiceTree}
use Rattle.resolved_service.specs.declared.service.Resolved.{Resolved}
use Rattle.type_rules.specs.declared.error.TypeError.{TypeError}
use Rattle.type_rules.specs.Demands.{first_wrong}
use Rattle.type_rules.specs.Known.{shape_of}
use Rattle.type_rules.specs.Services.{service_demands, resolve_service}
use Rattle.type_rules.specs.Views.{resolved_view}
use Rattle.service_code.specs.declared.program.Function.{Function}
use Rattle.service_code.specs.Listing.{function_name}
use Rattle.code_scheme.specs.Programs.{IsTooLong, scheme_program}
use Rattle.service_reader.specs.declared.fault.TextFault.{TextFault}
use Rattle.service_reader.specs.Parsing.{Parses}
use Rattle.fault_notes.specs.Notes.{text_note, type_note}
use Rattle.due_parts.specs.declared.answer.Answer.{Answer}
use Rattle.due_parts.specs.Answers.{refusal}

-- the first function of a service's code that has more instructions than a function may have is told
pub record IsLong (shape : Shape) (service : Resolved) (due : Answer) : Type 0 where
  pub number : ℕ
  pub size : ℕ
  pub long : IsTooLong shape service number size
  pub due_is : due ≡ refusal 3 (codes "C1 CodeTooLong " ++ function_name shape long.function)

-- no function has more
abbrev pub AreShort : Shape → Resolved → Type 0
AreShort shape service = All (λ (f : Function). length f.code ≤ INSTRUCTIONS) (scheme_program shape service).functions

-- of a typed service, with each name resolved: P is what is due where its code is not too long
pub record IsDueCoded (P : ServiceTree → Answer → Type 0) (tree : ServiceTree) (due : Answer) : Type 0 where
  pub service : Resolved
  pub resolved : resolved_view service ≡ resolve_service tree
  pub due_is : IsLong (shape_of tree) service due ⊎ (AreShort (shape_of tree) service × P tree due)

-- of a tree, where it is known what is wrong with its types, if anything
abbrev pub IsDueTyped : (ServiceTree → Answer → Type 0) → ServiceTree → Option TypeError → Answer → Type 0
IsDueTyped P tree (Some e) due = due ≡ refusal 3 (type_note e)
IsDueTyped P tree None due = IsDueCoded P tree due

abbrev pub IsDueOf : (ServiceTree → Answer → Type 0) → Result ServiceTree TextFault → Answer → Type 0
IsDueOf P (Err e) due = due ≡ refusal 3 (text_note e)
IsDueOf P (Ok tree) due = IsDueTyped P tree (first_wrong (service_demands tree)) due

-- of the text of a service: its first fault is told, and P is what is due where it has none
pub record IsDueService (P : ServiceTree → Answer → Type 0) (text : List ℕ) (due : Answer) : Type 0 where
  pub read : Result ServiceTree TextFault
  pub parses : Parses text read
  pub due_is : IsDueOf P read due
