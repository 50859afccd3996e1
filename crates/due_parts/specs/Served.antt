-- A text as a typed service, or what is due instead.
use Rattle.std.specs.Prelude.{◌≡◌, ◌⊎◌, ℕ, List, Some, Result, Ok, Err}
use Rattle.wave_base.specs.Names.{HasNames}
use Rattle.wave_base.specs.Shapes.{IsShape}
use Rattle.mace_ast.specs.Decls.{ServiceTree, service_tree}
use Rattle.resolved_service.specs.declared.service.Resolved.{Resolved}
use Rattle.resolved_service.specs.Fits.{FitsService}
use Rattle.type_rules.specs.declared.error.TypeError.{TypeError}
use Rattle.type_rules.specs.Demands.{first_wrong}
use Rattle.type_rules.specs.Known.{shape_of}
use Rattle.type_rules.specs.Services.{service_demands, resolve_service, IsTyped}
use Rattle.type_rules.specs.Views.{resolved_view}
use Rattle.context_types.specs.declared.Typed.{Typed}
use Rattle.service_code.specs.declared.program.Program.{Program}
use Rattle.service_reader.specs.declared.fault.TextFault.{TextFault}
use Rattle.service_reader.specs.Parsing.{IsOnlyParse}
use Rattle.fault_notes.specs.Notes.{text_note, type_note}
use Rattle.due_parts.specs.declared.answer.Answer.{Answer}
use Rattle.due_parts.specs.declared.refusal.Refusal.{Refusal}
use Rattle.due_parts.specs.declared.refusal.Refusal.TheVariants.{Due, OutOfMemory}
use Rattle.due_parts.specs.Coded.{IsCoded}
use Rattle.due_parts.specs.Answers.{refusal}
use Rattle.due_parts.specs.Services.{IsLong}

-- the tree of a typed service, with its shape and its names resolved
pub record IsTypedTree (tree : ServiceTree) (typed : Typed) : Type 0 where
  pub tree_is : service_tree typed.service ≡ tree
  pub holds : IsTyped tree
  pub shape_is : typed.shape ≡ shape_of tree
  pub resolved_is : resolved_view typed.resolved ≡ resolve_service tree
  pub well_formed : IsShape typed.shape
  pub names : HasNames typed.shape
  pub fits : FitsService typed.shape typed.resolved

-- the first thing that is wrong with a tree's types is told
pub record IsUntyped (tree : ServiceTree) (answer : Answer) : Type 0 where
  pub error : TypeError
  pub is : first_wrong (service_demands tree) ≡ Some error
  pub told : answer ≡ refusal 3 (type_note error)

-- it is typed, and a function of it is too long
pub record IsLongTree (tree : ServiceTree) (answer : Answer) : Type 0 where
  pub holds : IsTyped tree
  pub service : Resolved
  pub resolved : resolved_view service ≡ resolve_service tree
  pub long : IsLong (shape_of tree) service answer

abbrev pub IsRefusal : Result ServiceTree TextFault → Answer → Type 0
IsRefusal (Err e) answer = answer ≡ refusal 3 (text_note e)
IsRefusal (Ok tree) answer = IsUntyped tree answer ⊎ IsLongTree tree answer

-- what a tree is
abbrev pub IsChecked : ServiceTree → Result (Typed × Program) Refusal → Type 0
IsChecked tree (Ok (typed, program)) = IsTypedTree tree typed × IsCoded typed.shape typed.resolved program
IsChecked tree (Err (Due answer)) = IsRefusal (Ok tree) answer
IsChecked tree (Err (OutOfMemory refused)) = Unit {0}

-- what a text was read as, and that it is so
pub record IsRead (text : List ℕ) (P : Result ServiceTree TextFault → Type 0) : Type 0 where
  pub read : Result ServiceTree TextFault
  pub parse : IsOnlyParse text read
  pub is_so : P read

abbrev pub IsTypedRead : Typed → Program → Result ServiceTree TextFault → Type 0
IsTypedRead typed program (Ok tree) = IsTypedTree tree typed × IsCoded typed.shape typed.resolved program
IsTypedRead typed program (Err e) = ⊥

-- what a text is
abbrev pub IsServed : List ℕ → Result (Typed × Program) Refusal → Type 0
IsServed text (Ok (typed, program)) = IsRead text (IsTypedRead typed program)
IsServed text (Err (Due answer)) = IsRead text (λ read. IsRefusal read answer)
IsServed text (Err (OutOfMemory refused)) = Unit {0}
