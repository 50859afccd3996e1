-- The name of a function, by its number; and what is asked of a service that is compiled.
use Rattle.std.proofs.Common.{◌≡◌, ℕ, ◌-◌, ◌≤◌, ◌++◌, length, codes, None, slice_get, sym, ◌∙◌, subst, ap, arith}
use Rattle.std.proofs.lemmas.Option.{slice_get_past}
use Rattle.wave_base.specs.declared.shape.Shape.{Shape}
use Rattle.wave_base.specs.Shapes.{IsShape}
use Rattle.mace_ast.specs.Decls.{ServiceTree}
use Rattle.resolved_service.specs.declared.service.Resolved.{Resolved}
use Rattle.context_types.specs.declared.Typed.{Typed}
use Rattle.service_code.specs.declared.program.Function.{Function}
use Rattle.service_code.specs.Listing.{function_name}
use Rattle.code_scheme.specs.Programs.{IsTooLong}
use Rattle.code_scheme.specs.Typed.{IsTyped}
use Rattle.code_scheme.proofs.Fitting.{Origin, of_method, of_event, origin}
use Rattle.typed_code.proofs.Services.{typed_code}
use Rattle.due_parts.specs.declared.answer.Answer.{Answer}
use Rattle.due_parts.specs.Coded.{IsLongNamed, name_in, name_at}
use Rattle.due_parts.specs.Answers.{refusal}
use Rattle.due_parts.specs.Services.{IsLong}
use Rattle.due_parts.specs.Served.{IsTypedTree}

module _ (shape : Shape) (service : Resolved) where
  name_by : (n : ℕ) (f : Function) → Origin shape service n f → name_at shape service n ≡ function_name shape f
  name_by n f (of_method m is e) = ap (λ o. name_in shape o (slice_get shape.events (n - length service.methods))) is ∙ ap (function_name shape) (sym e)
  name_by n f (of_event k x e count there is same) =
      let beyond : length service.methods ≤ n = omega (arith, count) in
      let place : n - length service.methods ≡ k = omega (arith, count) in
      ap (λ o. name_in shape o (slice_get shape.events (n - length service.methods))) (slice_get_past service.methods n beyond)
      ∙ ap (λ j. name_in shape None (slice_get shape.events j)) place
      ∙ ap (name_in shape None) there
      ∙ ap (function_name shape) (sym same)

  -- a function that is too long, told by its number
  pub long_named : (n size : ℕ) (due : Answer) → IsTooLong shape service n size → IsLongNamed shape service n due → IsLong shape service due
  long_named n size due long told = record {
    number = n;
    size = size;
    long = long;
    due_is = told ∙ ap (λ name. refusal 3 (codes "C1 CodeTooLong " ++ name)) (name_by n long.function (origin shape service n long.function long.is_there));
  }

-- a checked service is what the compiler asks for
pub code_typed : (tree : ServiceTree) (typed : Typed) → IsTypedTree tree typed → IsTyped typed.shape typed.resolved
code_typed tree typed t = subst (λ s. IsTyped s typed.resolved) (sym t.shape_is) (typed_code tree typed.resolved t.holds (subst IsShape t.shape_is t.well_formed) t.resolved_is)
