-- A script with policies that was read for a typed service with its code can be run, and what it stands for is what is due.
use Rattle.std.proofs.Common.{◌≡◌, ◌∙◌, sym, ap, subst}
use Rattle.wave_base.specs.declared.shape.Shape.{Shape}
use Rattle.wave_base.specs.Starts.{first_start}
use Rattle.mace_ast.specs.Decls.{ServiceTree}
use Rattle.command_words.specs.declared.command.Places.{Places}
use Rattle.resolved_service.specs.declared.service.Resolved.{Resolved}
use Rattle.resolved_service.specs.Fits.{FitsService}
use Rattle.type_rules.specs.Known.{shape_of}
use Rattle.type_rules.specs.Views.{resolved_view}
use Rattle.meaning_laws.proofs.SameMeaning.{same_calls}
use Rattle.context_types.specs.declared.Typed.{Typed}
use Rattle.script_fold.specs.Runs.{finished_of}
use Rattle.wave_meaning.specs.Meaning.{IsWhole}
use Rattle.service_code.specs.declared.program.Program.{Program}
use Rattle.code_scheme.specs.Programs.{scheme_program}
use Rattle.code_scheme.specs.Typed.{IsTyped}
use Rattle.code_scheme.proofs.Made.{program_shape}
use Rattle.code_runner.specs.Coded.{IsCode}
use Rattle.script_reader.specs.declared.elastic.Elastic.{Elastic}
use Rattle.script_reader.specs.Elastics.{IsElastic}
use Rattle.elastic_policy.specs.Expansions.{expansion}
use Rattle.elastic_policy.specs.Stages.{Staged, first_staged, IsStaged}
use Rattle.elastic_meaning.specs.Walks.{expanded_script}
use Rattle.due_parts.specs.declared.report.Report.TheVariants.{Listing}
use Rattle.due_parts.specs.Answers.{Only}
use Rattle.due_parts.specs.Coded.{IsCoded}
use Rattle.due_parts.specs.Served.{IsTypedTree}
use Rattle.due_parts.specs.Told.{report_answer}
use Rattle.due_parts.proofs.NameLemmas.{code_typed}
use Rattle.due_stages.specs.declared.work.StagedWork.{StagedWork}
use Rattle.due_stages.specs.Accepted.{IsReadyStaged}
use Rattle.due_stages.specs.Elastic.{IsDueExpansion, listed_of}

-- what is known of the runs of what such scripts stand for
abbrev pub ExpansionsEnd : Type 0
ExpansionsEnd = (service : Resolved) (program : Program) (elastic : Elastic) → IsCode service program → IsElastic program.shape elastic → IsWhole program.shape service (expanded_script program.shape service elastic)

-- whichever resolved service it is told of
same_listed : (shape : Shape) (a b : Resolved) (elastic : Elastic) (places : Places) → resolved_view a ≡ resolved_view b → listed_of shape a elastic places ≡ listed_of shape b elastic places
same_listed shape a b elastic places e =
    ap (λ calls. report_answer shape (first_start shape) (expansion (λ tree call. (calls tree call).ran) shape (first_start shape) elastic) (Listing places)
    (finished_of (λ tree call. (calls tree call).ran) shape (first_start shape) (expansion (λ tree call. (calls tree call).ran) shape (first_start shape) elastic))) (same_calls a b e)

only_expansion : (places : Places) (tree : ServiceTree) (typed : Typed) (elastic : Elastic) → IsTypedTree tree typed → IsWhole typed.shape typed.resolved (expanded_script typed.shape typed.resolved elastic)
    → Only (IsDueExpansion places tree elastic) (listed_of typed.shape typed.resolved elastic places)
only_expansion places tree typed elastic t whole = record {
  is_due = record {
    service = typed.resolved;
    resolved = t.resolved_is;
    whole = subst (λ s. IsWhole s typed.resolved (expanded_script s typed.resolved elastic)) t.shape_is whole;
    due_is = ap (λ s. listed_of s typed.resolved elastic places) t.shape_is;
  };
  only = λ other h. h.due_is ∙ same_listed (shape_of tree) h.service typed.resolved elastic places (h.resolved ∙ sym t.resolved_is) ∙ ap (λ s. listed_of s typed.resolved elastic places) (sym t.shape_is);
}

module _ (tree : ServiceTree) (typed : Typed) (program : Program) (stages : Staged) (elastic : Elastic) (t : IsTypedTree tree typed) (coded : IsCoded typed.shape typed.resolved program)
    (fits : IsElastic typed.shape elastic) (first : stages ≡ first_staged typed.shape elastic) (staged : IsStaged stages) (end : ExpansionsEnd) where
  abbrev work : StagedWork
  work = record { service = typed.resolved; program = program; stages = stages }

  same_shape : program.shape ≡ typed.shape
  same_shape = ap (λ (p : Program). p.shape) coded.is ∙ program_shape typed.shape typed.resolved

  code : IsCode typed.resolved program
  code = record {
    typed = subst (λ s. IsTyped s typed.resolved) (sym same_shape) (code_typed tree typed t);
    fits = subst (λ s. FitsService s typed.resolved) (sym same_shape) t.fits;
    is = coded.is ∙ ap (λ s. scheme_program s typed.resolved) (sym same_shape);
  }

  fits_program : IsElastic program.shape elastic
  fits_program = subst (λ s. IsElastic s elastic) (sym same_shape) fits

  whole : IsWhole typed.shape typed.resolved (expanded_script typed.shape typed.resolved elastic)
  whole = subst (λ s. IsWhole s typed.resolved (expanded_script s typed.resolved elastic)) same_shape (end typed.resolved program elastic code fits_program)

  pub ready : IsReadyStaged (λ places. IsDueExpansion places tree elastic) work
  ready = record {
    elastic = elastic;
    can = record { code = code; fits = fits_program; first = first ∙ ap (λ s. first_staged s elastic) (sym same_shape); staged = staged };
    due = λ places. subst (λ s. Only (IsDueExpansion places tree elastic) (listed_of s typed.resolved elastic places)) (sym same_shape) (only_expansion places tree typed elastic t whole);
  }
