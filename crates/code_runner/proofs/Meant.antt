-- What a call's code gives is what the service says.
use Rattle.std.proofs.Common.{◌≡◌, List, Some, sym, subst, ◌∙◌}
use Rattle.std.specs.Prelude.{All}
use Rattle.wave_base.specs.declared.call.Call.{Call}
use Rattle.wave_base.specs.declared.outcome.EventResult.{EventResult}
use Rattle.wave_base.specs.declared.value.Value.{Value}
use Rattle.wave_base.specs.Tree.{Tree}
use Rattle.resolved_service.specs.declared.service.Resolved.{Resolved}
use Rattle.resolved_service.specs.Jobs.{call_meaning}
use Rattle.service_code.specs.declared.program.Program.{Program}
use Rattle.service_verify.specs.Fit.{IsFit}
use Rattle.service_verify.specs.Points.{IsVerified}
use Rattle.service_verify.specs.Tours.{code_tour}
use Rattle.code_scheme.specs.Correct.{Means}
use Rattle.code_scheme.proofs.Fitting.{scheme_fit, scheme_verified}
use Rattle.code_scheme.proofs.Law.{service_means}
use Rattle.code_runner.specs.Coded.{IsCode, IsTree, IsJob}
use Rattle.code_runner.proofs.Walking.{Ended, ended}

pub same_result : (x y : EventResult) → Some x ≡ Some y → x ≡ y
same_result x y e = cc

module _ (service : Resolved) (program : Program) (code : IsCode service program) where
  pub code_fit : IsFit program
  code_fit = subst IsFit (sym code.is) (scheme_fit program.shape service code.typed)

  pub code_verified : IsVerified program
  code_verified = subst IsVerified (sym code.is) (scheme_verified program.shape service code.typed)

  module _ (tree : Tree (List Value)) (call : Call) (is : IsTree program.shape tree) (job : IsJob program call) where
    pub code_means : Means (code_tour program call tree) (call_meaning service tree call)
    code_means = subst (λ p. Means (code_tour p call tree) (call_meaning service tree call)) (sym code.is)
        (service_means program.shape service code.typed (scheme_fit program.shape service code.typed) (scheme_verified program.shape service code.typed) call tree job.0 job.1 is.0 is.1)

    pub meant_result : (r : EventResult) → (code_tour program call tree).result ≡ Some r → r ≡ (call_meaning service tree call).ran.result
    meant_result r e = same_result r (call_meaning service tree call).ran.result (sym e ∙ code_means.result)

    e : Ended program code_fit code_verified (code_tour program call tree)
    e = ended program code_fit code_verified call tree job is.0 is.1

    pub kept_tree : IsTree program.shape (call_meaning service tree call).ran.tree
    kept_tree = subst (IsTree program.shape) code_means.tree (e.fits, e.root)

    pub created_jobs : All (IsJob program) (call_meaning service tree call).ran.result.created
    created_jobs = subst (λ (r : EventResult). All (IsJob program) r.created) (meant_result e.result e.is) e.created
