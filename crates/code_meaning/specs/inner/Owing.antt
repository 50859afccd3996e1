-- The code of a service does what it owes to the fold.
use Rattle.std.proofs.Common.{◌≡◌, ◌≤◌, ℕ, List, arith}
use Rattle.wave_base.specs.declared.call.Call.{Call}
use Rattle.wave_base.specs.declared.limits.TheConstants.{GENERATION}
use Rattle.wave_base.specs.declared.value.Value.{Value}
use Rattle.wave_base.specs.Tree.{Tree}
use Rattle.resolved_service.specs.declared.service.Resolved.{Resolved}
use Rattle.resolved_service.specs.Jobs.{call_meaning}
use Rattle.script_fold.specs.Owed.{Owed}
use Rattle.service_code.specs.declared.program.Program.{Program}
use Rattle.meaning_laws.specs.Kept.{IsKept}
use Rattle.meaning_laws.proofs.Keeps.{kept_call}
use Rattle.wave_meaning.specs.Meaning.{call_ran}
use Rattle.code_runner.specs.Coded.{IsCode, IsTree, IsJob}
use Rattle.code_runner.proofs.Meant.{kept_tree, created_jobs}

within : (a b : ℕ) → a ≡ 0 → a ≤ b
within a b e = omega (arith, e)

module _ (service : Resolved) (program : Program) (code : IsCode service program) where
  known : (tree : Tree (List Value)) (call : Call) → IsTree program.shape tree → IsJob program call → IsKept program.shape tree call.generation (call_meaning service tree call)
  known tree call is job = kept_call program.shape service code.fits tree call (record { paths = is.0.paths; parents = is.0.parents; root = is.1 }) job.1

  pub code_owes : Owed program.shape (call_ran service) (IsTree program.shape) (IsJob program)
  code_owes = record {
    begins = λ tree fits root. (fits, root);
    asked = λ call is first. (is, within call.generation GENERATION first);
    kept = λ tree call is job. kept_tree service program code tree call is job;
    created = λ tree call is job. created_jobs service program code tree call is job;
    few = λ tree call is job. (known tree call is job).few;
    later = λ tree call is job. (known tree call is job).later;
    last = λ call job. job.1;
    joined = λ tree call p is job. (known tree call is job).joined p;
    ordered = λ tree call is job. (known tree call is job).ordered;
    unmoved = λ tree call is job. (known tree call is job).unmoved;
  }
