-- Calls of a service keep the shape of a tree, and add few contexts to it; so its scripts are cut where one ends.
use Rattle.std.proofs.Common.{◌≤◌, ◌+◌, length, subst}
use Rattle.wave_base.specs.declared.limits.TheConstants.{CONTEXTS}
use Rattle.wave_base.specs.Tree.{Tree}
use Rattle.resolved_service.specs.declared.service.Resolved.{Resolved}
use Rattle.script_fold.specs.Owed.{KeepsShape}
use Rattle.service_code.specs.declared.program.Program.{Program}
use Rattle.wave_meaning.specs.Meaning.{call_ran}
use Rattle.code_actor.specs.CodeActors.{Fields}
use Rattle.code_runner.specs.Coded.{IsCode, IsTree, IsJob}
use Rattle.code_meaning.specs.inner.Owing.{code_owes}
use Rattle.fold_laws.specs.Growth.{GrowsBy}
use Rattle.fold_laws.proofs.Touring.{code_grows}
use Rattle.code_meaning.proofs.Meaning.{means}

module _ (service : Resolved) (program : Program) (code : IsCode service program) where
  pub keeps : KeepsShape program.shape (call_ran service) (IsTree program.shape) (IsJob program)
  keeps tree call is job fits = ((code_owes service program code).kept tree call is job).0

  pub grows : GrowsBy (call_ran service) (IsTree program.shape) (IsJob program)
  grows tree call is job = subst (λ (t : Tree Fields). length t.paths ≤ length tree.paths + CONTEXTS) (means service program code tree call is job).tree (code_grows program call tree)
