-- The evaluator does what it owes to the fold.
use Rattle.std.proofs.Common.{◌≡◌, ◌≤◌, ℕ, List, arith}
use Rattle.wave_base.specs.declared.limits.TheConstants.{GENERATION}
use Rattle.wave_base.specs.declared.call.Call.{Call}
use Rattle.wave_base.specs.declared.shape.Shape.{Shape}
use Rattle.wave_base.specs.declared.value.Value.{Value}
use Rattle.wave_base.specs.Tree.{Tree}
use Rattle.resolved_service.specs.declared.service.Resolved.{Resolved}
use Rattle.resolved_service.specs.Jobs.{call_meaning}
use Rattle.script_fold.specs.Owed.{Owed}
use Rattle.service_eval.specs.Worlds.{Holds}
use Rattle.meaning_laws.specs.Kept.{IsEarly, IsKept}
use Rattle.meaning_laws.proofs.Keeps.{kept_call}
use Rattle.wave_meaning.specs.Meaning.{call_ran, IsFit}

within : (a b : ℕ) → a ≡ 0 → a ≤ b
within a b e = omega (arith, e)

module _ (shape : Shape) (service : Resolved) (fit : IsFit shape service) where
  kept : (tree : Tree (List Value)) (call : Call) → Holds shape tree → IsEarly call → IsKept shape tree call.generation (call_meaning service tree call)
  kept = kept_call shape service fit.1

  pub evaluator_owes : Owed shape (call_ran service) (Holds shape) IsEarly
  evaluator_owes = record {
    begins = λ tree fits root. record { paths = fits.paths; parents = fits.parents; root = root };
    asked = λ call is first. within call.generation GENERATION first;
    kept = λ tree call holds early. (kept tree call holds early).tree;
    created = λ tree call holds early. (kept tree call holds early).early;
    few = λ tree call holds early. (kept tree call holds early).few;
    later = λ tree call holds early. (kept tree call holds early).later;
    last = λ call early. early;
    joined = λ tree call p holds early. (kept tree call holds early).joined p;
    ordered = λ tree call holds early. (kept tree call holds early).ordered;
    unmoved = λ tree call holds early. (kept tree call holds early).unmoved;
  }
