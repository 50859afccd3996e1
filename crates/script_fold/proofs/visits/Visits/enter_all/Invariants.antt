use Rattle.std.proofs.Common.{◌≡◌, ℕ, suc, List, [], length, take}
use Rattle.wave_base.specs.declared.path.Path.{Path}
use Rattle.wave_base.specs.Places.{with_contexts}
use Rattle.wave_base.specs.Tree.{Tree}
use Rattle.script_fold.specs.inner.Visiting.{IsVisited}
use Rattle.script_fold.proofs.visits.Visits.enter_all.Given as goal

abbrev pub invariant-loop-path : goal.invariant-loop-path
invariant-loop-path l =
    (hosts : Tree ℕ) (earlier : List (List Path)) → l.job ≡ suc (length earlier) → IsVisited hosts earlier [] l.fn.self
    → IsVisited (with_contexts hosts (take l.path-index l.paths)) earlier (take l.path-index l.paths) l.self
