use Rattle.std.proofs.Common.{◌≡◌, map}
use Rattle.std.specs.Map.Iter.{deref_pair}
use Rattle.script_fold.specs.inner.Visiting.{load_at}
use Rattle.script_fold.proofs.visits.Visits.loads.Given as goal

abbrev pub invariant-loop-path : goal.invariant-loop-path
invariant-loop-path l = l.loads.items ≡ map (λ e. (load_at l.self.loads.entries e.0).count) (map deref_pair l.yielded)
