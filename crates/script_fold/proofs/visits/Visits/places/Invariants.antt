use Rattle.std.proofs.Common.{◌≡◌, map}
use Rattle.std.specs.Map.Iter.{deref_pair}
use Rattle.script_fold.specs.inner.Visiting.{place_in}
use Rattle.script_fold.proofs.visits.Visits.places.Given as goal

abbrev pub invariant-loop-path : goal.invariant-loop-path
invariant-loop-path l = l.places.items ≡ map place_in (map deref_pair l.yielded)
