use Rattle.std.proofs.Common.{◌≡◌, map, filter}
use Rattle.std.specs.Map.Iter.{deref_pair}
use Rattle.script_fold.specs.inner.Visiting.{load_at, place_in}
use Rattle.script_fold.proofs.LiveLemmas.{stands_at}
use Rattle.script_fold.proofs.visits.Visits.on_host.Given as goal

abbrev pub invariant-loop-path : goal.invariant-loop-path
invariant-loop-path l = record {
  places : l.places.items ≡ map place_in (filter (stands_at l.host.0) (map deref_pair l.yielded));
  loads : l.loads.items ≡ map (λ e. (load_at l.self.loads.entries e.0).count) (filter (stands_at l.host.0) (map deref_pair l.yielded));
}
