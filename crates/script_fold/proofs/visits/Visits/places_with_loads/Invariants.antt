use Rattle.std.proofs.Common.{◌≡◌, map}
use Rattle.std.specs.Map.Iter.{deref_pair}
use Rattle.script_fold.specs.inner.Visiting.{host_at}
use Rattle.script_fold.proofs.visits.Visits.places_with_loads.Given as goal

abbrev pub invariant-loop-path : goal.invariant-loop-path
invariant-loop-path l = record {
  places : l.places.items ≡ map (λ e. record { path = e.0; host = host_at l.self.hosts.entries e.0 }) (map deref_pair l.yielded);
  loads : l.loads.items ≡ map (λ e. e.1.count) (map deref_pair l.yielded);
}
