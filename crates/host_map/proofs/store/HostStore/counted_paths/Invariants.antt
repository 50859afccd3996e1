use Rattle.std.proofs.Common.{◌≡◌, map, filter}
use Rattle.std.specs.Map.{keys_of}
use Rattle.std.specs.Map.Iter.{deref_pair}
use Rattle.host_map.proofs.StoreMaps.{says}
use Rattle.host_map.proofs.store.HostStore.counted_paths.Given as goal

abbrev pub invariant-loop-path : goal.invariant-loop-path
invariant-loop-path l = l.touched.items ≡ keys_of (filter says (map deref_pair l.yielded))
