use Rattle.std.proofs.Common.{◌≡◌, ◌<◌, ℕ, Some, true}
use Rattle.std.specs.BTreeMap.{keys}
use Rattle.std.specs.List.{list_any}
use Rattle.std.specs.Prelude.{slice_get}
use Rattle.wave_base.specs.declared.path.Path.{Path}
use Rattle.wave_base.specs.Paths.{path_eq}
use Rattle.host_map.specs.Stores.{Stores, has}
use Rattle.wave_effects.specs.inner.Endings.{AllThere}
use Rattle.wave_effects.proofs.places.stored_place.Given as goal

abbrev pub invariant-loop-host : goal.invariant-loop-host
invariant-loop-host l = record {
  there : AllThere l.stores l.hosts.entries;
  all : (h : ℕ) (x : Stores) (p : Path) → h < l.host → slice_get l.stores h ≡ Some x → has p x ≡ true → list_any (path_eq p) (keys l.hosts) ≡ true;
}
