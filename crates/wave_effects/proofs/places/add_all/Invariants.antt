use Rattle.std.proofs.Common.{◌≡◌, true, take}
use Rattle.std.specs.BTreeMap.{keys}
use Rattle.std.specs.List.{list_any}
use Rattle.wave_base.specs.declared.path.Path.{Path}
use Rattle.wave_base.specs.Paths.{path_eq}
use Rattle.wave_effects.specs.inner.Endings.{AllThere}
use Rattle.wave_effects.proofs.places.add_all.Given as goal

abbrev pub invariant-loop-path : goal.invariant-loop-path
invariant-loop-path l = record {
  there : AllThere l.stores l.initial.hosts.entries → AllThere l.stores l.hosts.entries;
  added : (p : Path) → list_any (path_eq p) (take l.path-index l.path-items) ≡ true → list_any (path_eq p) (keys l.hosts) ≡ true;
  kept : (p : Path) → list_any (path_eq p) (keys l.initial.hosts) ≡ true → list_any (path_eq p) (keys l.hosts) ≡ true;
}
