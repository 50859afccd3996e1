use Rattle.std.proofs.Common.{◌≡◌, ◌<◌, ℕ, Some, true}
use Rattle.std.specs.BTreeMap.{keys}
use Rattle.std.specs.List.{AllByRecursion, list_any}
use Rattle.std.specs.Prelude.{slice_get}
use Rattle.wave_base.specs.declared.numbers.Host.{Host}
use Rattle.wave_base.specs.declared.path.Path.{Path}
use Rattle.wave_base.specs.Paths.{path_eq}
use Rattle.event_cells.specs.declared.cell.Cell.{Cell}
use Rattle.wave_effects.specs.declared.actor.Actor.{Actor}
use Rattle.wave_effects.specs.inner.Owned.{IsCarried, IsKeptAt}
use Rattle.wave_effects.proofs.glance.owners.Given as goal

abbrev pub invariant-loop-cell : goal.invariant-loop-cell
invariant-loop-cell l = record {
  owned : AllByRecursion (λ e. IsKeptAt l.stores l.cells e.0 e.1) l.hosts.entries;
  stored : (p : Path) → list_any (path_eq p) (keys l.initial.hosts) ≡ true → list_any (path_eq p) (keys l.hosts) ≡ true;
  sent : (j : ℕ) (x : Cell Actor) (p : Path) (h : Host) → j < l.cell-index → slice_get l.cells j ≡ Some x → IsCarried x.outbox.mails p h → list_any (path_eq p) (keys l.hosts) ≡ true;
}
