use Rattle.std.proofs.Common.{◌≡◌, ◌<◌, ℕ, Some, true}
use Rattle.std.specs.BTreeMap.{keys}
use Rattle.std.specs.List.{AllByRecursion, list_any}
use Rattle.std.specs.Prelude.{slice_get}
use Rattle.wave_base.specs.declared.numbers.Host.{Host}
use Rattle.wave_base.specs.declared.path.Path.{Path}
use Rattle.wave_base.specs.Paths.{path_eq}
use Rattle.event_cells.specs.declared.outbox.Envelope.{Envelope}
use Rattle.wave_effects.specs.inner.Owned.{IsOldOr, carried_in}
use Rattle.wave_effects.proofs.glance.add_carried.Given as goal

abbrev pub invariant-loop-mail : goal.invariant-loop-mail
invariant-loop-mail l = record {
  there : AllByRecursion (λ e. IsOldOr l.initial.hosts.entries l.cell.outbox.mails e.0 e.1) l.hosts.entries;
  more : (j : ℕ) (x : ℕ × Envelope) (p : Path) (h : Host) → j < l.mail-index → slice_get l.mails j ≡ Some x → carried_in x.1 ≡ Some (record { path = p; host = h }) → list_any (path_eq p) (keys l.hosts) ≡ true;
  kept : (p : Path) → list_any (path_eq p) (keys l.initial.hosts) ≡ true → list_any (path_eq p) (keys l.hosts) ≡ true;
}
