-- What is kept of a committed ticket.
use Rattle.std.specs.Prelude.{◌≡◌, ℕ, List, Some, slice_get}
use Rattle.event_cells.specs.declared.cell.JobKind.{JobKind}
use Rattle.wave_effects.specs.declared.kept.Settled.{Settled}
use Rattle.wave_base.specs.declared.shown.Shown.{Shown}
use Rattle.wave_effects.specs.Kinds.{name_in}

pub record IsKept (settled : List Settled) (kinds : List JobKind) (i : ℕ) (x : Shown) : Type 0 where
  pub kept : Settled
  pub at : slice_get settled i ≡ Some kept
  pub kind : JobKind
  pub job : slice_get kinds i ≡ Some kind
  pub name : x.name ≡ name_in kind
  pub result : x.result ≡ kept.result
  pub made : x.made ≡ kept.made
