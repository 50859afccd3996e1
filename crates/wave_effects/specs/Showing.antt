-- What is shown of a committed ticket.
use Rattle.std.specs.Prelude.{◌≡◌, ℕ, Some, slice_get}
use Rattle.wave_base.specs.declared.finished.Finished.{Finished}
use Rattle.wave_base.specs.declared.shown.Shown.{Shown}

-- it is what the whole run gives of the ticket
pub record IsLineOf (f : Finished) (i : ℕ) (x : Shown) : Type 0 where
  pub name : slice_get f.names i ≡ Some x.name
  pub result : slice_get f.results i ≡ Some x.result
  pub made : slice_get f.made i ≡ Some x.made
