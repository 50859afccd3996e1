-- What lies in a box that is not empty.
use Rattle.std.specs.Prelude.{◌≡◌, true, Option, Some, None, is_some}
use Rattle.std.proofs.Common.{true≢false, sym}

abbrev pub what_is_in : {X : Type 0} → (o : Option X) → is_some o ≡ true → X
what_is_in (Some x) full = x
what_is_in None full = absurd (true≢false (sym full))
