-- The error of a fault on a line.
use Rattle.std.specs.Prelude.{ℕ}
use Rattle.snapshot_text.specs.declared.error.Fault.{Fault}
use Rattle.snapshot_text.specs.declared.error.Fault.TheVariants as fault
use Rattle.snapshot_text.specs.declared.error.ShotError.{ShotError}
use Rattle.snapshot_text.specs.declared.error.ShotError.TheVariants as error

abbrev pub error_at : Fault → ℕ → ShotError
error_at fault.Syntax n = error.Syntax n
error_at fault.Class n = error.Class n
error_at fault.Field n = error.Field n
error_at fault.Order n = error.Order n
