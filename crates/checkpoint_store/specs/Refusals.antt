-- The error of a fault on a line.
use Rattle.std.specs.Prelude.{ℕ}
use Rattle.checkpoint_store.specs.declared.error.CheckError.{CheckError}
use Rattle.checkpoint_store.specs.declared.error.CheckError.TheVariants as error
use Rattle.checkpoint_store.specs.declared.error.Fault.{Fault}
use Rattle.checkpoint_store.specs.declared.error.Fault.TheVariants as fault

abbrev pub error_at : Fault → ℕ → CheckError
error_at fault.Syntax n = error.Syntax n
error_at fault.Service n = error.Service n
error_at fault.Tree n = error.Tree n
