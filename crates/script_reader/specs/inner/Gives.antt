-- What is answered of a line where memory may be wanting.
use Rattle.std.specs.Prelude.{◌≡◌, Result, Ok, Err}
use Rattle.script_reader.specs.declared.error.Fault.{Fault}
use Rattle.script_reader.specs.declared.refusal.Refusal.{Refusal}
use Rattle.script_reader.specs.declared.refusal.Refusal.TheVariants as refusal

module _ {A : Type 0} where
  -- the answer is this one; want of memory says nothing
  abbrev pub Gives : Result A Refusal → Result A Fault → Type 0
  Gives (Ok x) r = r ≡ Ok x
  Gives (Err (refusal.Fault f)) r = r ≡ Err f
  Gives (Err (refusal.OutOfMemory _)) r = Unit {0}
