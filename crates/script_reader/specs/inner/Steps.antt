-- What the reader of a script asks, and what one line does to it.
use Rattle.std.specs.Prelude.{◌≡◌, ◌≤◌, ℕ, List, length, Ok, Err}
use Rattle.wave_base.specs.declared.limits.TheConstants.{PLACED_BYTES, HOSTS, EVENT_LINES}
use Rattle.wave_base.specs.declared.shape.Shape.{Shape}
use Rattle.wave_base.specs.Shapes.{IsShape}
use Rattle.script_reader.specs.declared.earlier.Earlier.{Earlier}
use Rattle.script_reader.specs.declared.error.Fault.{Fault}
use Rattle.script_reader.specs.declared.error.ScriptError.{ScriptError}
use Rattle.script_reader.specs.declared.error.ScriptError.TheVariants.{OutOfMemory}
use Rattle.script_reader.specs.declared.progress.Progress.{Progress}
use Rattle.script_reader.specs.declared.refusal.Refusal.{Refusal}
use Rattle.script_reader.specs.declared.refusal.Refusal.TheVariants as refusal
use Rattle.script_reader.specs.declared.said.Said.{Said}
use Rattle.script_reader.specs.declared.taken.Taken.{Taken}
use Rattle.script_reader.specs.inner.Progressed.{with_taken}
use Rattle.script_reader.specs.Scripts.{IsOnlySaid, judgment, error_at}

-- a text of a length that can be placed, for a shape, behind what may have been said before
pub record MayRead (shape : Shape) (earlier : Earlier) (text : List ℕ) : Type 0 where
  pub is_shape : IsShape shape
  pub short : length text ≤ PLACED_BYTES
  pub some_host : 1 ≤ earlier.hosts
  pub few_hosts : earlier.hosts ≤ HOSTS
  pub few_lines : earlier.events ≤ EVENT_LINES

-- the line is taken
pub record IsStep (shape : Shape) (line : List ℕ) (before after : Progress) : Type 0 where
  pub said : Said
  pub taken : Taken
  pub says : IsOnlySaid line said
  pub judged_is : judgment shape before.hosts before.begun before.events said ≡ Ok taken
  pub after_is : after ≡ with_taken before taken

abbrev pub error_of_refusal : Refusal → ℕ → ScriptError
error_of_refusal (refusal.Fault f) number = error_at f number
error_of_refusal (refusal.OutOfMemory error_at) number = OutOfMemory error_at

pub record IsRefused (shape : Shape) (line : List ℕ) (before : Progress) (number : ℕ) (error : ScriptError) : Type 0 where
  pub said : Said
  pub fault : Fault
  pub says : IsOnlySaid line said
  pub judged_is : judgment shape before.hosts before.begun before.events said ≡ Err fault
  pub error_is : error ≡ error_at fault number

-- the line is refused; want of memory says nothing
abbrev pub IsStop : Shape → List ℕ → Progress → ℕ → ScriptError → Type 0
IsStop shape line before number (OutOfMemory _) = Unit {0}
IsStop shape line before number error = IsRefused shape line before number error
