-- The script that a text stands for, or the first line that is refused with its fault.
use Rattle.std.specs.Prelude.{◌≡◌, ℕ, ◌+◌, Bool, true, false, List, [], ◌∷◌, ◌++◌, length, Result, Ok, Err}
use Rattle.wave_base.specs.declared.script.Line.{Line}
use Rattle.wave_base.specs.declared.script.Script.{Script}
use Rattle.wave_base.specs.declared.shape.Shape.{Shape}
use Rattle.wave_text.specs.Lines.{lines_of}
use Rattle.script_reader.specs.declared.earlier.Earlier.{Earlier}
use Rattle.script_reader.specs.declared.error.Fault.{Fault}
use Rattle.script_reader.specs.declared.error.Fault.TheVariants as fault
use Rattle.script_reader.specs.declared.error.ScriptError.{ScriptError}
use Rattle.script_reader.specs.declared.error.ScriptError.TheVariants as error
use Rattle.script_reader.specs.declared.said.Said.{Said}
use Rattle.script_reader.specs.declared.said.Said.TheVariants.{Nothing, Unknown, Says}
use Rattle.script_reader.specs.declared.taken.Taken.{Taken}
use Rattle.script_reader.specs.declared.taken.Taken.TheVariants.{Skipped, Event, Settle}
use Rattle.script_reader.specs.Forms.{is_skipped, is_form, HasForm, HasNoForm}
use Rattle.script_reader.specs.Judged.{hosts_of, has_begun, event_lines, judged_form}

-- what a line says: nothing, something that has no form, or a form
abbrev pub IsSaid : List ℕ → Said → Type 0
IsSaid line Nothing = is_skipped line ≡ true
IsSaid line Unknown = (is_skipped line ≡ false) × HasNoForm line
IsSaid line (Says form) = (is_skipped line ≡ false) × HasForm line form

abbrev pub IsWellFormed : Said → Type 0
IsWellFormed (Says form) = is_form form ≡ true
IsWellFormed _ = Unit {0}

-- it says this alone
abbrev pub IsOnlySaid : List ℕ → Said → Type 0
IsOnlySaid line said = IsSaid line said × ((other : Said) → IsSaid line other → other ≡ said)

-- what is made of it, where so many hosts and event lines stand before
abbrev pub judgment : Shape → ℕ → Bool → ℕ → Said → Result Taken Fault
judgment shape hosts begun events Nothing = Ok Skipped
judgment shape hosts begun events Unknown = Err fault.UnknownCommand
judgment shape hosts begun events (Says form) = judged_form shape hosts begun events form

abbrev pub judged_after : Shape → Earlier → List Taken → Said → Result Taken Fault
judged_after shape earlier before said = judgment shape (hosts_of earlier before) (has_begun earlier before) (event_lines earlier before) said

-- ---- batches, the last line first

-- the event lines since the last `settle`
abbrev pub open_batch : List Taken → List Line
open_batch [] = []
open_batch (Event l ∷ before) = open_batch before ++ l ∷ []
open_batch (Settle ∷ before) = []
open_batch (t ∷ before) = open_batch before

-- an empty batch is left out
abbrev pub with_batch : List (List Line) → List Line → List (List Line)
with_batch batches [] = batches
with_batch batches (l ∷ ls) = batches ++ (l ∷ ls) ∷ []

-- the batches that a `settle` ended
abbrev pub closed_batches : List Taken → List (List Line)
closed_batches [] = []
closed_batches (Settle ∷ before) = with_batch (closed_batches before) (open_batch before)
closed_batches (t ∷ before) = closed_batches before

-- a script with these batches and a last one
abbrev pub script_with : ℕ → List (List Line) → List Line → Script
script_with hosts closed open_lines = record { hosts = hosts; batches = with_batch closed open_lines }

abbrev pub script_of : Earlier → List Taken → Script
script_of earlier lines = script_with (hosts_of earlier lines) (closed_batches lines) (open_batch lines)

-- ---- the whole

abbrev pub error_at : Fault → ℕ → ScriptError
error_at fault.UnknownCommand n = error.UnknownCommand n
error_at fault.UnknownEvent n = error.UnknownEvent n
error_at fault.ArgCount n = error.ArgCount n
error_at fault.ArgType n = error.ArgType n
error_at fault.BadPath n = error.BadPath n
error_at fault.HostRange n = error.HostRange n
error_at fault.HostsLate n = error.HostsLate n
error_at fault.TooMany n = error.TooMany n
error_at fault.PolicyLate n = error.PolicyLate n
error_at fault.CountRange n = error.CountRange n

-- a line is taken, or refused
abbrev pub Goes : Result Taken Fault → (Taken → Type 0) → (Fault → Type 0) → Type 0
Goes (Ok t) P Q = P t
Goes (Err f) P Q = Q f

-- after these lines, the last one first, these ones give this: line by line, up to the first that is refused
abbrev pub IsRead : Shape → Earlier → List Taken → List (List ℕ) → Result Script ScriptError → Type 0
IsRead shape earlier before [] r = r ≡ Ok (script_of earlier before)
IsRead shape earlier before (l ∷ ls) r =
    (s : Said) × IsSaid l s × Goes (judged_after shape earlier before s) (λ t. IsRead shape earlier (t ∷ before) ls r) (λ f. r ≡ Err (error_at f (length before + 1)))

-- what a text gives, and that it gives nothing else
pub record IsScriptOf (shape : Shape) (earlier : Earlier) (text : List ℕ) (r : Result Script ScriptError) : Type 0 where
  pub read : IsRead shape earlier [] (lines_of text) r
  pub only : (other : Result Script ScriptError) → IsRead shape earlier [] (lines_of text) other → other ≡ r

-- want of memory says nothing
abbrev pub IsAnswer : Shape → Earlier → List ℕ → Result Script ScriptError → Type 0
IsAnswer shape earlier text (Err (error.OutOfMemory _)) = Unit {0}
IsAnswer shape earlier text r = IsScriptOf shape earlier text r
