-- Which functions are quiet, by an equation in which no depth of calls occurs.
use Rattle.std.specs.Prelude.{◌≡◌, ◌<◌, ℕ, Bool, length, slice_get}
use Rattle.std.specs.List.{list_all}
use Rattle.service_code.specs.declared.program.Program.{Program}
use Rattle.service_verify.specs.Looks.{is_quiet, is_quiet_function}
use Rattle.service_verify.specs.Steps.{code_of}

module _ (program : Program) where
  -- It says of a function that it is quiet exactly where each of the function's instructions is, by what it says itself of the functions
  -- that they call.
  abbrev pub IsQuietness : (ℕ → Bool) → Type 0
  IsQuietness quiet = (number : ℕ) → number < length program.functions → quiet number ≡ list_all (is_quiet quiet) (code_of (slice_get program.functions number))

  -- Quietness. `is_quiet_function` is such a one, and there is no other.
  pub record Quietness : Type 0 where
    pub solves : IsQuietness (is_quiet_function program)
    pub alone : (quiet : ℕ → Bool) → IsQuietness quiet → (number : ℕ) → number < length program.functions → quiet number ≡ is_quiet_function program number
