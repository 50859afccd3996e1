-- Functions that are added one after the other, and the first of them that is too long.
use Rattle.std.specs.Prelude.{◌≡◌, ◌<◌, ◌≤◌, ℕ, List, ◌++◌, length, All, Some, slice_get}
use Rattle.wave_base.specs.declared.limits.TheConstants.{INSTRUCTIONS}
use Rattle.service_code.specs.declared.program.Function.{Function}
use Rattle.code_scheme.specs.declared.line.Line.{Line}
use Rattle.code_scheme.specs.Programs.{told_length}
use Rattle.code_scheme.specs.Texts.{Text, with_texts}
use Rattle.service_compiler.specs.declared.error.CompileError.{CompileError}
use Rattle.service_compiler.specs.declared.error.CompileError.TheVariants.{CodeTooLong, OutOfMemory}
use Rattle.service_compiler.specs.inner.Drafts.{Draft, new_draft, GoOn, Holds}

-- none is too long
abbrev pub AreShort : List Function → Type 0
AreShort fs = All (λ (f : Function). length f.code ≤ INSTRUCTIONS) fs

-- a function begins, behind functions that are not too long
pub record IsReady (d : Draft) : Type 0 where
  pub begins : d ≡ new_draft d.functions d.texts
  pub short : AreShort d.functions

-- all lines of a function are written, which use these texts
pub record Writes (old new : Draft) (uses : List Text) (code : List Text → List Line) : Type 0 where
  pub functions : new.functions ≡ old.functions
  pub holds : (all : List Text) → GoOn (with_texts old.texts uses) all → Holds new (with_texts old.texts uses) (code all)

-- more functions, none of them too long, which use these texts
pub record Adds (old new : Draft) (uses : List Text) (more : List Text → List Function) : Type 0 where
  pub ready : IsReady new
  pub texts : new.texts ≡ with_texts old.texts uses
  pub functions : (all : List Text) → GoOn new.texts all → new.functions ≡ old.functions ++ more all

-- the first of them that is too long, and the length that is told of it
pub record IsFirstLong (fs : List Function) (number size : ℕ) : Type 0 where
  pub function : Function
  pub is_there : slice_get fs number ≡ Some function
  pub too_long : INSTRUCTIONS < length function.code
  pub size_is : size ≡ told_length (length function.code)
  pub first : (n : ℕ) (f : Function) → n < number → slice_get fs n ≡ Some f → length f.code ≤ INSTRUCTIONS

abbrev pub HasLong : List Function → CompileError → Type 0
HasLong fs (CodeTooLong f n) = IsFirstLong fs f n
HasLong fs (OutOfMemory _) = Unit {0}

-- functions that use these texts are not added: memory is wanting, or this is the first that is too long
pub record IsRefused (old : Draft) (uses : List Text) (more : List Text → List Function) (e : CompileError) : Type 0 where
  pub long : (all : List Text) → GoOn (with_texts old.texts uses) all → HasLong (old.functions ++ more all) e

-- this function is too long
abbrev pub IsLong : ℕ → ℕ → CompileError → Type 0
IsLong number count (CodeTooLong f n) = (f ≡ number) × (n ≡ count) × (INSTRUCTIONS < count)
IsLong number count (OutOfMemory _) = Unit {0}
