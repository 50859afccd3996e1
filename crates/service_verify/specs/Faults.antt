-- What a refusal names.
use Rattle.std.specs.Prelude.{◌≡◌, ℕ, Err}
use Rattle.service_code.specs.declared.program.Function.{Function}
use Rattle.service_code.specs.declared.program.Program.{Program}
use Rattle.service_verify.specs.declared.error.Refusal.{Refusal}
use Rattle.service_verify.specs.declared.error.Refusal.TheVariants.{Broken, OutOfMemory}
use Rattle.service_verify.specs.declared.error.Rule.{Rule}
use Rattle.service_verify.specs.declared.error.Rule.TheVariants as rule
use Rattle.service_verify.specs.declared.error.VerifyError.{VerifyError}
use Rattle.service_verify.specs.declared.error.VerifyError.TheVariants as e
use Rattle.service_verify.specs.Points.{judged_function}
use Rattle.wave_base.specs.Memory.{the_refusal}

-- P holds of the rule, the function and the instruction that it names
abbrev pub Names : (Rule → ℕ → ℕ → Type 0) → VerifyError → Type 0
Names P (e.Stack f i) = P rule.Stack f i
Names P (e.Kind f i) = P rule.Kind f i
Names P (e.Jump f i) = P rule.Jump f i
Names P (e.Call f i) = P rule.Call f i
Names P (e.Field f i) = P rule.Field f i
Names P (e.OutOfMemory _) = Unit {0}

-- this rule, this function and this instruction
pub record IsNamed (r : Rule) (number instruction : ℕ) (s : Rule) (f i : ℕ) : Type 0 where
  pub rule : r ≡ s
  pub function_is : number ≡ f
  pub instruction_is : instruction ≡ i

-- the refusal of an instruction
abbrev pub Refuses : Refusal → ℕ → ℕ → VerifyError → Type 0
Refuses (Broken r) f i x = Names (IsNamed r f i) x
Refuses (OutOfMemory _) f i x = x ≡ e.OutOfMemory the_refusal

-- the first instruction of a function that breaks a rule
pub record IsFirst (program : Program) (number : ℕ) (function : Function) (r : Rule) (f i : ℕ) : Type 0 where
  pub number_is : f ≡ number
  pub breaks : judged_function program number function ≡ Err (record { rule = r; instruction = i })
