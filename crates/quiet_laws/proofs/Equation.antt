-- Calls go to lower numbers, so the equation has one solution.
use Rattle.std.proofs.Common.{◌≡◌, ℕ, zero, suc, ◌<◌, Bool, length, slice_get, Option, Some, None, refl, sym, ◌∙◌, ap, arith}
use Rattle.service_code.specs.declared.instr.Instr.TheVariants.{Call as CallOwn}
use Rattle.service_code.specs.declared.program.Function.{Function}
use Rattle.service_code.specs.declared.program.Program.{Program}
use Rattle.service_verify.specs.Looks.{is_quiet, is_quiet_function}
use Rattle.service_verify.specs.Points.{IsVerified}
use Rattle.service_verify.specs.Steps.{code_of}
use Rattle.service_verify.proofs.Peeking.{LowerCalls, all_same, call_lower, quiet_code, quiet_same}
use Rattle.quiet_laws.specs.Quietness.{IsQuietness, Quietness}

module _ (program : Program) (verified : IsVerified program) where
  calls_lower : (number : ℕ) → LowerCalls program number
  calls_lower number n g is = by (slice_get program.functions number) refl is
    where
      by : (o : Option Function) → slice_get program.functions number ≡ o → slice_get (code_of o) n ≡ Some (CallOwn g) → g < number
      by None there is = cc
      by (Some function) there is = let v = verified.each number function there in call_lower program number function v.0 n g v.1 is

  -- what says so of the functions below a bound is as `is_quiet_function` there
  below : (quiet : ℕ → Bool) → IsQuietness program quiet → (bound number : ℕ) → number < bound → number < length program.functions → quiet number ≡ is_quiet_function program number
  below quiet solves zero number lt within = absurd (omega arith)
  below quiet solves (suc bound) number lt within =
      solves number within ∙ all_same (is_quiet quiet) (is_quiet (is_quiet_function program)) (code_of (slice_get program.functions number))
      (λ n i is. quiet_same quiet (is_quiet_function program) i (λ g called.
      let less = calls_lower number n g (is ∙ ap (λ j. Some j) called) in below quiet solves bound g (omega (arith, less)) (omega (arith, less, within))))
      ∙ sym (quiet_code program verified number within)

  pub quietness : Quietness program
  quietness = record { solves = quiet_code program verified; alone = λ quiet solves number within. below quiet solves (suc number) number (omega arith) within }
