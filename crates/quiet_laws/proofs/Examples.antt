-- Computed examples: a chain of methods, whose equation one answer alone solves; and a method that calls itself, which no verified
-- program has, where two answers solve it. (`tests_definitions` has each instruction.)
use Rattle.std.proofs.Common.{◌≡◌, ℕ, zero, suc, Bool, true, false, List, [], ◌∷◌, None, pos, slice_get, refl, arith}
use Rattle.std.specs.List.{list_all}
use Rattle.std.specs.Prelude.{codes, map}
use Rattle.service_code.specs.declared.instr.Instr.{Instr}
use Rattle.service_code.specs.declared.instr.Instr.TheVariants.{PushInt, SetField, Tick, Call as CallOwn, Return}
use Rattle.service_code.specs.declared.program.Program.{Program}
use Rattle.service_verify.specs.Looks.{is_quiet, is_quiet_function}
use Rattle.service_verify.specs.Steps.{code_of}
use Rattle.service_verify.proofs.Samples.{function, market}
use Rattle.quiet_laws.specs.Quietness.{IsQuietness}

abbrev methods : List (List Instr) → Program
methods codes_of = record market { functions = map (λ code. function (codes "m") 1 false [] None [] 1 code) codes_of }

-- what the equation asks of a function, where this is said of all
abbrev asked : Program → (ℕ → Bool) → ℕ → Bool
asked program quiet number = list_all (is_quiet quiet) (code_of (slice_get program.functions number))

-- 0 returns and 2 calls it; 1 sets a field and 3 calls it; and 4 calls both
abbrev chain : Program
chain = methods (
    (Return ∷ []) ∷ (PushInt (pos 1) ∷ SetField 0 ∷ Return ∷ []) ∷ (Tick ∷ CallOwn 0 ∷ Return ∷ []) ∷ (Tick ∷ CallOwn 1 ∷ Return ∷ [])
    ∷ (Tick ∷ CallOwn 2 ∷ Tick ∷ CallOwn 3 ∷ Return ∷ []) ∷ []
    )

abbrev five : List ℕ
five = 0 ∷ 1 ∷ 2 ∷ 3 ∷ 4 ∷ []

quiet_in_chain : map (is_quiet_function chain) five ≡ true ∷ false ∷ true ∷ false ∷ false ∷ []
unfolding is_quiet_function
quiet_in_chain = refl

chain_solves : map (asked chain (is_quiet_function chain)) five ≡ map (is_quiet_function chain) five
unfolding is_quiet_function
chain_solves = refl

-- to say so of all, or of none, solves it not
all_solves_not : map (asked chain (λ g. true)) five ≡ true ∷ false ∷ true ∷ true ∷ true ∷ []
all_solves_not = refl

none_solves_not : map (asked chain (λ g. false)) five ≡ true ∷ false ∷ false ∷ false ∷ false ∷ []
none_solves_not = refl

-- a method that calls itself
abbrev circle : Program
circle = methods ((Tick ∷ CallOwn 0 ∷ Return ∷ []) ∷ [])

both_solve : (b : Bool) → IsQuietness circle (λ g. b)
both_solve true zero lt = refl
both_solve false zero lt = refl
both_solve b (suc number) lt = absurd (omega (arith, lt))
