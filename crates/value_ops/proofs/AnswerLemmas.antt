-- What a call answers that hands an error on.
use Rattle.std.proofs.Common.{◌≡◌, ◌↔◌, ℕ, ℤ, List, Result, Ok, Err, refl}
use Rattle.std.specs.Prelude.{IsErrAnd}
use Rattle.std.proofs.lemmas.Result.{err_from_is_err_and}
use Rattle.wave_base.specs.declared.trap.TrapKind.{TrapKind}
use Rattle.wave_base.specs.declared.value.Value.{Value}
use Rattle.wave_base.specs.declared.value.Value.TheVariants.{Str, Map}
use Rattle.value_ops.specs.declared.error.OpError.{OpError}
use Rattle.value_ops.specs.declared.error.OpError.TheVariants.{Trap, OutOfMemory}
use Rattle.value_ops.specs.Answers.{Answers, MayWantMemory}
use Rattle.value_ops.specs.Kinds.{Answer}
use Rattle.wave_base.specs.Memory.{the_refusal}

pub wants_memory : (answer : Answer Value) (r : Result Value OpError) → IsErrAnd r (λ e. e ≡ OutOfMemory the_refusal) → MayWantMemory answer → Answers answer r
wants_memory answer r h may = let p = err_from_is_err_and r h in rw (p.1, p.2) may

pub traps : (answer : Answer Value) (trap : TrapKind) (r : Result Value OpError) → IsErrAnd r (λ e. e ≡ Trap trap) → answer ≡ Err trap → Answers answer r
traps answer trap r h e = let p = err_from_is_err_and r h in rw (p.1, p.2) e

pub may_want_map : (answer : Answer Value) (m : List (ℤ × ℤ)) → answer ≡ Ok (Map m) → MayWantMemory answer
may_want_map answer m e = rw e tt

pub may_want_text : (answer : Answer Value) (t : List ℕ) → answer ≡ Ok (Str t) → MayWantMemory answer
may_want_text answer t e = rw e tt

-- where the call gives a value or memory is wanting, the operator gives a value; and a trap is the operator's
module _ {X : Type 0} (answer : Answer Value) (trap : TrapKind) where
  pub value_no_trap : (value : Value) (x : X) → answer ≡ Ok value → ◌↔◌ (◌≡◌ {A = Result X OpError} (Ok x) (Err (Trap trap))) (answer ≡ Err trap)
  value_no_trap value x e = (λ h. cc, λ h. cc)

  pub memory_no_trap : (value : Value) → answer ≡ Ok value → ◌↔◌ (◌≡◌ {A = Result X OpError} (Err (OutOfMemory the_refusal)) (Err (Trap trap))) (answer ≡ Err trap)
  memory_no_trap value e = (λ h. cc, λ h. cc)

  pub same_trap : (k : TrapKind) → answer ≡ Err k → ◌↔◌ (◌≡◌ {A = Result X OpError} (Err (Trap k)) (Err (Trap trap))) (answer ≡ Err trap)
  same_trap k e = (λ h. cc, λ h. cc)

-- so a call's traps are the operator's
pub exactly_traps : (answer : Answer Value) (r : Result Value OpError) → Answers answer r → (trap : TrapKind) → ◌↔◌ (r ≡ Err (Trap trap)) (answer ≡ Err trap)
exactly_traps answer (Ok value) h trap = value_no_trap answer trap value value h
exactly_traps answer (Err (Trap k)) h trap = same_trap answer trap k h
exactly_traps (Ok value) (Err (OutOfMemory _)) h trap = memory_no_trap (Ok value) trap value refl
exactly_traps (Err k) (Err (OutOfMemory _)) h trap = absurd h
