-- The rows that give maps: what they give, and that memory may be wanting for it.
use Rattle.std.proofs.Common.{◌≡◌, ℤ, Bool, true, false, List, [], ◌∷◌, ◌↔◌, if◌then◌else◌, Result, Ok, Err, refl, ap}
use Rattle.wave_base.specs.declared.trap.TrapKind.{TrapKind}
use Rattle.wave_base.specs.declared.trap.TrapKind.TheVariants.{Full}
use Rattle.wave_base.specs.declared.value.Kind.TheVariants as k
use Rattle.wave_base.specs.declared.value.Value.{Value}
use Rattle.wave_base.specs.declared.value.Value.TheVariants.{Int, Map}
use Rattle.wave_base.specs.Tables.{is_full, with_pair, without}
use Rattle.value_ops.specs.declared.error.OpError.{OpError}
use Rattle.value_ops.specs.declared.error.OpError.TheVariants.{Trap, OutOfMemory}
use Rattle.value_ops.specs.Answers.{Answers, MayWantMemory}
use Rattle.value_ops.specs.Kinds.{Answer, answer_of}
use Rattle.value_ops.specs.Operators.{apply_row, operators}
use Rattle.value_ops.proofs.AnswerLemmas.{may_want_map}

module _ (m : List (ℤ × ℤ)) (key : ℤ) where
  pub cut_gives : apply_row 21 (Map m ∷ Int key ∷ []) ≡ Ok (Map (without m key))
  unfolding apply_row operators
  cut_gives = refl

  pub cut_may : MayWantMemory (apply_row 21 (Map m ∷ Int key ∷ []))
  cut_may = may_want_map (apply_row 21 (Map m ∷ Int key ∷ [])) (without m key) cut_gives

  module _ (value : ℤ) where
    abbrev put_row : Answer Value
    put_row = apply_row 20 (Map m ∷ Int key ∷ Int value ∷ [])

    pub put_traps : is_full m key ≡ true → put_row ≡ Err Full
    unfolding apply_row operators
    put_traps h = ap (λ (b : Bool). answer_of k.Map (if b then Err Full else Ok (with_pair m key value))) h

    pub put_may : is_full m key ≡ false → MayWantMemory put_row
    unfolding apply_row operators
    put_may h = may_want_map put_row (with_pair m key value) (ap (λ (b : Bool). answer_of k.Map (if b then Err Full else Ok (with_pair m key value))) h)

-- what a call answers whose traps are the operator's
pub answers_err : (answer : Answer Value) (e : OpError) → ((trap : TrapKind) → ◌↔◌ (◌≡◌ {A = Result (Unit {0}) OpError} (Err e) (Err (Trap trap))) (answer ≡ Err trap)) → MayWantMemory answer → Answers answer (Err e)
answers_err answer (Trap trap) h may = (h trap).0 refl
answers_err answer (OutOfMemory _) h may = may
