-- What putting a pair gives.
use Rattle.std.proofs.Common.{◌≡◌, ◌≤◌, ℤ, Bool, true, false, not, List, length, is_some, Ok, Err, refl, sym, ap, ◌∙◌, arith, w64, FitsSigned, to_z, of_z}
use Rattle.std.proofs.lemmas.Bool.Decides.{nat_tests}
use Rattle.std.proofs.lemmas.Int.{to_z-of_z}
use Rattle.wave_base.specs.declared.trap.TrapKind.TheVariants.{Full}
use Rattle.wave_base.specs.Tables.{value_at, is_full, with_pair}
use Rattle.value_ops.specs.Meanings.{put}

not_true : (b : Bool) → (b ≡ true → ⊥) → b ≡ false
not_true true h = absurd (h refl)
not_true false h = refl

module _ (m : List (ℤ × ℤ)) (k v : ℤ) (fk : FitsSigned w64 k) (fv : FitsSigned w64 v) where
  pub put_full : is_full m (to_z w64 (of_z w64 k)) ≡ true → put m k v ≡ Err Full
  put_full h = let e : is_full m k ≡ true = ap (is_full m) (sym (to_z-of_z w64 k fk)) ∙ h in rw e refl

  pub put_room : (is_full m (to_z w64 (of_z w64 k)) ≡ true → ⊥) → put m k v ≡ Ok (with_pair m (to_z w64 (of_z w64 k)) (to_z w64 (of_z w64 v)))
  put_room h =
      let e : is_full m k ≡ false = not_true (is_full m k) (λ f. h (ap (is_full m) (to_z-of_z w64 k fk) ∙ f)) in
      rw e (sym (λ i. Ok (with_pair m (to_z-of_z w64 k fk i) (to_z-of_z w64 v fv i))))

-- with 1,000 pairs there is room for the keys that are there
pub no_room : (m : List (ℤ × ℤ)) (k : ℤ) (b : Bool) → 1000 ≤ length m → not b ≡ is_some (value_at m k) → b ≡ is_full m k
no_room m k b long h = rw (← h) (grind (arith, nat_tests))
