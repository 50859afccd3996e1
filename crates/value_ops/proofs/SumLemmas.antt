-- The values of a map, added up.
use Rattle.std.proofs.Common.{◌≡◌, ℕ, zero, suc, ◌+◌, ◌*◌, ◌<◌, ◌≤◌, ◌^◌, ℤ, pos, negsuc, neg_ℤ, ◌+ℤ◌, ◌≤ℤ◌, List, [], ◌∷◌, length, take, get_or, refl, ap, ◌∙◌, arith, w64, FitsSigned, to_z, of_z}
use Rattle.std.specs.Int.{w128}
use Rattle.std.proofs.lemmas.Int.{ints, to_z-of_z, fits_signed_from_abs}
use Rattle.value_ops.specs.Meanings.{total}

first_one : (v w : ℤ) → w ≡ v → (v +ℤ pos 0) ≡ (pos 0 +ℤ w)
first_one v w e = omega (arith, ints, e)

one_more : (v a b w : ℤ) → b ≡ (a +ℤ w) → (v +ℤ b) ≡ ((v +ℤ a) +ℤ w)
one_more v a b w e = omega (arith, ints, e)

total_suc : (m : List (ℤ × ℤ)) (i : ℕ) (d p : ℤ × ℤ) → i < length m → p ≡ get_or m i d → total (take (suc i) m) ≡ (total (take i m) +ℤ p.1)
total_suc [] i d p h e = absurd (omega arith)
total_suc (q ∷ m) zero d p h e = first_one q.1 p.1 (ap (λ x. x.1) e)
total_suc (q ∷ m) (suc i) d p h e = one_more q.1 (total (take i m)) (total (take (suc i) m)) p.1 (total_suc m i d p (omega arith) e)

pub total_more : (m : List (ℤ × ℤ)) (i : ℕ) (d : ℤ × ℤ) → i < length m → total (take (i + 1) m) ≡ (total (take i m) +ℤ (get_or m i d).1)
total_more m i d h = let one : i + 1 ≡ suc i = omega arith in ap (λ j. total (take j m)) one ∙ total_suc m i d (get_or m i d) h refl

int_high : (v : ℤ) → FitsSigned w64 v → v ≤ℤ pos (2 ^ 63)
int_high (pos n) f = omega (arith, ints, f.sfits)
int_high (negsuc n) f = omega (arith, ints)

int_low : (v : ℤ) → FitsSigned w64 v → neg_ℤ (pos (2 ^ 63)) ≤ℤ v
int_low (pos n) f = omega (arith, ints)
int_low (negsuc n) f = omega (arith, ints, f.sfits)

fits_between : (z : ℤ) (n : ℕ) → z ≤ℤ pos n → neg_ℤ (pos n) ≤ℤ z → n < 2 ^ 127 → FitsSigned w128 z
fits_between (pos m) n high low s = fits_signed_from_abs w128 (pos m) (omega (arith, ints, high, s))
fits_between (negsuc m) n high low s = fits_signed_from_abs w128 (negsuc m) (omega (arith, ints, low, s))

-- an int in 128 bits
pub int_plain : (v : ℤ) → FitsSigned w64 v → to_z w128 (of_z w128 v) ≡ v
int_plain v fits = to_z-of_z w128 v (fits_between v (2 ^ 63) (int_high v fits) (int_low v fits) (omega arith))

-- a sum of i ints and one more int, as 128 bits keep it
module _ (t v : ℤ) (i : ℕ) (high : t ≤ℤ pos (i * 2 ^ 63)) (low : neg_ℤ (pos (i * 2 ^ 63)) ≤ℤ t) (few : i ≤ 1000) (fits : FitsSigned w64 v) where
  pub sum_high : (t +ℤ v) ≤ℤ pos ((i + 1) * 2 ^ 63)
  sum_high = omega (arith, ints, high, int_high v fits)

  pub sum_low : neg_ℤ (pos ((i + 1) * 2 ^ 63)) ≤ℤ (t +ℤ v)
  sum_low = omega (arith, ints, low, int_low v fits)

  sum_fits : FitsSigned w128 (t +ℤ v)
  sum_fits = fits_between (t +ℤ v) ((i + 1) * 2 ^ 63) sum_high sum_low (omega (arith, few))

  pub kept_is : to_z w128 (of_z w128 (t +ℤ to_z w128 (of_z w128 v))) ≡ (t +ℤ v)
  kept_is = (λ j. to_z w128 (of_z w128 (t +ℤ int_plain v fits j))) ∙ to_z-of_z w128 (t +ℤ v) sum_fits
