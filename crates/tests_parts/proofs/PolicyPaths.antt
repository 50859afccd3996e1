-- The contexts of tests of policies: halls below the root, with the keys 0, 1 and so on.
use Rattle.std.proofs.Common.{◌≡◌, ◌+◌, ◌*◌, ◌<◌, ◌≤◌, ℕ, zero, suc, pos, List, [], ◌∷◌, ◌++◌, sum, refl, sym, ap, arith}
use Rattle.std.proofs.Math.Facts.{yes_ltb}
use Rattle.std.proofs.lemmas.List.Sums.{sum_by_push}
use Rattle.std.specs.Cmp.{int_cmp_is}
use Rattle.std.specs.declared.cmp.Ordering.{Ordering}
use Rattle.std.specs.declared.cmp.Ordering.TheVariants.{Less}
use Rattle.std.specs.List.{AllByRecursion}
use Rattle.std.specs.List.Sorted.{IsStrictlySortedBy}
use Rattle.std.specs.Ordering.{ordering_then, nat_cmp}
use Rattle.wave_base.specs.declared.path.Path.{Path}
use Rattle.wave_base.specs.Paths.{path_cmp}

abbrev pub hall : ℕ → Path
hall key = record { class = record { 0 = 1 }; key = pos key } ∷ []

-- so many, from 0
pub halls : ℕ → List Path
halls zero = []
halls (suc n) = halls n ++ hall n ∷ []

hall_below : (k n : ℕ) → k < n → path_cmp (hall k) (hall n) ≡ Less
hall_below k n l = ap (λ o. ordering_then (ordering_then (nat_cmp 1 1) o) (path_cmp [] [])) (sym (int_cmp_is (pos k) (pos n) Less (record { lt = yes_ltb l })))

module _ {K : Type 0} (c : K → K → Ordering) where
  all_push : (P : K → Type 0) (xs : List K) (y : K) → AllByRecursion P xs → P y → AllByRecursion P (xs ++ y ∷ [])
  all_push P [] y h k = (k, tt)
  all_push P (x ∷ xs) y h k = (h.0, all_push P xs y h.1 k)

  sorted_push : (xs : List K) (y : K) → IsStrictlySortedBy c xs → AllByRecursion (λ x. c x y ≡ Less) xs → IsStrictlySortedBy c (xs ++ y ∷ [])
  unfolding IsStrictlySortedBy
  sorted_push [] y h k = (tt, tt)
  sorted_push (x ∷ xs) y h k = (all_push (λ z. c x z ≡ Less) xs y h.0 k.0, sorted_push xs y h.1 k.1)

all_below : (n m : ℕ) → n ≤ m → AllByRecursion (λ p. path_cmp p (hall m) ≡ Less) (halls n)
unfolding halls
all_below zero m l = tt
all_below (suc n) m l = all_push path_cmp (λ p. path_cmp p (hall m) ≡ Less) (halls n) (hall n) (all_below n m (omega arith)) (hall_below n m (omega arith))

pub halls_rise : (n : ℕ) → IsStrictlySortedBy path_cmp (halls n)
unfolding halls IsStrictlySortedBy
halls_rise zero = tt
halls_rise (suc n) = sorted_push path_cmp (halls n) (hall n) (halls_rise n) (all_below n n (omega arith))

pub no_halls : halls 0 ≡ []
unfolding halls
no_halls = refl

pub one_hall : (n : ℕ) → halls (n + 1) ≡ halls n ++ hall n ∷ []
unfolding halls
one_hall n = (let next : n + 1 ≡ suc n = omega arith in ap halls next)

-- ---- loads of at most 9

pub small_more : (xs ys : List ℕ) (y n : ℕ) → ys ≡ xs ++ y ∷ [] → sum xs ≤ 9 * n → y ≤ 9 → sum ys ≤ 9 * (n + 1)
small_more xs ys y n e h k = omega (arith, ap sum e, sum_by_push (λ (x : ℕ). x) xs y, h, k)
