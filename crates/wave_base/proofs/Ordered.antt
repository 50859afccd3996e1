-- How two paths compare, step by step.
use Rattle.std.proofs.Common.{◌≡◌, ◌∙◌, ℕ, ◌+◌, ◌-◌, ◌<◌, ◌≤◌, List, [], ◌∷◌, length, get_or, drop, not, true, false, ◌==◌, ◌&&◌, refl, arith}
use Rattle.std.proofs.lemmas.Bool.Decides.{nat_tests}
use Rattle.std.proofs.lemmas.List.{drop_more, length-drop}
use Rattle.std.specs.Ordering.{nat_cmp, ordering_then, ordering_index}
use Rattle.std.specs.declared.cmp.Ordering.{Ordering}
use Rattle.std.specs.declared.cmp.Ordering.TheVariants.{Less, Equal, Greater}
use Rattle.wave_base.specs.declared.path.Step.{Step}
use Rattle.wave_base.specs.Paths.{step_cmp, path_cmp, step_eq, is_above}

pub cmp_more : (p q : List Step) (i : ℕ) (d : Step) → i < length p → i < length q → path_cmp (drop i p) (drop i q) ≡ ordering_then (step_cmp (get_or p i d) (get_or q i d)) (path_cmp (drop (i + 1) p) (drop (i + 1) q))
cmp_more p q i d l m = λ j. path_cmp (drop_more p i d l j) (drop_more q i d m j)

ended : (p q : List Step) → (0 < length p → 0 < length q → ⊥) → path_cmp p q ≡ nat_cmp (length p) (length q)
ended [] [] n = refl
ended [] (t ∷ q) n = grind (arith, nat_tests)
ended (s ∷ p) [] n = grind (arith, nat_tests)
ended (s ∷ p) (t ∷ q) n = absurd (n (omega arith) (omega arith))

less : (m n i : ℕ) → i ≤ m → i ≤ n → nat_cmp (m - i) (n - i) ≡ nat_cmp m n
less m n i l k = grind (arith, nat_tests)

-- where one of two paths is at its end, their lengths decide
pub cmp_end : (p q : List Step) (i : ℕ) → i ≤ length p → i ≤ length q → (i < length p → i < length q → ⊥) → path_cmp (drop i p) (drop i q) ≡ nat_cmp (length p) (length q)
cmp_end p q i l m n =
    ended (drop i p) (drop i q) (λ x y. n (omega (arith, length-drop i p)) (omega (arith, length-drop i q)))
    ∙ (λ j. nat_cmp (length-drop i p j) (length-drop i q j))
    ∙ less (length p) (length q) i l m

-- steps that are not equal decide, and behind equal ones the rest does
pub decided : (o r : Ordering) → not (ordering_index o == 1) ≡ true → o ≡ ordering_then o r
decided Less r n = refl
decided Equal r n = cc
decided Greater r n = refl

pub tied : (o r : Ordering) → not (ordering_index o == 1) ≡ false → r ≡ ordering_then o r
tied Less r n = cc
tied Equal r n = refl
tied Greater r n = cc

-- a path begins another where their steps at a place are the same and the rest of it begins the rest
pub above_more : (p q : List Step) (i : ℕ) (d : Step) → i < length p → i < length q → is_above (drop i p) (drop i q) ≡ (step_eq (get_or p i d) (get_or q i d) && is_above (drop (i + 1) p) (drop (i + 1) q))
above_more p q i d l m = λ j. is_above (drop_more p i d l j) (drop_more q i d m j)
