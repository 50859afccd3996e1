-- So many jobs come of one that creates few.
use Rattle.std.proofs.Common.{◌≡◌, ℕ, zero, suc, ◌+◌, ◌*◌, ◌<◌, ◌≤◌, List, [], ◌∷◌, length, refl, sym, subst, arith}
use Rattle.std.proofs.lemmas.List.Elements.{recursion_from_All}
use Rattle.std.proofs.lemmas.List.Sums.{sum_by-cons}
use Rattle.std.proofs.Math.Nat.{mul-le-mul_left, mul-le-mul_right, suc-mul}
use Rattle.std.specs.List.{sum_by, AllByRecursion}
use Rattle.wave_states.specs.Kinds.{Kind}
use Rattle.wave_states.specs.Alone.{run_alone}
use Rattle.wave_theory.specs.Generations.{family, Families}

-- of at most four with four generations to come
of_a_request : family 4 4 ≡ 341
of_a_request = refl

one_at_least : (most n : ℕ) → 1 ≤ family most n
one_at_least most zero = omega arith
one_at_least most (suc n) = some (most * family most n)
  where
    some : (a : ℕ) → 1 ≤ suc a
    some a = omega arith

grows : (most a c : ℕ) → a ≤ c → family most a ≤ family most c
grows most zero c l = one_at_least most c
grows most (suc a) zero l = absurd (omega (arith, l))
grows most (suc a) (suc c) l = over (most * family most a) (most * family most c) (mul-le-mul_left most (grows most a c (less a c l)))
  where
    less : (a c : ℕ) → suc a ≤ suc c → a ≤ c
    less a c l = omega (arith, l)

    over : (x y : ℕ) → x ≤ y → suc x ≤ suc y
    over x y l = omega (arith, l)

module _ {J : Type 0} (most : ℕ) (to_come : J → ℕ) where
  all_of : (d : ℕ) (js : List J) → AllByRecursion (λ i. to_come i < suc d) js → sum_by (λ i. family most (to_come i)) js ≤ length js * family most d
  all_of d [] h = omega arith
  all_of d (j ∷ js) h = subst (λ a. a ≤ length (j ∷ js) * family most d) (sym (sum_by-cons (λ i. family most (to_come i)) j js)) (both (family most (to_come j)) (family most d) (length js) _ (grows most (to_come j) d (under (to_come j) d h.0)) (all_of d js h.1))
    where
      under : (a c : ℕ) → a < suc c → a ≤ c
      under a c l = omega (arith, l)

      both : (x y n u : ℕ) → x ≤ y → u ≤ n * y → x + u ≤ suc n * y
      both x y n u l m = subst (λ a. x + u ≤ a) (sym (suc-mul n y)) (sum x y u (n * y) l m)
        where
          sum : (x y u v : ℕ) → x ≤ y → u ≤ v → x + u ≤ v + y
          sum x y u v l m = omega (arith, l, m)

  worth_is : (d : ℕ) (js : List J) → length js ≤ most → AllByRecursion (λ i. to_come i < d) js → suc (sum_by (λ i. family most (to_come i)) js) ≤ family most d
  worth_is zero [] l h = omega arith
  worth_is zero (j ∷ js) l h = absurd (omega (arith, h.0))
  worth_is (suc d) js l h = over _ _ _ (all_of d js h) (mul-le-mul_right (family most d) l)
    where
      over : (x y z : ℕ) → x ≤ y → y ≤ z → suc x ≤ suc z
      over x y z l m = omega (arith, l, m)

pub families : {A F R J : Type 0} (kind : Kind A F R J) → Families kind
families kind most to_come creates j ticket tree is_job fits ordered =
    let c = creates j ticket tree is_job fits ordered in
    worth_is most to_come (to_come j) (kind.system.created (run_alone kind.system ticket tree j).result) c.few (recursion_from_All (λ i. to_come i < to_come j) (kind.system.created (run_alone kind.system ticket tree j).result) c.fewer)
