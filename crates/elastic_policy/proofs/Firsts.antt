-- The first of the greatest, and of the least, among some numbers.
use Rattle.std.proofs.Common.{◌≡◌, ◌≤◌, ◌<◌, ℕ, zero, suc, true, false, cond, nat_lt, refl, ap, subst, ◌∙◌, arith}
use Rattle.std.proofs.lemmas.Bool.{ltb-true, ltb-false}
use Rattle.elastic_policy.specs.Moves.{heavier_host, lighter_host, first_greatest, first_least}

pub heavier_is : (P : ℕ → Type 0) (f : ℕ → ℕ) (i j : ℕ) → (f i < f j → P j) → (f j ≤ f i → P i) → P (heavier_host f i j)
heavier_is P f i j up down =
    elim (nat_lt (f i) (f j)) as (λ t. nat_lt (f i) (f j) ≡ t → P (cond t j i)) [
      | true ↦ λ e. up (ltb-true (f i) (f j) e)
      | false ↦ λ e. down (ltb-false (f i) (f j) e)
    ] refl

pub lighter_is : (P : ℕ → Type 0) (f : ℕ → ℕ) (i j : ℕ) → (f j < f i → P j) → (f i ≤ f j → P i) → P (lighter_host f i j)
lighter_is P f i j up down =
    elim (nat_lt (f j) (f i)) as (λ t. nat_lt (f j) (f i) ≡ t → P (cond t j i)) [
      | true ↦ λ e. up (ltb-true (f j) (f i) e)
      | false ↦ λ e. down (ltb-false (f j) (f i) e)
    ] refl

pub greatest_within : (f : ℕ → ℕ) (n : ℕ) → first_greatest f (suc n) < suc n
greatest_within f zero = heavier_is (λ k. k < 1) f 0 0 (λ h. omega arith) (λ h. omega arith)
greatest_within f (suc n) = let before = greatest_within f n in heavier_is (λ k. k < suc (suc n)) f (first_greatest f (suc n)) (suc n) (λ h. omega arith) (λ h. omega arith)

pub least_within : (f : ℕ → ℕ) (n : ℕ) → first_least f (suc n) < suc n
least_within f zero = lighter_is (λ k. k < 1) f 0 0 (λ h. omega arith) (λ h. omega arith)
least_within f (suc n) = let before = least_within f n in lighter_is (λ k. k < suc (suc n)) f (first_least f (suc n)) (suc n) (λ h. omega arith) (λ h. omega arith)

pub greatest_below : (f : ℕ → ℕ) (n : ℕ) → 1 ≤ n → first_greatest f n < n
greatest_below f zero h = absurd (omega arith)
greatest_below f (suc n) h = greatest_within f n

pub least_below : (f : ℕ → ℕ) (n : ℕ) → 1 ≤ n → first_least f n < n
least_below f zero h = absurd (omega arith)
least_below f (suc n) h = least_within f n

last_or_before : (P : ℕ → Type 0) (n k : ℕ) → k < suc n → (k < n → P k) → P n → P k
last_or_before P n k h before last =
    elim (nat_lt k n) as (λ t. nat_lt k n ≡ t → P k) [
      | true ↦ λ e. before (ltb-true k n e)
      | false ↦ λ e. let below = ltb-false k n e in let same : n ≡ k = omega arith in subst P same last
    ] refl

pub greatest_is : (f : ℕ → ℕ) (n k : ℕ) → k < n → f k ≤ f (first_greatest f n)
greatest_is f zero k h = absurd (omega arith)
greatest_is f (suc n) k h =
    last_or_before (λ i. f i ≤ f (first_greatest f (suc n))) n k h
    (λ b. let before = greatest_is f n k b in heavier_is (λ i. f k ≤ f i) f (first_greatest f n) n (λ y. omega arith) (λ y. omega arith))
    (heavier_is (λ i. f n ≤ f i) f (first_greatest f n) n (λ y. omega arith) (λ y. y))

pub least_is : (f : ℕ → ℕ) (n k : ℕ) → k < n → f (first_least f n) ≤ f k
least_is f zero k h = absurd (omega arith)
least_is f (suc n) k h =
    last_or_before (λ i. f (first_least f (suc n)) ≤ f i) n k h
    (λ b. let before = least_is f n k b in lighter_is (λ i. f i ≤ f k) f (first_least f n) n (λ y. omega arith) (λ y. omega arith))
    (lighter_is (λ i. f i ≤ f n) f (first_least f n) n (λ y. omega arith) (λ y. y))

greatest_upto : (f : ℕ → ℕ) (n : ℕ) → first_greatest f n ≤ n
greatest_upto f zero = omega arith
greatest_upto f (suc n) = let h = greatest_within f n in omega arith

least_upto : (f : ℕ → ℕ) (n : ℕ) → first_least f n ≤ n
least_upto f zero = omega arith
least_upto f (suc n) = let h = least_within f n in omega arith

pub greatest_same : (f g : ℕ → ℕ) (n : ℕ) → ((k : ℕ) → k < n → f k ≡ g k) → first_greatest f n ≡ first_greatest g n
greatest_same f g zero h = refl
greatest_same f g (suc n) h =
    let e = greatest_same f g n (λ k b. h k (omega arith)) in
    let upto = greatest_upto f n in
    let one : f (first_greatest f n) ≡ g (first_greatest g n) = h (first_greatest f n) (omega arith) ∙ ap g e in
    let two : f n ≡ g n = h n (omega arith) in
    ap (λ (i : ℕ). cond (nat_lt (f (first_greatest f n)) (f n)) n i) e ∙ ap (λ (i : ℕ). cond (nat_lt i (f n)) n (first_greatest g n)) one ∙ ap (λ (i : ℕ). cond (nat_lt (g (first_greatest g n)) i) n (first_greatest g n)) two

pub least_same : (f g : ℕ → ℕ) (n : ℕ) → ((k : ℕ) → k < n → f k ≡ g k) → first_least f n ≡ first_least g n
least_same f g zero h = refl
least_same f g (suc n) h =
    let e = least_same f g n (λ k b. h k (omega arith)) in
    let upto = least_upto f n in
    let one : f (first_least f n) ≡ g (first_least g n) = h (first_least f n) (omega arith) ∙ ap g e in
    let two : f n ≡ g n = h n (omega arith) in
    ap (λ (i : ℕ). cond (nat_lt (f n) (f (first_least f n))) n i) e ∙ ap (λ (i : ℕ). cond (nat_lt (f n) i) n (first_least g n)) one ∙ ap (λ (i : ℕ). cond (nat_lt i (g (first_least g n))) n (first_least g n)) two
