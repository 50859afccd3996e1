-- The digits of a greater number are more, or the first that differs is greater.
use Rattle.std.proofs.Common.{◌≡◌, ◌⊎◌, inl, inr, ◌+◌, ◌<◌, ◌≤◌, ◌^◌, ◌/◌, ◌%◌, ℕ, zero, suc, ℤ, pos, negsuc, true, false, cond, List, [], ◌∷◌, ◌++◌, length, get_or, FitsSigned, w64, refl, sym, ap, subst, ◌∙◌, length-append, arith}
use Rattle.std.specs.Prelude.{◌==◌, ◌&&◌, ◌||◌, not, nat_le, nat_lt}
use Rattle.std.specs.Char.{is_ascii_digit}
use Rattle.std.specs.Cmp.Lexicographic.{slice_cmp}
use Rattle.std.specs.Fmt.{decimal, signed_decimal}
use Rattle.std.specs.List.{list_all}
use Rattle.std.specs.Ordering.{nat_cmp, int_cmp, ordering_then}
use Rattle.std.specs.declared.cmp.Ordering.{Ordering}
use Rattle.std.specs.declared.cmp.Ordering.TheVariants.{Less, Equal, Greater}
use Rattle.std.proofs.lemmas.Bool.{and_parts, or_left, or_right, cases_lt}
use Rattle.std.proofs.lemmas.Bool.Decides.{nat_tests}
use Rattle.std.proofs.lemmas.Cmp.{int_ranked}
use Rattle.std.proofs.lemmas.Int.{ints}
use Rattle.std.proofs.lemmas.Fmt.{decimal_digit, decimal_step, first_decimal, digits_decimal, decimal_nonempty}
use Rattle.wave_text.proofs.NumberLemmas.{own}
use Rattle.snapshot_text.specs.Forms.{is_plain_digits, is_zero, is_plain, is_fewer, has_minus, is_below}
use Rattle.snapshot_text.specs.Shots.{is_less}

-- ---- digits

pub record AreFewer (cs ds : List ℕ) : Type 0 where
  pub shorter : (length cs < length ds) ⊎ ((length cs ≡ length ds) × (slice_cmp nat_cmp cs ds ≡ Less))

pub fewer_is : (cs ds : List ℕ) → AreFewer cs ds → is_fewer cs ds ≡ true
fewer_is cs ds f = by_length f.shorter
  where
    by_length : (length cs < length ds) ⊎ ((length cs ≡ length ds) × (slice_cmp nat_cmp cs ds ≡ Less)) → is_fewer cs ds ≡ true
    by_length (inl h) = (let test : nat_lt (length cs) (length ds) ≡ true = grind (arith, nat_tests) in or_left (nat_lt (length cs) (length ds)) (length cs == length ds && is_less (slice_cmp nat_cmp cs ds)) test)
    by_length (inr h) =
        let same : (length cs == length ds) ≡ true = grind (arith, nat_tests, h.0) in
        or_right (nat_lt (length cs) (length ds)) (length cs == length ds && is_less (slice_cmp nat_cmp cs ds)) (λ i. same i && is_less (h.1 i))

less_nat : (a b : ℕ) → a < b → nat_cmp a b ≡ Less
less_nat a b h = (let test : nat_lt a b ≡ true = grind (arith, nat_tests) in ap (λ t. cond t Less (cond (a == b) Equal Greater)) test)

same_nat : (a : ℕ) → nat_cmp a a ≡ Equal
same_nat a = (let test : nat_lt a a ≡ false = grind (arith, nat_tests) in let same : a == a ≡ true = grind (arith, nat_tests) in λ i. cond (test i) Less (cond (same i) Equal Greater))

-- one digit more behind
less_front : (cs ds xs ys : List ℕ) → length cs ≡ length ds → slice_cmp nat_cmp cs ds ≡ Less → slice_cmp nat_cmp (cs ++ xs) (ds ++ ys) ≡ Less
less_front [] [] xs ys e h = cc
less_front [] (d ∷ ds) xs ys e h = absurd (omega (arith, e))
less_front (c ∷ cs) [] xs ys e h = absurd (omega (arith, e))
less_front (c ∷ cs) (d ∷ ds) xs ys e h = by_order (less_front cs ds xs ys (omega (arith, e))) (nat_cmp c d) h
  where
    by_order : (slice_cmp nat_cmp cs ds ≡ Less → slice_cmp nat_cmp (cs ++ xs) (ds ++ ys) ≡ Less) → (o : Ordering) → ordering_then o (slice_cmp nat_cmp cs ds) ≡ Less → ordering_then o (slice_cmp nat_cmp (cs ++ xs) (ds ++ ys)) ≡ Less
    by_order more Less k = refl
    by_order more Equal k = more k
    by_order more Greater k = cc

less_last : (cs : List ℕ) (a b : ℕ) → a < b → slice_cmp nat_cmp (cs ++ a ∷ []) (cs ++ b ∷ []) ≡ Less
less_last [] a b h = ap (λ o. ordering_then o Equal) (less_nat a b h)
less_last (c ∷ cs) a b h = ap (λ o. ordering_then o (slice_cmp nat_cmp (cs ++ a ∷ []) (cs ++ b ∷ []))) (same_nat c) ∙ less_last cs a b h

more_front : (cs ds : List ℕ) (a b : ℕ) → AreFewer cs ds → AreFewer (cs ++ a ∷ []) (ds ++ b ∷ [])
more_front cs ds a b f = by_length f.shorter
  where
    by_length : (length cs < length ds) ⊎ ((length cs ≡ length ds) × (slice_cmp nat_cmp cs ds ≡ Less)) → AreFewer (cs ++ a ∷ []) (ds ++ b ∷ [])
    by_length (inl h) = record { shorter = inl (omega (arith, h, length-append cs (a ∷ []), length-append ds (b ∷ []))) }
    by_length (inr h) = record { shorter = inr (omega (arith, h.0, length-append cs (a ∷ []), length-append ds (b ∷ [])), less_front cs ds (a ∷ []) (b ∷ []) h.0 h.1) }

-- ---- numbers

fewer_by : (fuel m n : ℕ) → n < fuel → n < 2 ^ 64 → m < n → AreFewer (decimal m) (decimal n)
fewer_by zero m n f w h = absurd (omega arith)
fewer_by (suc fuel) m n f w h = by_size (λ a b p q r. fewer_by fuel a b p q r) (cases_lt n 10) (cases_lt m 10)
  where
    wide : m < 2 ^ 64
    wide = omega arith

    by_tens : ((a b : ℕ) → b < fuel → b < 2 ^ 64 → a < b → AreFewer (decimal a) (decimal b)) → 10 ≤ m → 10 ≤ n → (m / 10 < n / 10) ⊎ (n / 10 ≤ m / 10) → AreFewer (decimal m) (decimal n)
    by_tens fewer p q (inl k) =
        let front = fewer (m / 10) (n / 10) (omega arith) (omega arith) k in
        subst (λ z. AreFewer z (decimal n)) (sym (decimal_step m p wide)) (subst (AreFewer (decimal (m / 10) ++ (48 + m % 10) ∷ [])) (sym (decimal_step n q w)) (more_front (decimal (m / 10)) (decimal (n / 10)) (48 + m % 10) (48 + n % 10) front))
    by_tens fewer p q (inr k) =
        let same : m / 10 ≡ n / 10 = omega arith in
        let last : 48 + m % 10 < 48 + n % 10 = omega (arith, same) in
        let left : decimal m ≡ decimal (n / 10) ++ (48 + m % 10) ∷ [] = decimal_step m p wide ∙ ap (λ t. decimal t ++ (48 + m % 10) ∷ []) same in
        let count : length (decimal m) ≡ length (decimal n) =
        omega (arith, ap length left, ap length (decimal_step n q w), length-append (decimal (n / 10)) ((48 + m % 10) ∷ []), length-append (decimal (n / 10)) ((48 + n % 10) ∷ [])) in
        record { shorter = inr (count, (λ i. slice_cmp nat_cmp (left i) (decimal_step n q w i)) ∙ less_last (decimal (n / 10)) (48 + m % 10) (48 + n % 10) last) }

    by_size : ((a b : ℕ) → b < fuel → b < 2 ^ 64 → a < b → AreFewer (decimal a) (decimal b)) → (n < 10) ⊎ (10 ≤ n) → (m < 10) ⊎ (10 ≤ m) → AreFewer (decimal m) (decimal n)
    by_size fewer (inl q) (inl p) =
        let digits : slice_cmp nat_cmp (decimal m) (decimal n) ≡ ordering_then (nat_cmp (48 + m) (48 + n)) Equal = λ i. slice_cmp nat_cmp (decimal_digit m p i) (decimal_digit n q i) in
        let less : 48 + m < 48 + n = omega arith in
        record { shorter = inr (omega (arith, ap length (decimal_digit m p), ap length (decimal_digit n q)), digits ∙ ap (λ o. ordering_then o Equal) (less_nat (48 + m) (48 + n) less)) }
    by_size fewer (inl q) (inr p) = absurd (omega arith)
    by_size fewer (inr q) (inl p) =
        let tens : n / 10 < 2 ^ 64 = omega arith in
        record { shorter = inl (omega (arith, ap length (decimal_digit m p), ap length (decimal_step n q w), length-append (decimal (n / 10)) ((48 + n % 10) ∷ []), decimal_nonempty (n / 10) tens)) }
    by_size fewer (inr q) (inr p) = by_tens fewer p q (cases_lt (m / 10) (n / 10))

pub decimals_fewer : (m n : ℕ) → n < 2 ^ 64 → m < n → AreFewer (decimal m) (decimal n)
decimals_fewer m n w h = fewer_by (suc n) m n (omega arith) w h

-- ---- numbers as they are written are plain

not_minus : (b : ℕ) (bs : List ℕ) → list_all is_ascii_digit (b ∷ bs) ≡ true → b == 45 ≡ false
not_minus b bs h = grind (arith, nat_tests)

plain_list : (ds : List ℕ) → list_all is_ascii_digit ds ≡ true → 0 < length ds → (1 < length ds → 48 < get_or ds 0 0) → is_plain_digits ds ≡ true
plain_list [] h some f = absurd (omega arith)
plain_list (b ∷ []) h some f = (and_parts (is_ascii_digit b) true h).0
plain_list (b ∷ c ∷ bs) h some f =
    let k = and_parts (is_ascii_digit b) (list_all is_ascii_digit (c ∷ bs)) h in
    let high : 48 < b = f (omega arith) in
    let first : (nat_le 49 b && nat_le b 57) ≡ true = high_first b k.0 high in
    λ i. first i && k.1 i
  where
    high_first : (b : ℕ) → is_ascii_digit b ≡ true → 48 < b → (nat_le 49 b && nat_le b 57) ≡ true
    high_first b h k = grind (arith, nat_tests)

pub plain_decimal : (n : ℕ) → n < 2 ^ 64 → is_plain_digits (decimal n) ≡ true
plain_decimal n w = plain_list (decimal n) (digits_decimal own n w) (decimal_nonempty n w) (by_size (cases_lt 0 n))
  where
    by_size : (0 < n) ⊎ (n ≤ 0) → 1 < length (decimal n) → 48 < get_or (decimal n) 0 0
    by_size (inl h) k = first_decimal n h w
    by_size (inr h) k = (let small : n < 10 = omega arith in absurd (omega (arith, ap length (decimal_digit n small))))

plain_as : (ds : List ℕ) → list_all is_ascii_digit ds ≡ true → is_plain_digits ds ≡ true → is_plain ds ≡ true
plain_as [] d h = h
plain_as (b ∷ bs) d h = ap (λ t. cond t (is_plain_digits bs && not (is_zero bs)) (is_plain_digits (b ∷ bs))) (not_minus b bs d) ∙ h

not_zero : (ds : List ℕ) → 48 < get_or ds 0 0 → not (is_zero ds) ≡ true
not_zero [] h = refl
not_zero (b ∷ []) h = grind (arith, nat_tests)
not_zero (b ∷ c ∷ bs) h = refl

pub plain_again : (z : ℤ) → FitsSigned w64 z → is_plain (signed_decimal z) ≡ true
plain_again (pos n) h = (let w : n < 2 ^ 64 = omega (arith, h.sfits) in plain_as (decimal n) (digits_decimal own n w) (plain_decimal n w))
plain_again (negsuc n) h =
    let w : suc n < 2 ^ 64 = omega (arith, h.sfits) in
    λ i. plain_decimal (suc n) w i && not_zero (decimal (suc n)) (first_decimal (suc n) (omega arith) w) i

-- ---- and in their order

no_sign : (ds : List ℕ) → list_all is_ascii_digit ds ≡ true → has_minus ds ≡ false
no_sign [] d = refl
no_sign (b ∷ bs) d = not_minus b bs d

unsigned : (n : ℕ) → n < 2 ^ 64 → has_minus (decimal n) ≡ false
unsigned n w = no_sign (decimal n) (digits_decimal own n w)

behind_sign : (cs ds : List ℕ) → AreFewer cs ds → AreFewer (45 ∷ cs) (45 ∷ ds)
behind_sign cs ds f = by_length f.shorter
  where
    by_length : (length cs < length ds) ⊎ ((length cs ≡ length ds) × (slice_cmp nat_cmp cs ds ≡ Less)) → AreFewer (45 ∷ cs) (45 ∷ ds)
    by_length (inl h) = record { shorter = inl (omega arith) }
    by_length (inr h) = record { shorter = inr (omega (arith, h.0), h.1) }

pos_less : (m n : ℕ) → int_cmp (pos m) (pos n) ≡ Less → m < n
pos_less m n h = (let less = int_ranked (pos m) (pos n) Less (sym h) in omega (arith, ints))

neg_less : (m n : ℕ) → int_cmp (negsuc m) (negsuc n) ≡ Less → suc n < suc m
neg_less m n h = (let less = int_ranked (negsuc m) (negsuc n) Less (sym h) in omega (arith, ints))

not_less : (m n : ℕ) → int_cmp (pos m) (negsuc n) ≡ Less → ⊥
not_less m n h = (let less = int_ranked (pos m) (negsuc n) Less (sym h) in omega (arith, ints))

pub below_again : (y z : ℤ) → FitsSigned w64 y → FitsSigned w64 z → int_cmp y z ≡ Less → is_below (signed_decimal y) (signed_decimal z) ≡ true
below_again (pos m) (pos n) f g h =
    let wide : n < 2 ^ 64 = omega (arith, g.sfits) in
    let less : m < n = pos_less m n h in
    let w : m < 2 ^ 64 = omega arith in
    (λ i. cond (unsigned m w i) (not (has_minus (decimal n)) || is_fewer (decimal n) (decimal m)) (not (unsigned n wide i) && is_fewer (decimal m) (decimal n))) ∙ fewer_is (decimal m) (decimal n) (decimals_fewer m n wide less)
below_again (pos m) (negsuc n) f g h = absurd (not_less m n h)
below_again (negsuc m) (pos n) f g h = (let w : n < 2 ^ 64 = omega (arith, g.sfits) in ap (λ t. not t || is_fewer (decimal n) (45 ∷ decimal (suc m))) (unsigned n w))
below_again (negsuc m) (negsuc n) f g h =
    let wide : suc m < 2 ^ 64 = omega (arith, f.sfits) in
    fewer_is (45 ∷ decimal (suc n)) (45 ∷ decimal (suc m)) (behind_sign (decimal (suc n)) (decimal (suc m)) (decimals_fewer (suc n) (suc m) wide (neg_less m n h)))
