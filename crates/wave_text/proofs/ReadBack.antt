-- A whole number that was written is read back.
use Rattle.std.proofs.Common.{◌≡◌, ◌<◌, ◌≤◌, ◌^◌, ℕ, suc, ℤ, pos, negsuc, true, false, cond, List, [], ◌∷◌, length, Some, None, FitsSigned, w64, sym, ap, subst, ◌∙◌, arith}
use Rattle.std.specs.Prelude.{◌==◌, nat_lt, nat_le, neg_ℤ}
use Rattle.std.specs.Fmt.{decimal, signed_decimal}
use Rattle.std.proofs.lemmas.Bool.Decides.{nat_tests}
use Rattle.std.proofs.lemmas.Fmt.{digits_decimal, digits_value-decimal, decimal_nonempty, length-decimal-le}
use Rattle.wave_base.specs.Names.{is_digits}
use Rattle.wave_text.specs.Numbers.{number_of, positive_int, negative_int, whole_of}
use Rattle.wave_text.specs.Words.{is_whole, without_minus}
use Rattle.wave_text.proofs.NumberLemmas.{AreDigits, own, lt_test, le_test, first_digit}

from_all : (ds : List ℕ) → AreDigits ds → 0 < length ds → is_digits ds ≡ true
from_all [] h some = absurd (omega arith)
from_all (b ∷ bs) h some = h

digits_again : (n : ℕ) → n < 2 ^ 64 → is_digits (decimal n) ≡ true
digits_again n h = from_all (decimal n) (digits_decimal own n h) (decimal_nonempty n h)

no_minus : (b : ℕ) (bs : List ℕ) → is_digits (b ∷ bs) ≡ true → b == 45 ≡ false
no_minus b bs h = (let other = (first_digit b bs h).1 in grind (arith, nat_tests))

plain_again : (ds : List ℕ) (n : ℕ) → is_digits ds ≡ true → number_of ds ≡ n → n < 2 ^ 63 → length ds ≤ 19
    → (is_whole ds ≡ true) × (whole_of ds ≡ Some (pos n)) × (length (without_minus ds) ≤ 19)
plain_again [] n h v below short = cc
plain_again (b ∷ bs) n h v below short =
    let plain = no_minus b bs h in
    let fits : nat_lt (number_of (b ∷ bs)) (2 ^ 63) ≡ true = ap (λ k. nat_lt k (2 ^ 63)) v ∙ lt_test n (2 ^ 63) below in
    let same : without_minus (b ∷ bs) ≡ b ∷ bs = ap (λ t. cond t bs (b ∷ bs)) plain in (
      ap is_digits same ∙ h,
      ap (λ t. cond t (negative_int (number_of bs)) (positive_int (number_of (b ∷ bs)))) plain ∙ ap (λ t. cond t (Some (pos (number_of (b ∷ bs)))) None) fits ∙ ap (λ k. Some (pos k)) v,
      subst (λ ds. length ds ≤ 19) (sym same) short,
    )

pub whole_again : (z : ℤ) → FitsSigned w64 z → (is_whole (signed_decimal z) ≡ true) × (whole_of (signed_decimal z) ≡ Some z) × (length (without_minus (signed_decimal z)) ≤ 19)
whole_again (pos n) h =
    let below : n < 2 ^ 63 = h.sfits in
    let wide : n < 2 ^ 64 = omega arith in
    plain_again (decimal n) n (digits_again n wide) (digits_value-decimal own n wide) below (length-decimal-le 19 n (omega arith) (omega arith) wide)
whole_again (negsuc n) h =
    let below : n < 2 ^ 63 = h.sfits in
    let wide : suc n < 2 ^ 64 = omega arith in
    let v : number_of (decimal (suc n)) ≡ suc n = digits_value-decimal own (suc n) wide in
    let fits : nat_le (number_of (decimal (suc n))) (2 ^ 63) ≡ true = ap (λ k. nat_le k (2 ^ 63)) v ∙ le_test (suc n) (2 ^ 63) (omega arith) in (
      digits_again (suc n) wide,
      ap (λ t. cond t (Some (neg_ℤ (pos (number_of (decimal (suc n)))))) None) fits ∙ ap (λ k. Some (neg_ℤ (pos k))) v,
      length-decimal-le 19 (suc n) (omega arith) (omega arith) wide,
    )
