-- Whole numbers as digits: how they are read.
use Rattle.std.proofs.Common.{◌≡◌, ◌≢◌, ◌<◌, ◌≤◌, ◌^◌, ℕ, zero, suc, ℤ, pos, Bool, true, false, cond, List, [], ◌∷◌, length, Some, None, Result, Ok, Err, refl, sym, ap, subst, ◌∙◌, arith, rules}
use Rattle.std.specs.Prelude.{◌==◌, nat_lt, nat_le, neg_ℤ, slice_index}
use Rattle.std.specs.Char.{is_ascii_digit}
use Rattle.std.specs.Int.{w64}
use Rattle.std.specs.List.{list_all}
use Rattle.std.specs.Result.{OkIff, result_ok}
use Rattle.std.specs.Str.{IsAscii}
use Rattle.std.specs.Str.Parse.{ParsesSigned, digits_value}
use Rattle.std.proofs.lemmas.Bool.Decides.{nat_tests}
use Rattle.std.proofs.lemmas.Str.Parse.{IsNumeralModel, numerals_by_value, parse_signed_plain, parse_signed_minus}
use Rattle.wave_base.specs.Names.{is_digits}
use Rattle.wave_text.specs.Numbers.{number_of, positive_int, negative_int, whole_of}
use Rattle.wave_text.specs.Words.{is_whole}

abbrev pub AreDigits : List ℕ → Type 0
AreDigits ds = list_all is_ascii_digit ds ≡ true

pub own : IsNumeralModel AreDigits (digits_value 10)
own = numerals_by_value AreDigits (search rules)

are_digits : (bs : List ℕ) → is_digits bs ≡ true → AreDigits bs × (0 < length bs)
are_digits [] h = cc
are_digits (b ∷ bs) h = (h, omega arith)

-- an answer that is there exactly where a test passes
chosen : {E : Type 0} (r : Result ℤ E) (P : Type 0) (v : ℤ) (b : Bool) → OkIff r P v → (P → b ≡ true) → (b ≡ true → P) → result_ok r ≡ cond b (Some v) None
chosen (Ok x) P v b h to from = ap (λ y. Some y) h.1 ∙ ap (λ t. cond t (Some v) None) (sym (to h.0))
chosen (Err e) P v true h to from = absurd (h (from refl))
chosen (Err e) P v false h to from = refl

-- ---- tests of numbers

pub lt_test : (n m : ℕ) → n < m → nat_lt n m ≡ true
lt_test n m h = grind (arith, nat_tests)

lt_from : (n m : ℕ) → nat_lt n m ≡ true → n < m
lt_from n m h = grind (arith, nat_tests)

pub le_test : (n m : ℕ) → n ≤ m → nat_le n m ≡ true
le_test n m h = grind (arith, nat_tests)

le_from : (n m : ℕ) → nat_le n m ≡ true → n ≤ m
le_from n m h = grind (arith, nat_tests)

is_minus : (b : ℕ) → b == 45 ≡ true → b ≡ 45
is_minus b h = grind (arith, nat_tests)

pub first_digit : (b : ℕ) (bs : List ℕ) → is_digits (b ∷ bs) ≡ true → (b ≢ 43) × (b ≢ 45)
first_digit b bs h = (λ e. grind (arith, nat_tests), λ e. grind (arith, nat_tests))

reads_plain : {E : Type 0} (b : ℕ) (bs : List ℕ) (r : Result ℤ E) → is_digits (b ∷ bs) ≡ true → ParsesSigned w64 10 (b ∷ bs) r → result_ok r ≡ positive_int (number_of (b ∷ bs))
reads_plain b bs r h p =
    let f = first_digit b bs h in
    let d = are_digits (b ∷ bs) h in
    chosen r _ (pos (number_of (b ∷ bs))) (nat_lt (number_of (b ∷ bs)) (2 ^ 63)) (parse_signed_plain own w64 (b ∷ bs) r p f.0 f.1) (λ q. lt_test (number_of (b ∷ bs)) (2 ^ 63) q.2) (λ e. (d.0, d.1, lt_from (number_of (b ∷ bs)) (2 ^ 63) e))

reads_minus : {E : Type 0} (bs : List ℕ) (r : Result ℤ E) → is_digits bs ≡ true → ParsesSigned w64 10 (45 ∷ bs) r → result_ok r ≡ negative_int (number_of bs)
reads_minus bs r h p =
    let d = are_digits bs h in
    chosen r _ (neg_ℤ (pos (number_of bs))) (nat_le (number_of bs) (2 ^ 63)) (parse_signed_minus own w64 (45 ∷ bs) r p refl) (λ q. le_test (number_of bs) (2 ^ 63) q.2) (λ e. (d.0, d.1, le_from (number_of bs) (2 ^ 63) e))

pub reads_whole : {E : Type 0} (bs : List ℕ) (r : Result ℤ E) → is_whole bs ≡ true → ParsesSigned w64 10 bs r → result_ok r ≡ whole_of bs
reads_whole [] r h p = cc
reads_whole (b ∷ bs) r h p =
    elim (b == 45) as (λ t. b == 45 ≡ t → is_digits (cond t bs (b ∷ bs)) ≡ true → result_ok r ≡ cond t (negative_int (number_of bs)) (positive_int (number_of (b ∷ bs)))) [
      | true ↦ λ e k. reads_minus bs r k (subst (λ x. ParsesSigned w64 10 (x ∷ bs) r) (is_minus b e) p)
      | false ↦ λ e k. reads_plain b bs r k p
    ] refl h

small_digit : (b : ℕ) (bs : List ℕ) → AreDigits (b ∷ bs) → b < 128
small_digit b bs h = grind (arith, nat_tests)

other_digits : (b : ℕ) (bs : List ℕ) → AreDigits (b ∷ bs) → AreDigits bs
other_digits b bs h = grind (arith, nat_tests)

ascii_digits : (bs : List ℕ) → AreDigits bs → IsAscii bs
ascii_digits [] h i = omega arith
ascii_digits (b ∷ bs) h zero = small_digit b bs h
ascii_digits (b ∷ bs) h (suc i) = ascii_digits bs (other_digits b bs h) i

pub ascii_whole : (bs : List ℕ) → is_whole bs ≡ true → IsAscii bs
ascii_whole [] h i = cc
ascii_whole (b ∷ bs) h zero =
    elim (b == 45) as (λ t. b == 45 ≡ t → is_digits (cond t bs (b ∷ bs)) ≡ true → b < 128) [
      | true ↦ λ e k. omega (arith, is_minus b e)
      | false ↦ λ e k. small_digit b bs k
    ] refl h
ascii_whole (b ∷ bs) h (suc i) =
    elim (b == 45) as (λ t. is_digits (cond t bs (b ∷ bs)) ≡ true → slice_index bs i < 128) [
      | true ↦ λ k. ascii_digits bs (are_digits bs k).0 i
      | false ↦ λ k. ascii_digits bs (other_digits b bs k) i
    ] h
