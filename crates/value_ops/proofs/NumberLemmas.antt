-- Texts that write numbers: how they are read.
use Rattle.std.proofs.Common.{◌≡◌, ◌≢◌, ◌<◌, ◌≤◌, ◌^◌, ℕ, zero, suc, ℤ, pos, Bool, true, false, cond, List, [], ◌∷◌, length, Result, refl, subst, arith, rules, w64, FitsSigned}
use Rattle.std.specs.Prelude.{◌==◌, ◌&&◌, nat_le, neg_ℤ, slice_index}
use Rattle.std.specs.Char.{is_ascii_digit}
use Rattle.std.specs.List.{list_all}
use Rattle.std.specs.Result.{result_ok}
use Rattle.std.specs.Str.{IsAscii}
use Rattle.std.specs.Str.Parse.{ParsesSigned, digits_value}
use Rattle.std.proofs.lemmas.Bool.Decides.{nat_tests}
use Rattle.std.proofs.lemmas.Str.Parse.{IsNumeralModel, numerals_by_value, parse_signed_plain, parse_signed_minus}
use Rattle.wave_base.specs.Names.{is_digits}
use Rattle.wave_base.specs.declared.trap.TrapKind.TheVariants.{Overflow}
use Rattle.value_ops.specs.Meanings.{or_trap, in_int}
use Rattle.value_ops.specs.Numbers.{is_number, number_in}
use Rattle.value_ops.proofs.IntLemmas.{read_in_int}

abbrev AreDigits : List ℕ → Type 0
AreDigits ds = list_all is_ascii_digit ds ≡ true

own : IsNumeralModel AreDigits (digits_value 10)
own = numerals_by_value AreDigits (search rules)

are_digits : (bs : List ℕ) → is_digits bs ≡ true → AreDigits bs × (0 < length bs)
are_digits [] h = cc
are_digits (b ∷ bs) h = (h, omega arith)

is_minus : (b : ℕ) → b == 45 ≡ true → b ≡ 45
is_minus b h = grind (arith, nat_tests)

first_digit : (b : ℕ) (bs : List ℕ) → is_digits (b ∷ bs) ≡ true → (b ≢ 43) × (b ≢ 45)
first_digit b bs h = (λ e. grind (arith, nat_tests), λ e. grind (arith, nat_tests))

both : (a b : Bool) → (a && b) ≡ true → b ≡ true
both true b h = h
both false b h = cc

below_fits : (n : ℕ) → n < 2 ^ 63 → FitsSigned w64 (pos n)
below_fits n h = record { sfits = h }

fits_below : (n : ℕ) → FitsSigned w64 (pos n) → n < 2 ^ 63
fits_below n h = h.sfits

minus_fits : (n : ℕ) → n ≤ 2 ^ 63 → FitsSigned w64 (neg_ℤ (pos n))
minus_fits zero h = record { sfits = omega arith }
minus_fits (suc n) h = record { sfits = omega arith }

fits_minus : (n : ℕ) → FitsSigned w64 (neg_ℤ (pos n)) → n ≤ 2 ^ 63
fits_minus zero h = omega arith
fits_minus (suc n) h = omega (arith, h.sfits)

reads_plain : {E : Type 0} (b : ℕ) (bs : List ℕ) (r : Result ℤ E) → is_digits (b ∷ bs) ≡ true → ParsesSigned w64 10 (b ∷ bs) r → or_trap Overflow (result_ok r) ≡ in_int (pos (digits_value 10 (b ∷ bs)))
reads_plain b bs r h p =
    let f = first_digit b bs h in
    let d = are_digits (b ∷ bs) h in
    read_in_int r _ (pos (digits_value 10 (b ∷ bs))) (parse_signed_plain own w64 (b ∷ bs) r p f.0 f.1) (λ q. below_fits (digits_value 10 (b ∷ bs)) q.2) (λ q. (d.0, d.1, fits_below (digits_value 10 (b ∷ bs)) q))

reads_minus : {E : Type 0} (bs : List ℕ) (r : Result ℤ E) → is_digits bs ≡ true → ParsesSigned w64 10 (45 ∷ bs) r → or_trap Overflow (result_ok r) ≡ in_int (neg_ℤ (pos (digits_value 10 bs)))
reads_minus bs r h p =
    let d = are_digits bs h in
    read_in_int r _ (neg_ℤ (pos (digits_value 10 bs))) (parse_signed_minus own w64 (45 ∷ bs) r p refl) (λ q. minus_fits (digits_value 10 bs) q.2) (λ q. (d.0, d.1, fits_minus (digits_value 10 bs) q))

-- a text of this form is read as its number, or is past all ints
pub reads_number : {E : Type 0} (bs : List ℕ) (r : Result ℤ E) → is_number bs ≡ true → ParsesSigned w64 10 bs r → or_trap Overflow (result_ok r) ≡ in_int (number_in bs)
reads_number [] r h p = cc
reads_number (b ∷ bs) r h p =
    elim (b == 45) as (λ t. b == 45 ≡ t → (nat_le (length (cond t bs (b ∷ bs))) 19 && is_digits (cond t bs (b ∷ bs))) ≡ true → or_trap Overflow (result_ok r) ≡ in_int (cond t (neg_ℤ (pos (digits_value 10 bs))) (pos (digits_value 10 (b ∷ bs))))) [
      | true ↦ λ e k. reads_minus bs r (both _ _ k) (subst (λ x. ParsesSigned w64 10 (x ∷ bs) r) (is_minus b e) p)
      | false ↦ λ e k. reads_plain b bs r (both _ _ k) p
    ] refl h

small_digit : (b : ℕ) (bs : List ℕ) → AreDigits (b ∷ bs) → b < 128
small_digit b bs h = grind (arith, nat_tests)

other_digits : (b : ℕ) (bs : List ℕ) → AreDigits (b ∷ bs) → AreDigits bs
other_digits b bs h = grind (arith, nat_tests)

ascii_digits : (bs : List ℕ) → AreDigits bs → IsAscii bs
ascii_digits [] h i = omega arith
ascii_digits (b ∷ bs) h zero = small_digit b bs h
ascii_digits (b ∷ bs) h (suc i) = ascii_digits bs (other_digits b bs h) i

pub ascii_number : (bs : List ℕ) → is_number bs ≡ true → IsAscii bs
ascii_number [] h i = cc
ascii_number (b ∷ bs) h zero =
    elim (b == 45) as (λ t. b == 45 ≡ t → (nat_le (length (cond t bs (b ∷ bs))) 19 && is_digits (cond t bs (b ∷ bs))) ≡ true → b < 128) [
      | true ↦ λ e k. omega (arith, is_minus b e)
      | false ↦ λ e k. small_digit b bs (both _ _ k)
    ] refl h
ascii_number (b ∷ bs) h (suc i) =
    elim (b == 45) as (λ t. (nat_le (length (cond t bs (b ∷ bs))) 19 && is_digits (cond t bs (b ∷ bs))) ≡ true → slice_index bs i < 128) [
      | true ↦ λ k. ascii_digits bs (are_digits bs (both _ _ k)).0 i
      | false ↦ λ k. ascii_digits bs (other_digits b bs (both _ _ k)) i
    ] h
