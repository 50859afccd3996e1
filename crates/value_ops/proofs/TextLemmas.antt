-- Texts that are made of other texts and of numbers.
use Rattle.std.proofs.Common.{◌≡◌, ℕ, ◌+◌, ◌%◌, ◌^◌, ◌<◌, ◌≤◌, ℤ, pos, negsuc, suc, List, [], ◌++◌, length, Ok, Err, sym, subst, arith, w64, FitsSigned, length-append}
use Rattle.std.proofs.lemmas.Bool.Decides.{nat_tests}
use Rattle.std.proofs.lemmas.Fmt.{decimal_by_steps}
use Rattle.std.proofs.lemmas.List.Elements.{All-cons, All-nil, All-push}
use Rattle.std.specs.Fmt.{decimal, signed_decimal}
use Rattle.std.specs.List.{All}
use Rattle.wave_base.specs.declared.trap.TrapKind.TheVariants.{TooLong}
use Rattle.wave_base.specs.Text.{IsPrintable, IsText}
use Rattle.value_ops.specs.Meanings.{joined_text}

module _ (s t : List ℕ) where
  pub joined_short : length s + length t ≤ 1000 → joined_text s t ≡ Ok (s ++ t)
  joined_short h = rw length-append (grind (arith, nat_tests))

  pub joined_long : 1000 < length s + length t → joined_text s t ≡ Err TooLong
  joined_long h = rw length-append (grind (arith, nat_tests))

printable_digit : (d : ℕ) → d < 10 → IsPrintable (48 + d)
printable_digit d h = (omega arith, omega arith)

pub printable_decimal : (n : ℕ) → n < 2 ^ 64 → All IsPrintable (decimal n)
printable_decimal n h =
    decimal_by_steps (λ n ds. All IsPrintable ds)
    (λ n l. All-cons IsPrintable (48 + n) [] (printable_digit n l) (All-nil IsPrintable))
    (λ n ds l digits. All-push IsPrintable ds (48 + n % 10) digits (printable_digit (n % 10) (omega arith)))
    n h

pub printable_number : (z : ℤ) → FitsSigned w64 z → All IsPrintable (signed_decimal z)
printable_number (pos n) h = printable_decimal n (omega (arith, h.sfits))
printable_number (negsuc n) h = All-cons IsPrintable 45 (decimal (suc n)) (omega arith, omega arith) (printable_decimal (suc n) (omega (arith, h.sfits)))

pub number_is_text : (z : ℤ) → FitsSigned w64 z → (t : List ℕ) → t ≡ signed_decimal z → length t ≤ 1000 → IsText t
number_is_text z h t e short = record { printable = subst (All IsPrintable) (sym e) (printable_number z h); short = short }
