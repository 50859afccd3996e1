-- Numbers as digits: how they are read.
use Rattle.std.proofs.Common.{◌≡◌, ◌<◌, ◌≤◌, ◌^◌, ℕ, Bool, true, false, cond, List, [], ◌∷◌, length, Some, None, Result, Ok, Err, refl, sym, ap, ◌∙◌, arith}
use Rattle.std.specs.Prelude.{nat_lt, nat_le}
use Rattle.std.specs.Result.{OkIff, result_ok}
use Rattle.std.specs.Str.Parse.{ParsesUnsigned, digits_value}
use Rattle.std.proofs.lemmas.Bool.Decides.{nat_tests}
use Rattle.std.proofs.lemmas.Str.Parse.{parse_digits}
use Rattle.wave_base.specs.Names.{is_digits}
use Rattle.wave_text.proofs.NumberLemmas.{AreDigits, le_test, lt_test, own}
use Rattle.command_words.specs.Values.{number_of}

are_digits : (bs : List ℕ) → is_digits bs ≡ true → AreDigits bs × (0 < length bs)
are_digits [] h = cc
are_digits (b ∷ bs) h = (h, omega arith)

lt_from : (n m : ℕ) → nat_lt n m ≡ true → n < m
lt_from n m h = grind (arith, nat_tests)

-- an answer that is there exactly where a test passes
tested : {E : Type 0} (r : Result ℕ E) (P : Type 0) (v : ℕ) (b : Bool) → OkIff r P v → (P → b ≡ true) → (b ≡ true → P) → result_ok r ≡ cond b (Some v) None
tested (Ok x) P v b h to from = ap (λ y. Some y) h.1 ∙ ap (λ t. cond t (Some v) None) (sym (to h.0))
tested (Err e) P v true h to from = absurd (h (from refl))
tested (Err e) P v false h to from = refl

short_number : (bs : List ℕ) → length bs ≤ 20 → is_digits bs ≡ true → number_of bs ≡ cond (nat_lt (digits_value 10 bs) (2 ^ 64)) (Some (digits_value 10 bs)) None
short_number bs short digits =
    let shown : nat_le (length bs) 20 ≡ true = le_test (length bs) 20 short in
    rw (shown, digits) refl

-- at most 20 digits are read as their number, where it has 64 bits
pub reads_number : {E : Type 0} (bs : List ℕ) (r : Result ℕ E) → length bs ≤ 20 → is_digits bs ≡ true → ParsesUnsigned 64 10 bs r → result_ok r ≡ number_of bs
reads_number bs r short digits p =
    let d = are_digits bs digits in
    let v = digits_value 10 bs in
    tested r _ v (nat_lt v (2 ^ 64)) (parse_digits own 64 bs r p d.0) (λ q. lt_test v (2 ^ 64) q.1) (λ e. (d.1, lt_from v (2 ^ 64) e)) ∙ sym (short_number bs short digits)
