-- Laws of the operators.
use Rattle.std.proofs.Common.{◌≡◌, ℕ, ◌+◌, ◌%◌, ◌<◌, ◌≤◌, ◌^◌, ◌==◌, ℤ, pos, negsuc, zero, suc, Bool, true, false, if◌then◌else◌, List, [], ◌∷◌, Ok, Err, neg_ℤ, ◌+ℤ◌, ◌*ℤ◌, ◌≤ℤ◌, unsigned_abs, refl, sym, ap, subst, ◌∙◌, arith, w64, FitsSigned, length, get_or, slice_get, Some}
use Rattle.std.proofs.lemmas.Bool.Decides.{nat_tests}
use Rattle.std.proofs.lemmas.Fmt.{decimal_by_steps, decimal_is_IsNumeral}
use Rattle.std.proofs.lemmas.Int.{ints, quot-rem, rem_below}
use Rattle.std.proofs.lemmas.List.{get_or_append_left}
use Rattle.std.proofs.lemmas.List.Elements.{All-cons, All-nil, All-push, All-head}
use Rattle.std.specs.Fmt.{decimal, signed_decimal}
use Rattle.std.specs.Int.RustNames.{int_div, int_rem}
use Rattle.std.specs.List.{All}
use Rattle.std.specs.Str.Parse.{digits_value}
use Rattle.wave_base.specs.declared.trap.TrapKind.TheVariants.{DivZero, Overflow}
use Rattle.wave_base.specs.declared.value.Kind.{Kind}
use Rattle.wave_base.specs.declared.value.Kind.TheVariants as k
use Rattle.wave_base.specs.declared.value.Value.{Value}
use Rattle.wave_base.specs.declared.value.Value.TheVariants.{Int, Str}
use Rattle.wave_base.specs.Operators.{first_names, later_names, operator_names, name_of_operator}
use Rattle.wave_base.specs.Values.{kind_of}
use Rattle.value_ops.specs.Kinds.{Answer, Of, value_of, answer_of}
use Rattle.value_ops.specs.Meanings.{is_int, is_zero}
use Rattle.value_ops.specs.Numbers.{number_in}
use Rattle.value_ops.specs.Rows.{Row, wave_rows, wave_rows_2, three, row_with, named_rows}
use Rattle.value_ops.specs.Operators.{Operator, no_operator, takes_of, operators, operator_at, gives_of, apply_row}

kind_of-value_of : (kind : Kind) (x : Of kind) → kind_of (value_of kind x) ≡ kind
kind_of-value_of k.Int x = refl
kind_of-value_of k.Bool x = refl
kind_of-value_of k.Text x = refl
kind_of-value_of k.Map x = refl

kind_given : (kind : Kind) (answer : Answer (Of kind)) (v : Value) → answer_of kind answer ≡ Ok v → kind_of v ≡ kind
kind_given kind (Ok x) v e = let same : value_of kind x ≡ v = cc in ap kind_of (sym same) ∙ kind_of-value_of kind x
kind_given kind (Err t) v e = cc

pub row_gives_its_kind : (row : ℕ) (values : List Value) (v : Value) → apply_row row values ≡ Ok v → kind_of v ≡ gives_of row
unfolding apply_row gives_of
row_gives_its_kind row values v e = kind_given (operator_at row).gives _ v e

-- where a divisor is 0, nothing is given
quotient_is : (a b q : ℤ) (zero int : Bool) → answer_of k.Int (if zero then Err DivZero else (if int then Ok (int_div a b) else Err Overflow)) ≡ Ok (Int q) → int_div a b ≡ q
quotient_is a b q true int e = cc
quotient_is a b q false true e = cc
quotient_is a b q false false e = cc

remainder_is : (a b r : ℤ) (zero int : Bool) → answer_of k.Int (if zero then Err DivZero else (if int then Ok (int_rem a b) else Err Overflow)) ≡ Ok (Int r) → (int_rem a b ≡ r) × (zero ≡ false)
remainder_is a b r true int e = cc
remainder_is a b r false true e = (cc, refl)
remainder_is a b r false false e = cc

pub division : (a b q r : ℤ) → apply_row 3 (Int a ∷ Int b ∷ []) ≡ Ok (Int q) → apply_row 4 (Int a ∷ Int b ∷ []) ≡ Ok (Int r) → ((q *ℤ b) +ℤ r) ≡ a
unfolding apply_row operators
division a b q r d m =
    let whole = quotient_is a b q (is_zero b) (is_int (int_div a b)) d in
    let rest = (remainder_is a b r (is_zero b) (is_int (int_div a b)) m).0 in
    sym (λ i. (whole i *ℤ b) +ℤ rest i) ∙ quot-rem a b

not_zero : (b : ℤ) → is_zero b ≡ false → 0 < unsigned_abs b
not_zero (pos zero) e = cc
not_zero (pos (suc n)) e = omega arith
not_zero (negsuc n) e = omega arith

pub remainder_small : (a b r : ℤ) → apply_row 4 (Int a ∷ Int b ∷ []) ≡ Ok (Int r) → unsigned_abs r < unsigned_abs b
unfolding apply_row operators
remainder_small a b r m =
    let rest = remainder_is a b r (is_zero b) (is_int (int_div a b)) m in
    subst (λ x. unsigned_abs x < unsigned_abs b) rest.0 (rem_below a b (not_zero b rest.1))

zero_rem : (n : ℕ) → pos (0 % n) ≤ℤ pos 0
zero_rem n = omega (arith, ints)

neg_below : (n : ℕ) → neg_ℤ (pos n) ≤ℤ pos 0
neg_below zero = omega (arith, ints)
neg_below (suc n) = omega (arith, ints)

rem_sign : (a b : ℤ) → (pos 0 ≤ℤ a → pos 0 ≤ℤ int_rem a b) × (a ≤ℤ pos 0 → int_rem a b ≤ℤ pos 0)
rem_sign (pos n) b = (λ h. grind (arith, ints), λ h. let e : n ≡ 0 = omega (arith, ints) in rw e (zero_rem (unsigned_abs b)))
rem_sign (negsuc n) b = (λ h. absurd (omega (arith, ints)), λ h. neg_below (suc n % unsigned_abs b))

pub remainder_sign : (a b r : ℤ) → apply_row 4 (Int a ∷ Int b ∷ []) ≡ Ok (Int r) → (pos 0 ≤ℤ a → pos 0 ≤ℤ r) × (a ≤ℤ pos 0 → r ≤ℤ pos 0)
unfolding apply_row operators
remainder_sign a b r m =
    let rest = remainder_is a b r (is_zero b) (is_int (int_div a b)) m in
    subst (λ x. (pos 0 ≤ℤ a → pos 0 ≤ℤ x) × (a ≤ℤ pos 0 → x ≤ℤ pos 0)) rest.0 (rem_sign a b)

-- no digit is a minus
digits_from_48 : (n : ℕ) → n < 2 ^ 64 → All (λ b. 48 ≤ b) (decimal n)
digits_from_48 n h =
    decimal_by_steps (λ n ds. All (λ b. 48 ≤ b) ds)
    (λ n l. All-cons (λ b. 48 ≤ b) (48 + n) [] (omega arith) (All-nil (λ b. 48 ≤ b)))
    (λ n ds l digits. All-push (λ b. 48 ≤ b) ds (48 + n % 10) digits (omega arith))
    n h

no_minus : (b : ℕ) → 48 ≤ b → (b == 45) ≡ false
no_minus b h = grind (arith, nat_tests)

without_minus : (ds : List ℕ) → All (λ b. 48 ≤ b) ds → number_in ds ≡ pos (digits_value 10 ds)
without_minus [] h = refl
without_minus (b ∷ bs) h = rw (no_minus b (All-head (λ b. 48 ≤ b) b bs h)) refl

pub number_in-signed_decimal : (z : ℤ) → FitsSigned w64 z → number_in (signed_decimal z) ≡ z
number_in-signed_decimal (pos n) h = without_minus (decimal n) (digits_from_48 n (omega (arith, h.sfits))) ∙ ap pos (decimal_is_IsNumeral n (omega (arith, h.sfits))).1
number_in-signed_decimal (negsuc n) h = ap (λ m. neg_ℤ (pos m)) (decimal_is_IsNumeral (suc n) (omega (arith, h.sfits))).1

text_is : (s t : List ℕ) → ◌≡◌ {A = Answer Value} (Ok (Str s)) (Ok (Str t)) → s ≡ t
text_is s t e = cc

pub str_reads : (z : ℤ) (t : List ℕ) → FitsSigned w64 z → apply_row 26 (Int z ∷ []) ≡ Ok (Str t) → number_in t ≡ z
unfolding apply_row operators
str_reads z t h e = ap number_in (sym (text_is (signed_decimal z) t e)) ∙ number_in-signed_decimal z h

named_at : (names : List (List ℕ)) (os : List Operator) (i : ℕ) → i < length names → i < length os → slice_get (named_rows names os) i ≡ Some (row_with (get_or names i []) (get_or os i no_operator))
named_at [] os i h k = absurd (omega arith)
named_at (name ∷ names) [] i h k = absurd (omega arith)
named_at (name ∷ names) (o ∷ os) zero h k = refl
named_at (name ∷ names) (o ∷ os) (suc i) h k = named_at names os i (omega arith) (omega arith)

module _ (row : ℕ) where
  abbrev says : Row
  says = record { name = name_of_operator row; builtin = (operator_at row).builtin; takes = three (takes_of row); gives = gives_of row }

  -- the names of version 1 stand in front
  first_name : row < 28 → get_or first_names row [] ≡ name_of_operator row
  first_name h = sym (get_or_append_left first_names later_names [] row h)

  pub row_at : row < 28 → slice_get wave_rows row ≡ Some says
  unfolding wave_rows operators takes_of gives_of
  row_at h = named_at first_names operators row h (omega arith) ∙ ap (λ n. Some (row_with n (operator_at row))) (first_name h)

  pub row_at_2 : row < 34 → slice_get wave_rows_2 row ≡ Some says
  unfolding wave_rows_2 operators takes_of gives_of
  row_at_2 h = named_at operator_names operators row h h
