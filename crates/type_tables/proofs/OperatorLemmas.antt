-- The rows of the operator table, by what is known of its operators.
use Rattle.std.proofs.Common.{◌≡◌, ◌≤◌, ◌<◌, ℕ, zero, suc, true, false, ◌&&◌, is_none, List, [], ◌∷◌, length, get_or, slice_get, All, Option, Some, None, refl, sym, ap, ◌∙◌, arith, rules}
use Rattle.std.specs.Cmp.Lexicographic.{pointwise}
use Rattle.std.proofs.lemmas.List.Elements.{All-from_recursion, All-get_or}
use Rattle.std.proofs.lemmas.List.Quantifiers.{position-Some}
use Rattle.wave_base.specs.declared.value.Kind.{Kind}
use Rattle.wave_base.specs.Operators.{operator_names}
use Rattle.value_ops.specs.declared.row.OpRow.{OpRow}
use Rattle.value_ops.specs.Operators.{Operator, operators, no_operator, takes_of, gives_of}
use Rattle.value_ops.specs.Rows.{Row, row_of, row_with, named_rows, three, wave_rows, wave_rows_2, first_builtin, is_builtin}
use Rattle.type_rules.specs.Kinds.{same_kind, has_kind, takes_kinds}
use Rattle.type_tables.specs.Rows.{IsRow, front, operands, fits}

-- what a row says of its operator
pub record Tells (o : Operator) (row : Row) : Type 0 where
  pub takes : row.takes ≡ three o.takes
  pub gives : row.gives ≡ o.gives

tells_named : (names : List (List ℕ)) (os : List Operator) (n : ℕ) (row : Row) → slice_get (named_rows names os) n ≡ Some row → Tells (get_or os n no_operator) row
tells_named [] [] n row h = cc
tells_named [] (o ∷ os) n row h = cc
tells_named (name ∷ names) [] n row h = cc
tells_named (name ∷ names) (o ∷ os) zero row h = let e : row_with name o ≡ row = cc in record { takes = sym (ap (λ r. r.takes) e); gives = sym (ap (λ r. r.gives) e) }
tells_named (name ∷ names) (o ∷ os) (suc n) row h = tells_named names os n row h

pub tells_row : (n : ℕ) (row : OpRow) → slice_get wave_rows_2 n ≡ Some (row_of row) → (row.takes ≡ three (takes_of n)) × (row.gives ≡ gives_of n)
unfolding wave_rows_2 takes_of gives_of
tells_row n row h = let t = tells_named operator_names operators n (row_of row) h in (t.takes, t.gives)

-- no operator takes more than three
short_operators : All (λ (o : Operator). length o.takes ≤ 3) operators
unfolding operators
short_operators = All-from_recursion (λ o. length o.takes ≤ 3) operators (search rules)

in_table : (n : ℕ) → n < 34 → n < length operators
unfolding operators
in_table n h = h

takes_few : (n : ℕ) → IsRow n → length (takes_of n) ≤ 3
unfolding takes_of
takes_few n h = All-get_or (λ o. length o.takes ≤ 3) operators n no_operator (in_table n h) short_operators

-- the kinds that are there are those that the operator takes
pub front_three : (kinds : List Kind) → length kinds ≤ 3 → front (get_or (three kinds) 0 None) (get_or (three kinds) 1 None) (get_or (three kinds) 2 None) ≡ kinds
front_three [] h = refl
front_three (a ∷ []) h = refl
front_three (a ∷ b ∷ []) h = refl
front_three (a ∷ b ∷ c ∷ []) h = refl
front_three (a ∷ b ∷ c ∷ d ∷ kinds) h = absurd (omega arith)

pub three_fit : (kinds : List Kind) (a : Kind) (b : Option Kind)
    → (has_kind (get_or (three kinds) 0 None) a && fits (get_or (three kinds) 1 None) b && is_none (get_or (three kinds) 2 None)) ≡ pointwise same_kind kinds (operands a b)
three_fit [] a None = refl
three_fit [] a (Some b) = refl
three_fit (x ∷ []) a None = elim (same_kind x a) as (λ t. (t && true && true) ≡ (t && true)) [ true ↦ refl | false ↦ refl ]
three_fit (x ∷ []) a (Some b) = elim (same_kind x a) as (λ t. (t && false && true) ≡ (t && false)) [ true ↦ refl | false ↦ refl ]
three_fit (x ∷ y ∷ []) a None = elim (same_kind x a) as (λ t. (t && false && true) ≡ (t && false)) [ true ↦ refl | false ↦ refl ]
three_fit (x ∷ y ∷ []) a (Some b) = elim (same_kind x a) as (λ t. (t && same_kind y b && true) ≡ (t && (same_kind y b && true))) [ true ↦ refl | false ↦ refl ]
three_fit (x ∷ y ∷ z ∷ kinds) a None = elim (same_kind x a) as (λ t. (t && false && false) ≡ (t && false)) [ true ↦ refl | false ↦ refl ]
three_fit (x ∷ y ∷ z ∷ kinds) a (Some b) = elim (same_kind x a) as (λ t. (t && same_kind y b && false) ≡ (t && (same_kind y b && false))) [ true ↦ refl | false ↦ refl ]

module _ (n : ℕ) (row : OpRow) (h : slice_get wave_rows_2 n ≡ Some (row_of row)) where
  pub front_row : IsRow n → front (get_or row.takes 0 None) (get_or row.takes 1 None) (get_or row.takes 2 None) ≡ takes_of n
  front_row few =
      ap (λ ks. front (get_or ks 0 None) (get_or ks 1 None) (get_or ks 2 None)) (tells_row n row h).0 ∙ front_three (takes_of n) (takes_few n few)

  pub row_fits : (a : Kind) (b : Option Kind) → (has_kind (get_or row.takes 0 None) a && fits (get_or row.takes 1 None) b && is_none (get_or row.takes 2 None)) ≡ takes_kinds (operands a b) n
  row_fits a b = ap (λ ks. has_kind (get_or ks 0 None) a && fits (get_or ks 1 None) b && is_none (get_or ks 2 None)) (tells_row n row h).0 ∙ three_fit (takes_of n) a b

in_rows : (row : ℕ) → row < length wave_rows → row < 34
unfolding wave_rows operators
in_rows row h = omega (arith, h)

in_rows_2 : (row : ℕ) → row < length wave_rows_2 → row < 34
unfolding wave_rows_2 operators
in_rows_2 row h = h

-- a builtin has a row of the table
pub builtin_row : (name : List ℕ) (row : ℕ) → first_builtin wave_rows name ≡ Some row → IsRow row
builtin_row name row h = in_rows row (position-Some (is_builtin name) wave_rows row (row_with [] no_operator) h).0

pub builtin_row_2 : (name : List ℕ) (row : ℕ) → first_builtin wave_rows_2 name ≡ Some row → IsRow row
builtin_row_2 name row h = in_rows_2 row (position-Some (is_builtin name) wave_rows_2 row (row_with [] no_operator) h).0
