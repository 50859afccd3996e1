-- Kinds that are the same, and the rows of the operator table that take given kinds.
use Rattle.std.proofs.Common.{◌≡◌, ℕ, ◌<◌, ◌≤◌, Bool, true, false, cond, ◌⊎◌, inl, inr, List, [], ◌∷◌, length, find, Option, Some, None, refl, sym, ap, ◌∙◌, arith}
use Rattle.std.specs.Cmp.Lexicographic.{pointwise}
use Rattle.std.proofs.lemmas.Bool.{and_parts, cases_lt}
use Rattle.std.proofs.lemmas.List.{get_or_past}
use Rattle.std.proofs.lemmas.List.Quantifiers.{position-Some}
use Rattle.wave_base.specs.declared.operators.TheConstants.{OPERATORS}
use Rattle.wave_base.specs.declared.version.Version.TheVariants.{First, Second}
use Rattle.wave_base.specs.declared.value.Kind.{Kind}
use Rattle.wave_base.specs.declared.value.Kind.TheVariants as k
use Rattle.value_ops.specs.Operators.{Operator, operators, no_operator, takes_of}
use Rattle.value_ops.specs.Rows.{Row, wave_rows, wave_rows_2, named_rows, first_builtin, is_builtin}
use Rattle.wave_base.specs.Operators.{first_names, operator_names}
use Rattle.type_rules.specs.declared.known.Known.{Known}
use Rattle.type_rules.specs.Here.{version_rows, rows_of}
use Rattle.type_rules.specs.Kinds.{same_kind, has_kind, takes_kinds, row_of_one, row_of_two}

pub kinds_same : (a b : Kind) → same_kind a b ≡ true → a ≡ b
kinds_same k.Int k.Int h = refl
kinds_same k.Bool k.Bool h = refl
kinds_same k.Text k.Text h = refl
kinds_same k.Map k.Map h = refl
kinds_same k.Int k.Bool h = cc
kinds_same k.Int k.Text h = cc
kinds_same k.Int k.Map h = cc
kinds_same k.Bool k.Int h = cc
kinds_same k.Bool k.Text h = cc
kinds_same k.Bool k.Map h = cc
kinds_same k.Text k.Int h = cc
kinds_same k.Text k.Bool h = cc
kinds_same k.Text k.Map h = cc
kinds_same k.Map k.Int h = cc
kinds_same k.Map k.Bool h = cc
kinds_same k.Map k.Text h = cc

pub kind_is : (o : Option Kind) (kind : Kind) → has_kind o kind ≡ true → o ≡ Some kind
kind_is None kind h = cc
kind_is (Some a) kind h = ap (λ x. Some x) (kinds_same a kind h)

lists_same : (ks ls : List Kind) → pointwise same_kind ks ls ≡ true → ks ≡ ls
lists_same [] [] h = refl
lists_same [] (l ∷ ls) h = cc
lists_same (k ∷ ks) [] h = cc
lists_same (k ∷ ks) (l ∷ ls) h =
    let p = and_parts (same_kind k l) (pointwise same_kind ks ls) h in
    let x = kinds_same k l p.0 in
    let y = lists_same ks ls p.1 in
    λ i. x i ∷ y i

pub found_passes : {X : Type 0} (p : X → Bool) (xs : List X) (x : X) → find p xs ≡ Some x → p x ≡ true
found_passes p [] x h = cc
found_passes p (y ∷ xs) x h = by (p y) refl h (λ e. found_passes p xs x e)
  where
    by : (b : Bool) → p y ≡ b → cond b (Some y) (find p xs) ≡ Some x → (find p xs ≡ Some x → p x ≡ true) → p x ≡ true
    by true e h rest = let same : y ≡ x = cc in ap p (sym same) ∙ e
    by false e h rest = rest h

-- a row that takes anything is one of the table's
takes_none : (row : ℕ) → OPERATORS ≤ row → takes_of row ≡ []
unfolding takes_of operators
takes_none row h = ap (λ (o : Operator). o.takes) (get_or_past operators row no_operator h)

row_within : (row : ℕ) (kind : Kind) (kinds : List Kind) → takes_of row ≡ kind ∷ kinds → row < OPERATORS
row_within row kind kinds h = by (cases_lt row OPERATORS)
  where
    by : (row < OPERATORS) ⊎ (OPERATORS ≤ row) → row < OPERATORS
    by (inl below) = below
    by (inr beyond) = let none : kind ∷ kinds ≡ [] = sym h ∙ takes_none row beyond in absurd cc

pub record OneRow (o : Option Kind) (row : ℕ) : Type 0 where
  pub kind : Kind
  pub is : o ≡ Some kind
  pub takes : takes_of row ≡ kind ∷ []
  pub within : row < OPERATORS

pub one_row : (rows : List ℕ) (o : Option Kind) (row : ℕ) → row_of_one rows o ≡ Some row → OneRow o row
one_row rows None row h = cc
one_row rows (Some a) row h =
    let takes = lists_same (takes_of row) (a ∷ []) (found_passes (takes_kinds (a ∷ [])) rows row h) in
    record { kind = a; is = refl; takes = takes; within = row_within row a [] takes }

pub record TwoRow (o p : Option Kind) (row : ℕ) : Type 0 where
  pub first : Kind
  pub second : Kind
  pub first_is : o ≡ Some first
  pub second_is : p ≡ Some second
  pub takes : takes_of row ≡ first ∷ second ∷ []
  pub within : row < OPERATORS

pub two_row : (rows : List ℕ) (o p : Option Kind) (row : ℕ) → row_of_two rows o p ≡ Some row → TwoRow o p row
two_row rows None p row h = cc
two_row rows (Some a) None row h = cc
two_row rows (Some a) (Some b) row h =
    let takes = lists_same (takes_of row) (a ∷ b ∷ []) (found_passes (takes_kinds (a ∷ b ∷ [])) rows row h) in
    record { first = a; second = b; first_is = refl; second_is = refl; takes = takes; within = row_within row a (b ∷ []) takes }

-- a builtin's row
named_short : (names : List (List ℕ)) (os : List Operator) → length (named_rows names os) ≤ length os
named_short [] os = omega arith
named_short (n ∷ ns) [] = omega arith
named_short (n ∷ ns) (o ∷ os) = omega (arith, named_short ns os)

rows_short : length wave_rows ≤ OPERATORS
unfolding wave_rows operators
rows_short = named_short first_names operators

rows_short_2 : length wave_rows_2 ≤ OPERATORS
unfolding wave_rows_2 operators
rows_short_2 = named_short operator_names operators

short_of : (known : Known) → length (rows_of known) ≤ OPERATORS
short_of known = elim known.version as (λ v. length (version_rows v) ≤ OPERATORS) [ First ↦ rows_short | Second ↦ rows_short_2 ]

pub builtin_within : (known : Known) (name : List ℕ) (row : ℕ) → first_builtin (rows_of known) name ≡ Some row → row < OPERATORS
builtin_within known name row h =
    let none : Row = record { name = []; builtin = false; takes = []; gives = k.Int } in
    let p = position-Some (is_builtin name) (rows_of known) row none h in
    omega (arith, p.0, short_of known)
