-- The operators' table says what the operators take and give.
use Rattle.std.proofs.Common.{◌≡◌, ℕ, zero, suc, List, [], ◌∷◌, Some, refl, ap, sym, ◌∙◌, get_or}
use Rattle.std.specs.Prelude.{slice_get}
use Rattle.wave_base.specs.Operators.{operator_names}
use Rattle.value_ops.specs.Operators.{Operator, operators, no_operator, takes_of, gives_of}
use Rattle.value_ops.specs.Rows.{Row, named_rows, three, wave_rows_2}
use Rattle.service_verify.specs.inner.Asks.{row_operands}
use Rattle.service_verify.specs.Rules.{operands}

-- an operator takes at most three
abbrev Short : List Operator → Type 0
Short [] = Unit {0}
Short (o ∷ os) = (row_operands (three o.takes) ≡ operands o.takes) × Short os

short : Short operators
unfolding operators
short = (refl, (refl, (refl, (refl, (refl, (refl, (refl, (refl, (refl, (refl, (refl, (refl, (refl, (refl, (refl, (refl, (refl, (refl, (refl, (refl, (refl, (refl, (refl, (refl, (refl, (refl, (refl, (refl, (refl, (refl, (refl, (refl, (refl, (refl, tt))))))))))))))))))))))))))))))))))

abbrev Says : Row → Operator → Type 0
Says x o = (row_operands x.takes ≡ operands o.takes) × (x.gives ≡ o.gives)

says : (names : List (List ℕ)) (os : List Operator) → Short os → (r : ℕ) (x : Row) → slice_get (named_rows names os) r ≡ Some x → Says x (get_or os r no_operator)
says [] os h r x e = cc
says (n ∷ names) [] h r x e = cc
says (n ∷ names) (o ∷ os) h zero x e = let same : record { name = n; builtin = o.builtin; takes = three o.takes; gives = o.gives } ≡ x = cc in (ap (λ (y : Row). row_operands y.takes) (sym same) ∙ h.0, ap (λ (y : Row). y.gives) (sym same))
says (n ∷ names) (o ∷ os) h (suc r) x e = says names os h.1 r x e

pub row_says : (r : ℕ) (x : Row) → slice_get wave_rows_2 r ≡ Some x → (row_operands x.takes ≡ operands (takes_of r)) × (x.gives ≡ gives_of r)
unfolding wave_rows_2 takes_of gives_of
row_says r x e = says operator_names operators short r x e
