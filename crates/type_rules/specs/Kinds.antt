-- Kinds, and the rows of the operator table that are written with signs.
use Rattle.std.specs.Prelude.{ℕ, Bool, true, false, List, [], ◌∷◌, Option, Some, None, find}
use Rattle.std.specs.Cmp.Lexicographic.{pointwise}
use Rattle.wave_base.specs.declared.value.Kind.{Kind}
use Rattle.wave_base.specs.declared.value.Kind.TheVariants as k
use Rattle.mace_ast.specs.declared.expr.UnaryOp.{UnaryOp}
use Rattle.mace_ast.specs.declared.expr.UnaryOp.TheVariants.{Neg, Not}
use Rattle.mace_ast.specs.declared.expr.BinaryOp.{BinaryOp}
use Rattle.mace_ast.specs.declared.expr.BinaryOp.TheVariants as op
use Rattle.value_ops.specs.Operators.{takes_of}

abbrev pub same_kind : Kind → Kind → Bool
same_kind k.Int k.Int = true
same_kind k.Bool k.Bool = true
same_kind k.Text k.Text = true
same_kind k.Map k.Map = true
same_kind _ _ = false

-- there is a kind, and it is this one
abbrev pub has_kind : Option Kind → Kind → Bool
has_kind None kind = false
has_kind (Some k) kind = same_kind k kind

abbrev pub takes_kinds : List Kind → ℕ → Bool
takes_kinds kinds row = pointwise same_kind (takes_of row) kinds

-- the first of these rows that takes such operands, if both have a kind
abbrev pub row_of_one : List ℕ → Option Kind → Option ℕ
row_of_one rows None = None
row_of_one rows (Some a) = find (takes_kinds (a ∷ [])) rows

abbrev pub row_of_two : List ℕ → Option Kind → Option Kind → Option ℕ
row_of_two rows (Some a) (Some b) = find (takes_kinds (a ∷ b ∷ [])) rows
row_of_two rows _ _ = None

-- the rows that are written with a sign: those of ints, and then those of other kinds
abbrev pub rows_of_sign : BinaryOp → List ℕ
rows_of_sign op.Or = []
rows_of_sign op.And = []
rows_of_sign op.Eq = 7 ∷ 13 ∷ 15 ∷ []
rows_of_sign op.Ne = 8 ∷ 14 ∷ 16 ∷ []
rows_of_sign op.Lt = 9 ∷ 17 ∷ []
rows_of_sign op.Le = 10 ∷ []
rows_of_sign op.Gt = 11 ∷ []
rows_of_sign op.Ge = 12 ∷ []
rows_of_sign op.Add = 0 ∷ 18 ∷ []
rows_of_sign op.Sub = 1 ∷ []
rows_of_sign op.Mul = 2 ∷ []
rows_of_sign op.Div = 3 ∷ []
rows_of_sign op.Rem = 4 ∷ []

abbrev pub rows_before : UnaryOp → List ℕ
rows_before Neg = 5 ∷ []
rows_before Not = 6 ∷ []

-- `m[k]`
abbrev pub rows_of_index : List ℕ
rows_of_index = 19 ∷ []
