-- The rows of an operator table, and the first builtin of a name.
use Rattle.std.specs.Prelude.{ℕ, Bool, ◌&&◌, List, [], ◌∷◌, Option, Some, None, position}
use Rattle.wave_base.specs.declared.value.Kind.{Kind}
use Rattle.wave_base.specs.Names.{same_bytes}
use Rattle.wave_base.specs.Operators.{first_names, operator_names, name_of_operator}
use Rattle.value_ops.specs.declared.row.KeptRow.{KeptRow}
use Rattle.value_ops.specs.declared.row.OpRow.{OpRow}
use Rattle.value_ops.specs.Operators.{Operator, operators}

pub record Row : Type 0 where
  pub name : List ℕ
  pub builtin : Bool
  pub takes : List (Option Kind)
  pub gives : Kind

abbrev pub row_of : OpRow → Row
row_of r = record { name = r.name.now; builtin = r.builtin; takes = r.takes; gives = r.gives }

-- a row as a table keeps it
abbrev pub kept_row : KeptRow → Row
kept_row r = record { name = name_of_operator r.operator; builtin = r.builtin; takes = r.takes; gives = r.gives }

-- at most three kinds, and none behind them
abbrev pub three : List Kind → List (Option Kind)
three [] = None ∷ None ∷ None ∷ []
three (a ∷ []) = Some a ∷ None ∷ None ∷ []
three (a ∷ b ∷ []) = Some a ∷ Some b ∷ None ∷ []
three (a ∷ b ∷ c ∷ kinds) = Some a ∷ Some b ∷ Some c ∷ []

abbrev pub row_with : List ℕ → Operator → Row
row_with name o = record { name = name; builtin = o.builtin; takes = three o.takes; gives = o.gives }

-- each operator under its name, as far as there are names
abbrev pub named_rows : List (List ℕ) → List Operator → List Row
named_rows [] os = []
named_rows (name ∷ names) [] = []
named_rows (name ∷ names) (o ∷ os) = row_with name o ∷ named_rows names os

-- the rows of version 1 of the language
unfoldable pub wave_rows : List Row
wave_rows = named_rows first_names operators

-- and those of version 2, which has them all
unfoldable pub wave_rows_2 : List Row
wave_rows_2 = named_rows operator_names operators

abbrev pub is_builtin : List ℕ → Row → Bool
is_builtin name row = row.builtin && same_bytes row.name name

abbrev pub first_builtin : List Row → List ℕ → Option ℕ
first_builtin rows name = position (is_builtin name) rows
