-- Tables of child classes by name, while they are made.
use Rattle.std.specs.Prelude.{ℕ, ◌<◌, List, [], length, get_or, set, slice_get, Option, Some, None, IfSome}
use Rattle.wave_base.specs.declared.path.Class.{Class}
use Rattle.wave_base.specs.declared.shape.ClassInfo.{ClassInfo}
use Rattle.wave_base.specs.Shapes.{parent_in}
use Rattle.name_table.specs.Numbers.{numbers_with}

-- a class's parent stands before it
abbrev pub AreBelow : List ClassInfo → Type 0
AreBelow classes = (n : ℕ) → n < length classes → IfSome (parent_in (slice_get classes n)) (λ d. d.0 < n)

abbrev pub with_named : List (List (List ℕ × ℕ)) → Option Class → List ℕ → ℕ → List (List (List ℕ × ℕ))
with_named tables None name number = tables
with_named tables (Some d) name number = set tables d.0 (numbers_with (get_or tables d.0 []) name number)

-- one class more, in its parent's table
abbrev pub with_child : List (List (List ℕ × ℕ)) → ClassInfo → ℕ → List (List (List ℕ × ℕ))
with_child tables info number = with_named tables info.parent info.name number
