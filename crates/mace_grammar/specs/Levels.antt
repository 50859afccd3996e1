-- The levels of operators, counted.
use Rattle.std.specs.Prelude.{ℕ, suc, Option, Some, None}
use Rattle.mace_grammar.specs.declared.level.Level.{Level}
use Rattle.mace_grammar.specs.declared.level.Level.TheVariants.{Or, And, Comparison, Sum, Product}

-- how many levels are looser
abbrev pub looser_ones : Level → ℕ
looser_ones Or = 0
looser_ones And = 1
looser_ones Comparison = 2
looser_ones Sum = 3
looser_ones Product = 4

-- how many are looser than what is wanted of an operand: one of this level at the loosest, or one with no operator outside of parentheses
abbrev pub wanted_looser : Option Level → ℕ
wanted_looser (Some level) = looser_ones level
wanted_looser None = 5

-- how many levels are tighter
abbrev pub tighter_ones : Level → ℕ
tighter_ones Or = 4
tighter_ones And = 3
tighter_ones Comparison = 2
tighter_ones Sum = 1
tighter_ones Product = 0

-- and how many with itself
abbrev pub levels_from : Level → ℕ
levels_from level = suc (tighter_ones level)
