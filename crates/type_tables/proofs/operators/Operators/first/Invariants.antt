use Rattle.std.proofs.Common.{◌≡◌, drop, find}
use Rattle.type_rules.specs.Kinds.{takes_kinds}
use Rattle.type_tables.specs.Rows.{operands}
use Rattle.type_tables.proofs.operators.Operators.first.Given as goal

abbrev pub invariant-loop-row : goal.invariant-loop-row
invariant-loop-row l = find (takes_kinds (operands l.a l.b)) l.rows ≡ find (takes_kinds (operands l.a l.b)) (drop l.row-index l.rows)
