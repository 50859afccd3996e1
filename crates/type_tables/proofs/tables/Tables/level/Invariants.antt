use Rattle.std.proofs.Common.{◌≡◌, ◌==◌, drop}
use Rattle.std.specs.List.{position_from}
use Rattle.type_tables.proofs.tables.Tables.level.Given as goal

abbrev pub invariant-loop-i : goal.invariant-loop-i
invariant-loop-i l = position_from (λ c. c == l.ancestor) 0 l.above-items ≡ position_from (λ c. c == l.ancestor) l.i (drop l.i l.above-items)
