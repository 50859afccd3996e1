use Rattle.std.proofs.Common.{sym, ◌∙◌, refl, get_or}
use Rattle.std.proofs.lemmas.List.{get_or_default}
use Rattle.type_rules.specs.Kinds.{takes_kinds}
use Rattle.type_tables.specs.Rows.{operands}
use Rattle.type_tables.proofs.Walks.{found}
use Rattle.type_tables.proofs.operators.Operators.first.Goals as goal

pub returns-then-takes_operands-clause-found : goal.returns-then-takes_operands-clause-found
returns-then-takes_operands-clause-found c =
    found (takes_kinds (operands c.args.a c.args.b)) _ _ c.loop-row.row-index (get_or c.args.rows.now c.loop-row.row-index 0) refl c.loop-row.invariant c.loop-row-test.true (get_or_default _ _ _ _ c.loop-row-test.true) (sym c.takes_operands.ensures ∙ c.if-takes_operands.true)
