use Rattle.mace_printer.proofs.Wrote.{next}
use Rattle.mace_printer.proofs.stmt.put_range.Goals as goal

pub returns : goal.returns
returns c = next _ _ _ _ _ c.in_ok-put_key.ensures (next _ _ _ _ _ c.in_ok-put_name.ensures (next _ _ _ _ _ c.in_ok-put_key-2.ensures (next _ _ _ _ _ c.in_ok-put_expr.ensures (next _ _ _ _ _ c.in_ok-put_key-3.ensures c.put_expr-2.ensures))))
