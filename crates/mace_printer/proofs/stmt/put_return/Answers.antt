use Rattle.mace_printer.proofs.Wrote.{next}
use Rattle.mace_printer.proofs.stmt.put_return.Goals as goal

pub returns : goal.returns
returns c = next _ _ _ _ _ c.in_ok-put_key.ensures (next _ _ _ _ _ c.in_ok-put_maybe_value.ensures c.put_sign.ensures)
