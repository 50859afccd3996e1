use Rattle.mace_printer.proofs.Wrote.{next}
use Rattle.mace_printer.proofs.stmt.put_child_called.Goals as goal

pub returns : goal.returns
returns c = next _ _ _ _ _ c.in_ok-put_child_key.ensures c.put_called.ensures
