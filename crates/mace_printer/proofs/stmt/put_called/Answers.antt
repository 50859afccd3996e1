use Rattle.mace_printer.proofs.Wrote.{next}
use Rattle.mace_printer.proofs.stmt.put_called.Goals as goal

pub returns : goal.returns
returns c = next _ _ _ _ _ c.in_ok-put_call.ensures c.put_sign.ensures
