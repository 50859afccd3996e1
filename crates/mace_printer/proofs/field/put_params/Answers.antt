use Rattle.mace_printer.proofs.Wrote.{next}
use Rattle.mace_printer.proofs.field.put_params.Goals as goal

pub returns : goal.returns
returns c = next _ _ _ _ _ c.in_ok-put_sign.ensures (next _ _ _ _ _ c.in_ok-put_list.ensures c.put_sign-2.ensures)
