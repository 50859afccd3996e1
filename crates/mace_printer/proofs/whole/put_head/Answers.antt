use Rattle.mace_printer.proofs.Wrote.{next}
use Rattle.mace_printer.proofs.whole.put_head.Goals as goal

pub returns : goal.returns
returns c = next _ _ _ _ _ c.in_ok-put_key.ensures (next _ _ _ _ _ c.in_ok-put_name.ensures (next _ _ _ _ _ c.in_ok-put_sign.ensures (next _ _ _ _ _ c.in_ok-put_key-2.ensures (next _ _ _ _ _ c.in_ok-put_sign-2.ensures c.put_sign-3.ensures))))
