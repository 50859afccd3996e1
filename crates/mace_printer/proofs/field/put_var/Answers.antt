use Rattle.std.proofs.Common.{ap}
use Rattle.mace_printer.specs.Canon.{key}
use Rattle.mace_printer.proofs.Wrote.{next, same_words}
use Rattle.mace_printer.proofs.field.put_var.Goals as goal

pub returns : goal.returns
returns c = next _ _ _ _ _ c.in_ok-put_key.ensures (next _ _ _ _ _ c.in_ok-put_name.ensures (next _ _ _ _ _ c.in_ok-put_sign.ensures (next _ _ _ _ _ (same_words _ (ap key c.kind_key.ensures) c.in_ok-put_key-2.ensures) (next _ _ _ _ _ c.in_ok-put_sign-2.ensures (next _ _ _ _ _ c.in_ok-put_literal.ensures c.put_sign-3.ensures)))))
