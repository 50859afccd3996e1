use Rattle.std.proofs.Common.{ap}
use Rattle.mace_printer.specs.Canon.{key}
use Rattle.mace_printer.proofs.Wrote.{next, same_next}
use Rattle.mace_printer.proofs.field.put_param.Goals as goal

pub returns : goal.returns
returns c = next _ _ _ _ _ c.in_ok-put_name.ensures (next _ _ _ _ _ c.in_ok-put_sign.ensures (same_next _ _ _ (ap key c.kind_key.ensures) c.put_key.ensures))
