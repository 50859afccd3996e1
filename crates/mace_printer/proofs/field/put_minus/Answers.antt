use Rattle.std.proofs.Common.{ap}
use Rattle.std.specs.Int.{w64}
use Rattle.std.proofs.lemmas.Int.{to_z-of_z}
use Rattle.mace_printer.specs.Canon.{number}
use Rattle.mace_printer.proofs.Wrote.{next, same_next}
use Rattle.mace_printer.proofs.field.put_minus.Goals as goal

pub returns : goal.returns
returns c = next _ _ _ _ _ c.in_ok-put_sign.ensures (same_next _ _ _ (ap number (to_z-of_z w64 c.args.n c.ranges.n)) c.put_number.ensures)
