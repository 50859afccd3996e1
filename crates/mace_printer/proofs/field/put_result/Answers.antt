use Rattle.std.proofs.Common.{ap, sym}
use Rattle.mace_printer.specs.Canon.{key, result_words}
use Rattle.mace_printer.proofs.Wrote.{next, same_next, same_words, nothing}
use Rattle.mace_printer.proofs.field.put_result.Goals as goal

pub returns-in-None : goal.returns-in-None
returns-in-None c = same_words _ (ap result_words (sym c.in-None.is)) (nothing _)

pub returns-in_ok-put_sign-in-Some : goal.returns-in_ok-put_sign-in-Some
returns-in_ok-put_sign-in-Some c = same_next _ _ _ (ap result_words (sym c.in-Some.is)) (next _ _ _ _ _ c.in_ok-put_sign-in-Some.ensures (same_next _ _ _ (ap key c.kind_key.ensures) c.put_key.ensures))
