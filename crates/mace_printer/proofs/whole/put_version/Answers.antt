use Rattle.std.proofs.Common.{ap, sym}
use Rattle.mace_printer.specs.Canon.{version_words}
use Rattle.mace_printer.proofs.Wrote.{same_words, nothing}
use Rattle.mace_printer.proofs.whole.put_version.Goals as goal

pub returns-in-First : goal.returns-in-First
returns-in-First c = same_words _ (ap version_words (sym c.in-First.is)) (nothing _)
