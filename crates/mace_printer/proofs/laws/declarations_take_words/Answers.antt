use Rattle.mace_printer.proofs.Counts.{declarations_take}
use Rattle.mace_printer.proofs.laws.declarations_take_words.Goals as goal

pub returns : goal.returns
returns c = declarations_take
