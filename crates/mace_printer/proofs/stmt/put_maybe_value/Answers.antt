use Rattle.std.proofs.Common.{ap, sym}
use Rattle.std.specs.Option.{option_map}
use Rattle.mace_ast.specs.Exprs.{expr_tree}
use Rattle.mace_printer.specs.Canon.{maybe_words}
use Rattle.mace_printer.proofs.Wrote.{same_words, nothing}
use Rattle.mace_printer.proofs.stmt.put_maybe_value.Goals as goal

pub returns-in-None : goal.returns-in-None
returns-in-None c = same_words _ (ap (λ l. maybe_words (option_map expr_tree l)) (sym c.in-None.is)) (nothing _)
