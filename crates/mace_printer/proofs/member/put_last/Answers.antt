use Rattle.std.proofs.Common.{ap, sym}
use Rattle.std.specs.Option.{option_map}
use Rattle.mace_ast.specs.Decls.{last_tree}
use Rattle.mace_printer.specs.Canon.{last_words}
use Rattle.mace_printer.proofs.Wrote.{next, same_next, same_words, nothing}
use Rattle.mace_printer.proofs.member.put_last.Goals as goal

pub returns-in-None : goal.returns-in-None
returns-in-None c = same_words _ (ap (λ l. last_words c.args.key (option_map last_tree l)) (sym c.in-None.is)) (nothing _)

pub returns-in_ok-put_key-in-Some : goal.returns-in_ok-put_key-in-Some
returns-in_ok-put_key-in-Some c = same_next _ _ _ (ap (λ l. last_words c.args.key (option_map last_tree l)) (sym c.in-Some.is)) (next _ _ _ _ _ c.in_ok-put_key-in-Some.ensures c.put_ended.ensures)
