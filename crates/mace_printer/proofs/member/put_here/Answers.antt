use Rattle.std.proofs.Common.{ap, map, sym}
use Rattle.std.specs.Option.{option_map}
use Rattle.mace_ast.specs.Stmts.{stmt_tree}
use Rattle.mace_printer.specs.Canon.{here_words, braced_words}
use Rattle.mace_printer.proofs.Wrote.{next, same_next, same_words, nothing}
use Rattle.mace_printer.proofs.member.put_here.Goals as goal

pub returns-in-None : goal.returns-in-None
returns-in-None c = same_words _ (ap (λ l. here_words (option_map (map stmt_tree) l)) (sym c.in-None.is)) (nothing _)

pub returns-in_ok-put_key-in-Some : goal.returns-in_ok-put_key-in-Some
returns-in_ok-put_key-in-Some c = same_next _ _ _ (ap (λ l. here_words (option_map (map stmt_tree) l)) (sym c.in-Some.is)) (next _ _ _ _ _ c.in_ok-put_key-in-Some.ensures (same_next _ _ _ (ap (λ l. braced_words (map stmt_tree l)) c.as_slice.ensures) c.put_block.ensures))
