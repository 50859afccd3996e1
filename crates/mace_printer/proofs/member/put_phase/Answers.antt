use Rattle.std.proofs.Common.{ap, map}
use Rattle.mace_ast.specs.Stmts.{stmt_tree}
use Rattle.mace_printer.specs.Canon.{braced_words}
use Rattle.mace_printer.proofs.Wrote.{next, same_next}
use Rattle.mace_printer.proofs.member.put_phase.Goals as goal

pub returns : goal.returns
returns c = next _ _ _ _ _ c.in_ok-put_key.ensures (next _ _ _ _ _ c.in_ok-put_name.ensures (next _ _ _ _ _ c.in_ok-put_index.ensures (same_next _ _ _ (ap (λ l. braced_words (map stmt_tree l)) c.as_slice.ensures) c.put_block.ensures)))
