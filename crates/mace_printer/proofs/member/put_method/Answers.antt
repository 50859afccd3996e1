use Rattle.std.proofs.Common.{ap, map}
use Rattle.mace_ast.specs.Stmts.{stmt_tree}
use Rattle.mace_printer.specs.Canon.{params_words, body_words}
use Rattle.mace_printer.proofs.Wrote.{next, same_words}
use Rattle.mace_printer.proofs.member.put_method.Goals as goal

pub returns : goal.returns
returns c = next _ _ _ _ _ c.in_ok-put_key.ensures (next _ _ _ _ _ c.in_ok-put_name.ensures (next _ _ _ _ _ (same_words _ (ap params_words c.as_slice.ensures) c.in_ok-put_params.ensures) (next _ _ _ _ _ c.in_ok-put_result.ensures (next _ _ _ _ _ c.in_ok-put_sign.ensures (next _ _ _ _ _ (same_words _ (ap (λ l. body_words (map stmt_tree l)) c.as_slice-2.ensures) c.in_ok-put_stmts.ensures) (next _ _ _ _ _ c.in_ok-put_last.ensures c.put_sign-2.ensures))))))
