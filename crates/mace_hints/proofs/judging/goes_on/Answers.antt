use Rattle.std.proofs.Common.{List, sym, subst}
use Rattle.std.specs.Prelude.{◌↔◌, IsTrue, IfOk}
use Rattle.mace_lexer.specs.declared.token.Word.{Word}
use Rattle.mace_grammar.specs.Spelled.{words}
use Rattle.mace_printer.specs.Written.{IsCutInto}
use Rattle.mace_hints.proofs.Standing.{Stands}
use Rattle.mace_hints.proofs.Trying.{cut_goes_on, lexer_cuts_none}
use Rattle.mace_hints.proofs.judging.goes_on.Goals as goal

pub returns-in-Ok : goal.returns-in-Ok
returns-in-Ok c = cut_goes_on c.args.text.now c.in-Ok.tokens c.tokens_go_on.result c.in-Ok.ensures.only (subst (λ ts. IfOk c.tokens_go_on.result (λ yes. IsTrue yes ↔ Stands (words ts))) c.as_slice.ensures c.tokens_go_on.ensures)

pub returns-in-Err : goal.returns-in-Err
returns-in-Err c = subst (λ r. IfOk r (λ yes. (ws : List Word) → IsCutInto c.args.text.now ws → IsTrue yes ↔ Stands ws)) (sym c.of_lexer.ensures) (lexer_cuts_none c.args.text.now c.in-Err.fault c.in-Err.ensures.only)
