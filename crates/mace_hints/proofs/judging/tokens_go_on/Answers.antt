use Rattle.std.proofs.Common.{sym, subst}
use Rattle.std.specs.Prelude.{◌↔◌, IsTrue, IfOk}
use Rattle.mace_grammar.specs.Spelled.{words}
use Rattle.mace_hints.proofs.Standing.{Stands, parser_stands}
use Rattle.mace_hints.proofs.judging.tokens_go_on.Goals as goal

pub returns : goal.returns
returns c = subst (λ r. IfOk r (λ yes. IsTrue yes ↔ Stands (words c.args.tokens.now))) (sym c.of_parser.ensures) (parser_stands c.args.text.now c.args.tokens.now c.parse.result c.parse.ensures.spelled c.parse.ensures.nest c.parse.ensures.error)
