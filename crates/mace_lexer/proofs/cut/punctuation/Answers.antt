use Rattle.std.proofs.Common.{sym, ◌∙◌}
use Rattle.mace_lexer.proofs.Found.{found_two, found_one, found_none}
use Rattle.mace_lexer.proofs.cut.punctuation.Goals as goal

pub returns-in-Some : goal.returns-in-Some
returns-in-Some c = found_two c.args.text.now c.in-Some.s c.requires.form c.in-Some.ensures.some.0 c.in-Some.ensures.some.1

pub returns-in-Some-sign : goal.returns-in-Some-sign
returns-in-Some-sign c = found_one c.args.text.now c.in-Some-sign.s c.requires.some c.requires.form c.in_default.ensures.none (sym c.sign.ensures ∙ c.in-Some-sign.is)

pub returns-in-None : goal.returns-in-None
returns-in-None c = found_none c.args.text.now c.requires.some c.requires.form c.in_default.ensures.none (sym c.sign.ensures ∙ c.in-None.is)
