use Rattle.std.proofs.Common.{◌∙◌}
use Rattle.mace_parser.proofs.Steps.{there, beyond}
use Rattle.mace_parser.proofs.whole.place.Goals as goal

pub returns-in-Some : goal.returns-in-Some
returns-in-Some c = there c.args.text.now c.args.tokens.now c.args.k c.in-Some.t.now c.in-Some.ensures.lookup.3.0 c.in-Some.ensures.lookup.1

pub returns-in-None : goal.returns-in-None
returns-in-None c = c.text_end.ensures ∙ beyond c.args.text.now c.args.tokens.now c.args.k c.in-None.ensures.lookup.3
