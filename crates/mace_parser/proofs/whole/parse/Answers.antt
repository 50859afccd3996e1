use Rattle.mace_parser.proofs.Judged.{answers_tree, answers_expected, answers_deep}
use Rattle.mace_parser.proofs.whole.parse.Goals as goal

pub returns-clause-only : goal.returns-clause-only
returns-clause-only c = answers_tree c.args.text.now c.args.tokens.now c.read.result c.read.ensures.spelled c.read.ensures.nest c.read.ensures.error

pub returns-clause-expected : goal.returns-clause-expected
returns-clause-expected c = answers_expected c.args.text.now c.args.tokens.now c.read.result c.read.ensures.spelled c.read.ensures.nest c.read.ensures.error

pub returns-clause-deep : goal.returns-clause-deep
returns-clause-deep c = answers_deep c.args.text.now c.args.tokens.now c.read.result c.read.ensures.spelled c.read.ensures.nest c.read.ensures.error
