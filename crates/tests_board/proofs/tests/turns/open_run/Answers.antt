use Rattle.tests_board.proofs.Turning.{ready_new}
use Rattle.tests_board.proofs.tests.turns.open_run.Goals as goal

pub returns : goal.returns
returns c = ready_new c.new.result c.args.plan c.args._start c.requires.first c.new.ensures.stands c.new.ensures.empty
