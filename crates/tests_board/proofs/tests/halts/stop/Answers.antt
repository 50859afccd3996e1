use Rattle.tests_board.proofs.Turning.{ready_halt}
use Rattle.tests_board.proofs.tests.halts.stop.Goals as goal

pub returns : goal.returns
returns c = ready_halt c.args.plan.now c.args.board.now c.stop.new.self c.stop.ensures.stands c.requires.ready c.args.worker c.args.why c.stop.ensures.first c.stop.ensures.again
