use Rattle.std.proofs.Common.{refl}
use Rattle.tests_board.proofs.Turning.{first_may_take, standing}
use Rattle.tests_board.proofs.tests.halts.is_stopped.Goals as goal

pub take-requires-clause-stands : goal.take-requires-clause-stands
take-requires-clause-stands g c = standing c.args.plan.now c.args.board.now c.requires.stands

pub take-requires-clause-may : goal.take-requires-clause-may
take-requires-clause-may g c = first_may_take c.args.plan.now c.args.board.now c.requires _ refl
