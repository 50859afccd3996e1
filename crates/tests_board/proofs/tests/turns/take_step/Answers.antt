use Rattle.std.proofs.Common.{◌<◌, subst, arith}
use Rattle.wave_board.specs.Taking.{Took}
use Rattle.tests_board.proofs.Turning.{may_take, ready_step, standing}
use Rattle.tests_board.proofs.tests.turns.take_step.Goals as goal

pub take-requires-clause-stands : goal.take-requires-clause-stands
take-requires-clause-stands g c = standing c.args.plan.now c.args.board.now c.requires.stands

pub take-requires-clause-may : goal.take-requires-clause-may
take-requires-clause-may g c =
    let below : c.args.worker.0 < c.args.plan.now.workers = omega arith in
    may_take c.args.plan.now c.args.board.now c.requires c.args.worker below

pub returns : goal.returns
returns g c =
    let took = subst (Took c.args.board.now c.args.worker c.take.new.self) c.in-Stepped.is c.in_ok-work.ensures.took in
    ready_step c.args.plan.now c.args.board.now c.take.new.self c.take.ensures.stands c.requires _ took.0 took.2
