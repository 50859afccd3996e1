use Rattle.std.proofs.Common.{◌<◌, subst, arith}
use Rattle.wave_board.specs.Taking.{Took}
use Rattle.tests_board.proofs.Turning.{is_out, may_take, standing}
use Rattle.tests_board.proofs.tests.turns.take_segment.Goals as goal

pub take-requires-clause-stands : goal.take-requires-clause-stands
take-requires-clause-stands g c = standing c.args.plan.now c.args.board.now c.requires.stands

pub take-requires-clause-may : goal.take-requires-clause-may
take-requires-clause-may g c =
    let below : c.args.worker.0 < c.args.plan.now.workers = omega arith in
    may_take c.args.plan.now c.args.board.now c.requires c.args.worker below

pub returns : goal.returns
returns g c =
    let took = subst (Took c.args.board.now c.args.worker c.take.new.self) c.in-Segment.is c.in_ok-work.ensures.took in
    is_out c.args.plan.now c.args.board.now c.take.new.self c.take.ensures.stands c.requires took.0 c.in-Segment.parcel took.1 took.3
