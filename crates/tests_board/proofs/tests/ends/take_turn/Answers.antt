use Rattle.std.proofs.Common.{refl, subst}
use Rattle.wave_board.specs.Taking.{Took}
use Rattle.tests_board.proofs.Turning.{first_may_take, is_out, ready_step, standing}
use Rattle.tests_board.specs.inner.Ready.{the_worker}
use Rattle.tests_board.proofs.tests.ends.take_turn.Goals as goal

pub take-requires-clause-stands : goal.take-requires-clause-stands
take-requires-clause-stands g c = standing c.args.plan.now c.args.board.now c.requires.stands

pub take-requires-clause-may : goal.take-requires-clause-may
take-requires-clause-may g c = first_may_take c.args.plan.now c.args.board.now c.requires _ refl

pub returns-in-Stepped : goal.returns-in-Stepped
returns-in-Stepped g c =
    let took = subst (Took c.args.board.now the_worker c.take.new.self) c.in-Stepped.is c.in_ok-work.ensures.took in
    ready_step c.args.plan.now c.args.board.now c.take.new.self c.take.ensures.stands c.requires _ took.0 took.2

pub give_back-requires : goal.give_back-requires
give_back-requires g c =
    let took = subst (Took c.args.board.now the_worker c.take.new.self) c.in-Segment.is c.in_ok-work.ensures.took in
    is_out c.args.plan.now c.args.board.now c.take.new.self c.take.ensures.stands c.requires took.0 c.in-Segment.parcel took.1 took.3

pub returns-in-Segment : goal.returns-in-Segment
returns-in-Segment g c = c.give_back.ensures
