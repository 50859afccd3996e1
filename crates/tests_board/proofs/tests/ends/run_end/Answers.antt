use Rattle.std.proofs.Common.{refl, subst}
use Rattle.wave_board.specs.Taking.{Took}
use Rattle.tests_board.specs.inner.Ready.{the_worker}
use Rattle.tests_board.proofs.Turning.{first_may_take, is_finished, standing}
use Rattle.tests_board.proofs.tests.ends.run_end.Goals as goal

pub take-requires-clause-stands : goal.take-requires-clause-stands
take-requires-clause-stands g c = standing c.args.plan.now c.args.board c.requires.stands

pub take-requires-clause-may : goal.take-requires-clause-may
take-requires-clause-may g c = first_may_take c.args.plan.now c.args.board c.requires _ refl

pub parts-requires : goal.parts-requires
parts-requires g c =
    let took = subst (Took c.args.board the_worker c.take.new.self) c.in-Finished.is c.in_ok-work.ensures.took in
    is_finished c.args.plan.now c.args.board c.take.new.self c.take.ensures.stands c.requires took.2 took.1
