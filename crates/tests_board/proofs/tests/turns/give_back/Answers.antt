use Rattle.tests_board.proofs.Turning.{has_run, is_fit}
use Rattle.tests_board.proofs.tests.turns.give_back.Goals as goal

pub run-requires-clause-fit : goal.run-requires-clause-fit
run-requires-clause-fit c = is_fit c.args.plan.now c.args.board.now c.requires.stands

pub run-requires-clause-may_run : goal.run-requires-clause-may_run
run-requires-clause-may_run c = c.requires.may_run

pub give-requires : goal.give-requires
give-requires c = has_run c.args.plan.now c.args.board.now c.args.parcel c.in_ok-reply.reply.lease c.in_ok-reply.reply.pause c.requires c.in_ok-reply.ensures.worker c.in_ok-reply.ensures.segment
