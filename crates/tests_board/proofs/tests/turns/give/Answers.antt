use Rattle.std.proofs.Common.{subst}
use Rattle.plan_actors.specs.Plans.{Fits}
use Rattle.plan_actors.proofs.Owing.{setting_of}
use Rattle.wave_effects.specs.Plans.{plan_of}
use Rattle.tests_board.proofs.Turning.{can_give, given_back, refused}
use Rattle.tests_board.proofs.tests.turns.give.Goals as goal

pub give-requires : goal.give-requires
give-requires c = can_give c.args.plan.now c.args.board.now c.args.reply.lease c.args.reply.pause c.requires

pub returns-clause-ready : goal.returns-clause-ready
returns-clause-ready c = given_back c.args.plan.now c.args.board.now c.give.new.self c.args.reply.lease c.args.reply.pause c.requires c.give.result c.give.ensures.stands c.give.ensures.given

pub returns-clause-again : goal.returns-clause-again
returns-clause-again c =
    let at = c.requires.stands.at in
    let plan = plan_of c.requires.stands.origin.plan.now in
    let fits = subst Fits at.plan at.fits in
    refused c.args.plan.now c.args.board.now c.give.new.self c.args.reply.lease c.args.reply.pause c.requires (c.hands_stay_over.ensures (setting_of plan.program fits.fit fits.verified plan.script.hosts)) c.give.result c.give.ensures.refused c.give.ensures.still c.give.ensures.same
