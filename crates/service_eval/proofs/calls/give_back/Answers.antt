use Rattle.std.proofs.Common.{refl}
use Rattle.service_eval.proofs.LeaveTurns.{given_back, none_given_back}
use Rattle.service_eval.proofs.calls.give_back.Goals as goal

pub returns-in-Some : goal.returns-in-Some
returns-in-Some c =
    given_back c.args.code c.args.contexts.now c.args.m.now c.to_caller.new.self c.requires c.in-Some.ensures.rest c.in-Some.caller c.in-Some.ensures.some c.args.value c.worth.result c.go_on.new.m c.go_on.result c.worth.ensures c.go_on.ensures.ok c.go_on.ensures.err c.requires.holds

pub returns-in-None : goal.returns-in-None
returns-in-None c = none_given_back c.args.code c.args.contexts.now c.args.m.now c.to_caller.new.self c.requires c.in-None.ensures.rest c.args.value (c.in-None.ensures.none refl)
