use Rattle.std.proofs.Common.{[]}
use Rattle.resolved_service.specs.Steps.{steps_in}
use Rattle.service_eval.specs.inner.Items.{Block}
use Rattle.service_eval.specs.inner.Machines.{on_top}
use Rattle.service_eval.specs.inner.Turns.{mach}
use Rattle.service_eval.proofs.AheadLemmas.{left_comes, left_ready, left_lighter, stops_fail}
use Rattle.service_eval.proofs.FinishTurns.{goes_from}
use Rattle.service_eval.proofs.ReadyLemmas.{ready_with}
use Rattle.service_eval.proofs.block.block.Goals as goal

pub as_far-requires-clause-ready : goal.as_far-requires-clause-ready
as_far-requires-clause-ready c = ready_with _ _ _ _ _ c.requires c.requires.items.1

pub as_far-requires-clause-fits : goal.as_far-requires-clause-fits
as_far-requires-clause-fits c = c.requires.items.0

pub begin_rest-requires : goal.begin_rest-requires
begin_rest-requires c = left_ready c.args.code c.args.contexts.now c.as_far.new.contexts c.args.m.now c.as_far.new.m (steps_in c.args.stmts.now) (steps_in c.in-Ok.rest.now) c.in-Ok.ensures.ok [] c.requires.items.1

pub returns-in-Ok : goal.returns-in-Ok
returns-in-Ok c =
    let code = c.args.code in
    let all = steps_in c.args.stmts.now in
    let left = steps_in c.in-Ok.rest.now in
    goes_from code (on_top (Block all) (mach code c.args.contexts.now c.args.m.now)) (on_top (Block left) (mach code c.as_far.new.contexts c.as_far.new.m)) c.begin_rest.result (mach code c.begin_rest.new.contexts c.begin_rest.new.m)
    (left_comes code c.args.contexts.now c.as_far.new.contexts c.args.m.now c.as_far.new.m all left c.in-Ok.ensures.ok [])
    c.begin_rest.ensures
    (left_lighter code c.args.contexts.now c.as_far.new.contexts c.args.m.now c.as_far.new.m all left c.in-Ok.ensures.ok [])

pub returns-in-Err : goal.returns-in-Err
returns-in-Err c = stops_fail c.args.code c.args.contexts.now c.as_far.new.contexts c.args.m.now c.as_far.new.m (steps_in c.args.stmts.now) [] c.in-Err.e c.in-Err.ensures.err
