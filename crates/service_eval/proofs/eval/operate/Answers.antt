use Rattle.std.proofs.Common.{map}
use Rattle.resolved_service.specs.View as r
use Rattle.resolved_service.specs.View.{tree_of, trees_of}
use Rattle.service_eval.specs.inner.Turns.{mach}
use Rattle.service_eval.proofs.EvalLemmas as e
use Rattle.service_eval.proofs.EvalTurns.{op_turn}
use Rattle.service_eval.proofs.ReadyLemmas.{gives}
use Rattle.service_eval.proofs.eval.operate.Goals as goal

pub returns-in-Ok-Some : goal.returns-in-Ok-Some
returns-in-Ok-Some c =
    let found = rw c.in-Ok-Some.field-0-is at c.in-Ok-Some.ensures.finds in
    gives c.args.code c.args.contexts.now c.args.m.now c.give.new.self c.give.result (r.Op c.args.at c.args.row (trees_of (map tree_of c.args.args.now))) c.in-Ok-Some.value found c.give.ensures.ok c.give.ensures.err c.requires

pub returns-in-Ok-None : goal.returns-in-Ok-None
returns-in-Ok-None c =
    op_turn c.args.code c.args.contexts.now c.args.m.now c.push_two.new.self c.push_two.result c.height-base.result c.height-base.ensures c.args.at c.args.row (trees_of (map tree_of c.args.args.now)) c.push_two.ensures.ok c.push_two.ensures.err c.requires

pub returns-in-Err : goal.returns-in-Err
returns-in-Err c =
    (e.found_fails c.args.code.methods.now (mach c.args.code c.args.contexts.now c.args.m.now) (r.Op c.args.at c.args.row (trees_of (map tree_of c.args.args.now))) c.in-Err.e _ c.in-Err.ensures.finds, c.requires.holds)
