use Rattle.std.proofs.Common.{[], ◌∷◌}
use Rattle.resolved_service.specs.Steps.{steps_in}
use Rattle.service_eval.specs.inner.Items.{Block, check_of, turns_of}
use Rattle.service_eval.proofs.AheadLemmas.{goes_then}
use Rattle.service_eval.proofs.loops.check_turn.Goals as goal

pub while_body-requires : goal.while_body-requires
while_body-requires c =
    let due = rw c.if-due.true at c.in-Ok.ensures in
    due.1

pub returns-then-due : goal.returns-then-due
returns-then-due c =
    let due = rw c.if-due.true at c.in-Ok.ensures in
    goes_then c.args.code c.args.contexts.now c.args.contexts.now c.while_body.new.contexts c.args.m.now c.due_turn.new.m c.while_body.new.m
    (check_of c.args.cycle c.args.base ∷ []) (Block (steps_in c.args.cycle.body.now) ∷ turns_of c.args.cycle ∷ []) (turns_of c.args.cycle ∷ []) due c.while_body.result c.while_body.ensures

pub returns-else-due : goal.returns-else-due
returns-else-due c = rw c.if-due.false at c.in-Ok.ensures
