use Rattle.std.proofs.Common.{[], ◌∷◌}
use Rattle.resolved_service.specs.Steps.{steps_in}
use Rattle.service_eval.specs.inner.Items.{Block, counts_of, again_of}
use Rattle.service_eval.proofs.AheadLemmas.{goes_then}
use Rattle.service_eval.proofs.loops.one_turn.Goals as goal

pub turn_body-requires : goal.turn_body-requires
turn_body-requires c =
    let due = rw c.if-due.true at c.in-Ok.ensures in
    due.1

pub returns-then-due : goal.returns-then-due
returns-then-due c =
    let due = rw c.if-due.true at c.in-Ok.ensures in
    goes_then c.args.code c.args.contexts.now c.args.contexts.now c.turn_body.new.contexts c.args.m.now c.begin_turn.new.m c.turn_body.new.m
    (counts_of c.args.cycle ∷ []) (Block (steps_in c.args.cycle.body.now) ∷ again_of c.args.cycle ∷ []) (counts_of c.args.cycle ∷ []) due c.turn_body.result c.turn_body.ensures

pub returns-else-due : goal.returns-else-due
returns-else-due c = rw c.if-due.false at c.in-Ok.ensures
