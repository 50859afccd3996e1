use Rattle.std.proofs.Common.{arith}
use Rattle.service_eval.specs.inner.Items.{check_of, turns_of}
use Rattle.service_eval.specs.inner.Machines.{on_top}
use Rattle.service_eval.specs.inner.Turns.{mach}
use Rattle.service_eval.proofs.FinishTurns.{goes_from}
use Rattle.service_eval.proofs.loops.check.Goals as goal

pub turns-requires : goal.turns-requires
turns-requires c =
    let on = rw c.if-more.true at c.in-Ok.ensures in
    on.1

pub returns-then-more : goal.returns-then-more
returns-then-more c =
    let code = c.args.code in
    let on = rw c.if-more.true at c.in-Ok.ensures in
    goes_from code (on_top (check_of c.args.cycle c.args.base) (mach code c.args.contexts.now c.args.m.now)) (on_top (turns_of c.args.cycle) (mach code c.check_turn.new.contexts c.check_turn.new.m)) c.turns.result (mach code c.turns.new.contexts c.turns.new.m) on.0 c.turns.ensures (omega (arith, on.2))

pub returns-else-more : goal.returns-else-more
returns-else-more c = rw c.if-more.false at c.in-Ok.ensures
