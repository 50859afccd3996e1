use Rattle.std.proofs.Common.{arith}
use Rattle.service_eval.specs.inner.Items.{again_of, counts_of}
use Rattle.service_eval.specs.inner.Machines.{on_top}
use Rattle.service_eval.specs.inner.Turns.{mach}
use Rattle.service_eval.proofs.FinishTurns.{goes_from}
use Rattle.service_eval.proofs.loops.again.Goals as goal

pub counts-requires : goal.counts-requires
counts-requires c =
    let on = rw c.if-more.true at c.in-Ok.ensures in
    on.1

pub returns-then-more : goal.returns-then-more
returns-then-more c =
    let code = c.args.code in
    let on = rw c.if-more.true at c.in-Ok.ensures in
    goes_from code (on_top (again_of c.args.cycle) (mach code c.args.contexts.now c.args.m.now)) (on_top (counts_of c.args.cycle) (mach code c.args.contexts.now c.go_on.new.m)) c.counts.result (mach code c.counts.new.contexts c.counts.new.m) on.0 c.counts.ensures (omega (arith, on.2))

pub returns-else-more : goal.returns-else-more
returns-else-more c = rw c.if-more.false at c.in-Ok.ensures
