use Rattle.std.proofs.Common.{Ok, Err, refl, ◌∙◌, arith}
use Rattle.service_eval.specs.inner.Items.{turns_of}
use Rattle.service_eval.specs.inner.Machines.{on_top}
use Rattle.service_eval.specs.inner.Turns.{mach}
use Rattle.service_eval.proofs.FinishTurns.{goes_from}
use Rattle.service_eval.proofs.loops.turns.Goals as goal

pub turns-init : goal.turns-init
turns-init c = record { same = refl; less = omega arith; ready = c.requires }

pub test_turn-requires : goal.test_turn-requires
test_turn-requires c = c.turns.invariant.ready

pub returns-then-not-more : goal.returns-then-not-more
returns-then-not-more c =
    let code = c.args.code in
    let item = turns_of c.args.cycle in
    let done = rw c.if-not-more.true at c.in-Ok.ensures in
    goes_from code (on_top item (mach code c.args.contexts.now c.args.m.now)) (on_top item (mach code c.turns.contexts c.turns.m)) (Ok tt) (mach code c.test_turn.new.contexts c.test_turn.new.m) c.turns.invariant.same done c.turns.invariant.less

pub turns-preserved : goal.turns-preserved
turns-preserved c =
    let done = rw c.if-not-more.false at c.in-Ok.ensures in
    record { same = c.turns.invariant.same ∙ done.0; less = omega (arith, done.2, c.turns.invariant.less); ready = done.1 }

pub turns-smaller : goal.turns-smaller
turns-smaller c =
    let done = rw c.if-not-more.false at c.in-Ok.ensures in
    done.2

pub returns-in-Err : goal.returns-in-Err
returns-in-Err c =
    let code = c.args.code in
    let item = turns_of c.args.cycle in
    goes_from code (on_top item (mach code c.args.contexts.now c.args.m.now)) (on_top item (mach code c.turns.contexts c.turns.m)) (Err c.in-Err.e) (mach code c.test_turn.new.contexts c.test_turn.new.m) c.turns.invariant.same c.in-Err.ensures c.turns.invariant.less
