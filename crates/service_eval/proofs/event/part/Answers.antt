use Rattle.std.proofs.Common.{Err, refl}
use Rattle.context_tree.specs.Contexts.{tree_of as shown}
use Rattle.resolved_service.specs.Steps.{steps_in}
use Rattle.service_eval.specs.inner.Items.{Block}
use Rattle.service_eval.specs.inner.Machines.{on_top}
use Rattle.service_eval.specs.inner.Turns.{mach}
use Rattle.service_eval.proofs.EventLemmas as l
use Rattle.service_eval.proofs.ReadyLemmas.{ready_with}
use Rattle.service_eval.proofs.event.part.Goals as goal

pub block-requires : goal.block-requires
block-requires c = ready_with _ _ _ _ _ c.requires.rests.ready (c.requires.fits, c.requires.rests.ready.items)

pub returns-in-Ok-clause-comes : goal.returns-in-Ok-clause-comes
returns-in-Ok-clause-comes c =
    let ss = steps_in c.args.stmts.now in
    let before = on_top (Block ss) (mach c.args.code c.args.contexts.now c.args.m.now) in
    l.part_comes c.args.code c.args.contexts.now c.run.new.contexts c.args.m.now before c.run.new.m c.requires.rests ss refl c.run.result
    (l.ran_from c.args.code before (mach c.args.code c.block.new.contexts c.block.new.m) (mach c.args.code c.run.new.contexts c.run.new.m) c.run.result c.in-Ok.ensures c.run.ensures)

pub returns-in-Ok-clause-rests : goal.returns-in-Ok-clause-rests
returns-in-Ok-clause-rests c =
    let ss = steps_in c.args.stmts.now in
    let before = on_top (Block ss) (mach c.args.code c.args.contexts.now c.args.m.now) in
    l.part_rests c.args.code c.args.contexts.now c.run.new.contexts c.args.m.now before c.run.new.m c.requires.rests ss refl c.run.result
    (l.ran_from c.args.code before (mach c.args.code c.block.new.contexts c.block.new.m) (mach c.args.code c.run.new.contexts c.run.new.m) c.run.result c.in-Ok.ensures c.run.ensures)

pub returns-in-Ok-clause-place : goal.returns-in-Ok-clause-place
returns-in-Ok-clause-place c =
    let ss = steps_in c.args.stmts.now in
    let before = on_top (Block ss) (mach c.args.code c.args.contexts.now c.args.m.now) in
    l.part_place c.args.code c.args.contexts.now c.run.new.contexts c.args.m.now before c.run.new.m c.requires.rests ss refl c.run.result
    (l.ran_from c.args.code before (mach c.args.code c.block.new.contexts c.block.new.m) (mach c.args.code c.run.new.contexts c.run.new.m) c.run.result c.in-Ok.ensures c.run.ensures)

pub returns-in-Ok-clause-holds : goal.returns-in-Ok-clause-holds
returns-in-Ok-clause-holds c = l.holds_after c.args.code (mach c.args.code c.block.new.contexts c.block.new.m) (mach c.args.code c.run.new.contexts c.run.new.m) c.run.result c.run.ensures

pub returns-in-Err-clause-comes : goal.returns-in-Err-clause-comes
returns-in-Err-clause-comes c =
    let ss = steps_in c.args.stmts.now in
    l.part_comes c.args.code c.args.contexts.now c.block.new.contexts c.args.m.now (on_top (Block ss) (mach c.args.code c.args.contexts.now c.args.m.now)) c.block.new.m c.requires.rests ss refl (Err c.in-Err.e) c.in-Err.ensures
