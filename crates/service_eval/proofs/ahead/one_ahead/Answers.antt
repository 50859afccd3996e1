use Rattle.std.proofs.Common.{arith, refl, sym, subst}
use Rattle.std.specs.Prelude.{IfOk, IfErr}
use Rattle.resolved_service.specs.Fits.{FitsSteps}
use Rattle.resolved_service.specs.Steps.{step, step_of, steps_in}
use Rattle.wave_base.specs.Shapes.{class_of}
use Rattle.service_eval.specs.inner.Ahead.{AdvancesBy, StopsIn}
use Rattle.service_eval.proofs.AheadLemmas.{one_done, one_stops, chose, chose_none}
use Rattle.service_eval.proofs.ahead.one_ahead.Goals as goal

pub returns-then-done-clause-ok : goal.returns-then-done-clause-ok
returns-then-done-clause-ok c =
    let done = rw c.if-done.true at c.in-Ok.ensures.does in
    (one_done c.args.code c.args.contexts.now c.at_once.new.contexts c.args.m.now c.at_once.new.m (step_of c.args.first.now) (steps_in c.args.others.now) c.requires.fits done, omega arith)

pub returns-in-Err-clause-err : goal.returns-in-Err-clause-err
returns-in-Err-clause-err c = one_stops c.args.code c.args.contexts.now c.at_once.new.contexts c.args.m.now c.at_once.new.m (step_of c.args.first.now) (steps_in c.args.others.now) c.in-Err.e c.in-Err.ensures.does

pub returns-in-None-clause-ok : goal.returns-in-None-clause-ok
returns-in-None-clause-ok c =
    let code = c.args.code in
    let s = step_of c.args.first.now in
    let last = c.in-None.ensures.none refl in
    let same = rw c.if-done.false at c.in-Ok.ensures.does in
    subst (λ ss. IfOk c.chosen_block.result (AdvancesBy code c.args.contexts.now c.args.m.now (step s (steps_in ss)) c.at_once.new.contexts c.at_once.new.m)) (sym last)
    (chose code c.args.contexts.now c.at_once.new.contexts c.args.m.now c.at_once.new.m s same c.requires.ready
    (subst (λ ss. FitsSteps code.shape.now code.methods.now (class_of c.args.m.now.path) (step s (steps_in ss))) last c.requires.fits) c.chosen_block.result c.chosen_block.ensures)

pub returns-in-None-clause-err : goal.returns-in-None-clause-err
returns-in-None-clause-err c =
    let code = c.args.code in
    let s = step_of c.args.first.now in
    let last = c.in-None.ensures.none refl in
    let same = rw c.if-done.false at c.in-Ok.ensures.does in
    subst (λ ss. IfErr c.chosen_block.result (StopsIn code c.args.contexts.now c.args.m.now (step s (steps_in ss)) c.at_once.new.contexts c.at_once.new.m)) (sym last)
    (chose_none code c.args.contexts.now c.at_once.new.contexts c.args.m.now c.at_once.new.m s same c.requires.ready
    (subst (λ ss. FitsSteps code.shape.now code.methods.now (class_of c.args.m.now.path) (step s (steps_in ss))) last c.requires.fits) c.chosen_block.result c.chosen_block.ensures)

pub returns-in-Some-clause-ok : goal.returns-in-Some-clause-ok
returns-in-Some-clause-ok c = rw c.if-done.false at c.in-Ok.ensures.does
