use Rattle.std.proofs.Common.{◌<◌, sym, ap, subst}
use Rattle.resolved_service.specs.Fits.{FitsSteps}
use Rattle.resolved_service.specs.Steps.{step, step_of, steps_in}
use Rattle.wave_base.specs.Shapes.{class_of}
use Rattle.service_eval.specs.inner.Machines.{Mach}
use Rattle.service_eval.specs.inner.Ahead.{Advances, StopsIn}
use Rattle.service_eval.specs.inner.Weight.{steps_weight}
use Rattle.service_eval.proofs.AheadLemmas.{not_yet, further, nothing_more, stops_after}
use Rattle.service_eval.proofs.ahead.as_far.Goals as goal

pub statements-init : goal.statements-init
statements-init c = not_yet c.args.code c.args.contexts.now c.args.m.now (steps_in c.args.stmts.now) c.requires.ready c.requires.fits

pub one_ahead-requires-clause-ready : goal.one_ahead-requires-clause-ready
one_ahead-requires-clause-ready c = c.statements.invariant.ready

pub one_ahead-requires-clause-fits : goal.one_ahead-requires-clause-fits
one_ahead-requires-clause-fits c =
    let code = c.args.code in
    let place = ap (λ (x : Mach). x.path) c.statements.invariant.to in
    subst (λ p. FitsSteps code.shape.now code.methods.now (class_of p) (step (step_of c.in-Some.first.now) (steps_in c.in-Some.others.now))) (sym place)
    (subst (λ ss. FitsSteps code.shape.now code.methods.now (class_of c.args.m.now.path) (steps_in ss)) c.in-Some.ensures.some c.statements.invariant.fits)

pub statements-preserved : goal.statements-preserved
statements-preserved c =
    let done = rw c.in-Ok-Some.field-0-is at c.in-Ok-Some.ensures.ok in
    let here = subst (λ ss. Advances c.args.code c.args.contexts.now c.args.m.now (steps_in c.args.stmts.now) c.statements.contexts c.statements.m (steps_in ss)) c.in-Some.ensures.some c.statements.invariant in
    further c.args.code c.args.contexts.now c.statements.contexts c.one_ahead.new.contexts c.args.m.now c.statements.m c.one_ahead.new.m (steps_in c.args.stmts.now) (step (step_of c.in-Some.first.now) (steps_in c.in-Some.others.now)) (steps_in c.in-Ok-Some.next.now) here done.0

pub statements-smaller : goal.statements-smaller
statements-smaller c =
    let done = rw c.in-Ok-Some.field-0-is at c.in-Ok-Some.ensures.ok in
    subst (λ ss. steps_weight 0 (steps_in c.in-Ok-Some.next.now) < steps_weight 0 (steps_in ss)) (sym c.in-Some.ensures.some) done.1

pub returns-in-Ok-None-clause-ok : goal.returns-in-Ok-None-clause-ok
returns-in-Ok-None-clause-ok c =
    let same = rw c.in-Ok-None.field-0-is at c.in-Ok-None.ensures.ok in
    nothing_more c.args.code c.args.contexts.now c.statements.contexts c.one_ahead.new.contexts c.args.m.now c.statements.m c.one_ahead.new.m (steps_in c.args.stmts.now) (steps_in c.statements.rest.now) c.statements.invariant same

pub returns-in-Err-clause-err : goal.returns-in-Err-clause-err
returns-in-Err-clause-err c =
    stops_after c.args.code c.args.contexts.now c.statements.contexts c.one_ahead.new.contexts c.args.m.now c.statements.m c.one_ahead.new.m (steps_in c.args.stmts.now) (steps_in c.statements.rest.now) c.in-Err.e c.statements.invariant
    (subst (λ ss. StopsIn c.args.code c.statements.contexts c.statements.m (steps_in ss) c.one_ahead.new.contexts c.one_ahead.new.m c.in-Err.e) (sym c.in-Some.ensures.some) c.in-Err.ensures.err)
