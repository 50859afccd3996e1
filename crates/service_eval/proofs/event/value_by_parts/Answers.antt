use Rattle.std.proofs.Common.{take, ap, sym, subst, ◌∙◌}
use Rattle.context_tree.specs.Contexts.{tree_of as shown}
use Rattle.resolved_service.specs.Meaning.{Done}
use Rattle.resolved_service.specs.View.{tree_of}
use Rattle.service_eval.specs.inner.Machines.{Mach, Rest, own}
use Rattle.service_eval.specs.inner.Ready.{Ready}
use Rattle.service_eval.specs.inner.Traces.{uncounted_outcome}
use Rattle.service_eval.specs.inner.Turns.{mach}
use Rattle.service_eval.proofs.EventLemmas as l
use Rattle.service_eval.proofs.ReadyLemmas.{ready_with}
use Rattle.service_eval.proofs.event.value_by_parts.Goals as goal

pub run-requires-clause-ready : goal.run-requires-clause-ready
run-requires-clause-ready c =
    subst (λ (m : Mach). Ready c.args.code.shape.now c.args.code.methods.now m) (sym (c.in-Ok.ensures.ok (shown c.args.code.shape.now c.args.contexts.now)))
    (ready_with _ _ _ _ _ c.requires.rests.ready (c.requires.fits, c.requires.rests.ready.items))

pub returns-in-Ok-run-clause-comes : goal.returns-in-Ok-run-clause-comes
returns-in-Ok-run-clause-comes c =
    let U = shown c.args.code.shape.now c.run.new.contexts in
    let h = l.value_comes c.args.code c.args.contexts.now c.run.new.contexts c.args.m.now (mach c.args.code c.args.contexts.now c.push.new.self) c.run.new.m c.requires.rests (tree_of c.args.e.now) (c.in-Ok.ensures.ok (shown c.args.code.shape.now c.args.contexts.now)) c.in-Ok-run.ensures in
    let v = ap (own 0 0) (ap (λ (r : Rest). r.values) h.2) ∙ sym c.take.ensures.value in
    let st = ap (λ (m : Mach). m.state) (sym (c.take.ensures.rest U)) in
    h.1 ∙ (λ i. uncounted_outcome (Done (v i) (st i)))

pub returns-in-Ok-run-clause-rests : goal.returns-in-Ok-run-clause-rests
returns-in-Ok-run-clause-rests c =
    let U = shown c.args.code.shape.now c.run.new.contexts in
    let h = l.value_comes c.args.code c.args.contexts.now c.run.new.contexts c.args.m.now (mach c.args.code c.args.contexts.now c.push.new.self) c.run.new.m c.requires.rests (tree_of c.args.e.now) (c.in-Ok.ensures.ok (shown c.args.code.shape.now c.args.contexts.now)) c.in-Ok-run.ensures in
    let rest = c.take.ensures.rest U in
    record {
      ready = subst (λ (m : Mach). Ready c.args.code.shape.now c.args.code.methods.now m) (sym rest) (ready_with _ _ _ _ _ c.in-Ok-run.ensures.2 c.in-Ok-run.ensures.2.items);
      items = ap (λ (m : Mach). m.items) rest ∙ c.in-Ok-run.ensures.1;
      values = ap (λ (m : Mach). m.values) rest ∙ ap (take 0) (sym (ap (λ (r : Rest). r.values) h.2));
    }

pub returns-in-Ok-run-clause-place : goal.returns-in-Ok-run-clause-place
returns-in-Ok-run-clause-place c =
    let U = shown c.args.code.shape.now c.run.new.contexts in
    let h = l.value_comes c.args.code c.args.contexts.now c.run.new.contexts c.args.m.now (mach c.args.code c.args.contexts.now c.push.new.self) c.run.new.m c.requires.rests (tree_of c.args.e.now) (c.in-Ok.ensures.ok (shown c.args.code.shape.now c.args.contexts.now)) c.in-Ok-run.ensures in
    let rest = c.take.ensures.rest U in
    ap (λ (m : Mach). m.path) rest ∙ sym (ap (λ (r : Rest). r.path) h.2)

pub returns-in-Err-run-clause-comes : goal.returns-in-Err-run-clause-comes
returns-in-Err-run-clause-comes c =
    l.value_fails c.args.code c.args.contexts.now c.run.new.contexts c.args.m.now (mach c.args.code c.args.contexts.now c.push.new.self) c.run.new.m c.requires.rests (tree_of c.args.e.now) (c.in-Ok.ensures.ok (shown c.args.code.shape.now c.args.contexts.now)) c.in-Err-run.e c.in-Err-run.ensures
