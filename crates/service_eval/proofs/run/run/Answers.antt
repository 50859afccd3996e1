use Rattle.std.proofs.Common.{◌≡◌, ◌<◌, List, [], refl, sym, ap, subst, ◌∙◌}
use Rattle.std.specs.Prelude.{IsNone}
use Rattle.context_tree.specs.Contexts.{tree_of as shown}
use Rattle.resolved_service.specs.declared.service.Method.{Method}
use Rattle.resolved_service.specs.Meaning.{Done}
use Rattle.service_eval.specs.inner.Machines.{Mach, rest_at, come_of, comes_to}
use Rattle.service_eval.specs.inner.Ready.{Ready}
use Rattle.service_eval.specs.inner.Turns.{mach}
use Rattle.service_eval.specs.inner.Weight.{load}
use Rattle.service_eval.specs.inner.Traces.{world_of, uncounted_outcome, Fails}
use Rattle.service_eval.proofs.run.run.Goals as goal

at_rest : (methods : List Method) (m : Mach) → m.items ≡ [] → comes_to methods m ≡ uncounted_outcome (Done (rest_at m.path m.values) m.state)
at_rest methods m e = ap (λ items. come_of methods items m.path (Done m.values m.state)) e

pub turn-requires-clause-next : goal.turn-requires-clause-next
turn-requires-clause-next c = subst (λ (m : Mach). Ready c.args.code.shape.now c.args.code.methods.now m) (c.in-Some.ensures.some (shown c.args.code.shape.now c.items.contexts)) c.items.invariant.ready

pub returns-in-Err : goal.returns-in-Err
returns-in-Err c =
    let is = c.items.invariant.same ∙ ap (comes_to c.args.code.methods.now) (c.in-Some.ensures.some (shown c.args.code.shape.now c.items.contexts)) in
    (subst (λ o. Fails o c.in-Err.e (world_of (shown c.args.code.shape.now c.turn.new.contexts) c.turn.new.m.trace)) (sym is) c.in-Err.ensures.0, c.in-Err.ensures.1)

pub returns : goal.returns
returns c =
    let a = c.pop.ensures.none (subst (λ o. IsNone o) (sym c.in_default.is) refl) (shown c.args.code.shape.now c.items.contexts) in
    let none : (mach c.args.code c.items.contexts c.pop.new.self).items ≡ [] = ap (λ (m : Mach). m.items) a.0 ∙ a.1 in (
      c.items.invariant.same ∙ ap (comes_to c.args.code.methods.now) (sym a.0) ∙ at_rest c.args.code.methods.now (mach c.args.code c.items.contexts c.pop.new.self) none,
      none,
      subst (λ (m : Mach). Ready c.args.code.shape.now c.args.code.methods.now m) (sym a.0) c.items.invariant.ready,
    )

pub items-preserved : goal.items-preserved
items-preserved c = record {
  same = c.items.invariant.same ∙ ap (comes_to c.args.code.methods.now) (c.in-Some.ensures.some (shown c.args.code.shape.now c.items.contexts)) ∙ c.in-Ok.ensures.0;
  ready = c.in-Ok.ensures.1;
}

pub items-smaller : goal.items-smaller
items-smaller c =
    let T = shown c.args.code.shape.now c.items.contexts in
    subst (λ (x : Mach). load c.args.code.methods.now (mach c.args.code c.turn.new.contexts c.turn.new.m) < load c.args.code.methods.now x) (sym (c.in-Some.ensures.some T)) c.in-Ok.ensures.2
