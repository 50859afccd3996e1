use Rattle.std.proofs.Common.{◌≡◌, [], sym, ◌∙◌, arith}
use Rattle.context_tree.specs.Contexts.{tree_of as shown}
use Rattle.wave_base.specs.declared.limits.TheConstants.{TICKS}
use Rattle.resolved_service.specs.Meaning.{Done, call_act, effects, phases_run}
use Rattle.resolved_service.specs.Steps.{steps_in}
use Rattle.service_eval.specs.inner.Parts.{event_act}
use Rattle.service_eval.specs.inner.Machines.{state_of}
use Rattle.service_eval.specs.inner.Traces.{uncounted_outcome}
use Rattle.service_eval.proofs.Likeness.{same_effects, same_phases}
use Rattle.service_eval.proofs.PhaseLemmas.{then_on, same_comes}
use Rattle.service_eval.proofs.event.perform.Goals as goal

pub returns-in-Ok-clause-comes : goal.returns-in-Ok-clause-comes
returns-in-Ok-clause-comes c =
    let ms = c.args.code.methods.now in
    let e = c.args.event.now in
    let st = state_of (shown c.args.code.shape.now c.args.contexts.now) c.args.m.now in
    let st1 = state_of (shown c.args.code.shape.now c.part.new.contexts) c.part.new.m in
    let root = sym c.requires.root in
    let path = root ∙ sym c.in-Ok.ensures.place in
    let here : uncounted_outcome (effects (call_act ms TICKS) TICKS [] (steps_in e.here) st) ≡ uncounted_outcome (Done tt st1) = (λ i. uncounted_outcome (effects (call_act ms TICKS) TICKS (root i) (steps_in (sym c.as_slice.ensures i)) st)) ∙ c.in-Ok.ensures.comes in
    same_comes (event_act (call_act ms TICKS) TICKS e st) (phases_run (call_act ms TICKS) TICKS c.as_slice-in-Ok.result.now e.last c.part.new.m.path st1) c.phases_from.result (state_of (shown c.args.code.shape.now c.phases_from.new.contexts) c.phases_from.new.m)
    (then_on (effects (call_act ms TICKS) TICKS [] (steps_in e.here)) (λ _. phases_run (call_act ms TICKS) TICKS e.phases e.last []) st tt st1 (same_effects ms TICKS [] (steps_in e.here) TICKS (omega arith)) (λ _. same_phases ms TICKS e.phases e.last [] TICKS (omega arith)) c.requires.rests.ready.few here
    ∙ (λ i. uncounted_outcome (phases_run (call_act ms TICKS) TICKS (sym c.as_slice-in-Ok.ensures i) e.last (path i) st1)))
    c.phases_from.ensures.comes
