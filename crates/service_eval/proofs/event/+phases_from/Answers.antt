use Rattle.std.proofs.Common.{◌≡◌, length, refl, ap, sym, subst, ◌∙◌, arith}
use Rattle.context_tree.specs.Contexts.{tree_of as shown}
use Rattle.wave_base.specs.declared.limits.TheConstants.{TICKS}
use Rattle.wave_base.specs.declared.path.Step.{Step}
use Rattle.wave_base.specs.Shapes.{class_of}
use Rattle.resolved_service.specs.Fits.{FitsSteps, FitsPhases}
use Rattle.resolved_service.specs.Meaning.{Done, call_act, effects, phases_run}
use Rattle.resolved_service.specs.Steps.{steps_in}
use Rattle.resolved_service.specs.World.{child, key_of}
use Rattle.service_eval.specs.inner.Parts.{Comes, went_down}
use Rattle.service_eval.specs.inner.Machines.{state_of}
use Rattle.service_eval.specs.inner.Traces.{world_of, uncounted_outcome, Fails}
use Rattle.service_eval.proofs.PathLemmas.{class_of-child}
use Rattle.service_eval.proofs.PhaseLemmas as l
use Rattle.service_eval.proofs.event.+phases_from.Goals as goal

pub returns-in-None-clause-comes : goal.returns-in-None-clause-comes
returns-in-None-clause-comes t c =
    subst (λ fs. Comes (phases_run (call_act c.args.code.methods.now TICKS) TICKS fs c.args.last.now c.args.m.now.path (state_of (shown c.args.code.shape.now c.args.contexts.now) c.args.m.now)) c.reply.result (state_of (shown c.args.code.shape.now c.reply.new.contexts) c.reply.new.m)) (sym (c.in-None.ensures.none refl)) c.reply.ensures.comes

pub returns-in-Err-clause-comes : goal.returns-in-Err-clause-comes
returns-in-Err-clause-comes t c =
    let st = state_of (shown c.args.code.shape.now c.args.contexts.now) c.args.m.now in
    let w = world_of (shown c.args.code.shape.now c.value_of.new.contexts) c.value_of.new.m.trace in
    subst (λ fs. Fails (uncounted_outcome (phases_run (call_act c.args.code.methods.now TICKS) TICKS fs c.args.last.now c.args.m.now.path st)) c.in-Err.e w) (sym c.in-Some.ensures.some)
    (l.no_key c.args.code.methods.now c.in-Some.phase.now c.in-Some.others.now c.args.last.now c.args.m.now.path st c.requires.rests.ready.few c.in-Err.e w c.in-Err.ensures.comes)

pub returns-in-Err-go_down-clause-comes : goal.returns-in-Err-go_down-clause-comes
returns-in-Err-go_down-clause-comes t c =
    let st = state_of (shown c.args.code.shape.now c.args.contexts.now) c.args.m.now in
    let st1 = state_of (shown c.args.code.shape.now c.value_of.new.contexts) c.value_of.new.m in
    let w = world_of (shown c.args.code.shape.now c.go_down.new.contexts) c.go_down.new.m.trace in
    subst (λ fs. Fails (uncounted_outcome (phases_run (call_act c.args.code.methods.now TICKS) TICKS fs c.args.last.now c.args.m.now.path st)) c.in-Err-go_down.e w) (sym c.in-Some.ensures.some)
    (l.not_down c.args.code.methods.now c.in-Some.phase.now c.in-Some.others.now c.args.last.now c.args.m.now.path st c.requires.rests.ready.few c.in-Ok.key st1 c.in-Ok.ensures.rests.ready.few c.in-Ok.ensures.comes c.in-Err-go_down.e w
    (subst (λ p. Fails (uncounted_outcome (went_down (child p c.in-Some.phase.now.class.0 c.in-Ok.key) c.in-Some.phase.now.at st1)) c.in-Err-go_down.e w) c.in-Ok.ensures.place c.in-Err-go_down.ensures.comes))

pub part-requires-clause-fits : goal.part-requires-clause-fits
part-requires-clause-fits t c =
    let s : Step = record { class = c.in-Some.phase.now.class; key = key_of c.in-Ok.key } in
    let fits = subst (λ fs. FitsPhases c.args.code.shape.now c.args.code.methods.now (class_of c.args.m.now.path) fs c.args.last.now) c.in-Some.ensures.some c.requires.fits in
    let class = ap class_of c.in-Ok-go_down.ensures.place ∙ class_of-child c.value_of.new.m.path s in
    subst (λ b. FitsSteps c.args.code.shape.now c.args.code.methods.now (class_of c.go_down.new.m.path) (steps_in b)) (sym c.as_slice.ensures)
    (subst (λ k. FitsSteps c.args.code.shape.now c.args.code.methods.now k (steps_in c.in-Some.phase.now.body)) (sym class) fits.2)

pub returns-in-Err-part-clause-comes : goal.returns-in-Err-part-clause-comes
returns-in-Err-part-clause-comes t c =
    let ms = c.args.code.methods.now in
    let st = state_of (shown c.args.code.shape.now c.args.contexts.now) c.args.m.now in
    let st1 = state_of (shown c.args.code.shape.now c.value_of.new.contexts) c.value_of.new.m in
    let st2 = state_of (shown c.args.code.shape.now c.go_down.new.contexts) c.go_down.new.m in
    let w = world_of (shown c.args.code.shape.now c.part.new.contexts) c.part.new.m.trace in
    let path = c.in-Ok-go_down.ensures.place ∙ ap (λ p. child p c.in-Some.phase.now.class.0 c.in-Ok.key) c.in-Ok.ensures.place in
    subst (λ fs. Fails (uncounted_outcome (phases_run (call_act ms TICKS) TICKS fs c.args.last.now c.args.m.now.path st)) c.in-Err-part.e w) (sym c.in-Some.ensures.some)
    (l.not_through ms c.in-Some.phase.now c.in-Some.others.now c.args.last.now c.args.m.now.path st c.requires.rests.ready.few c.in-Ok.key st1 c.in-Ok.ensures.rests.ready.few c.in-Ok.ensures.comes st2 c.in-Ok-go_down.ensures.rests.ready.few
    (subst (λ p. uncounted_outcome (went_down (child p c.in-Some.phase.now.class.0 c.in-Ok.key) c.in-Some.phase.now.at st1) ≡ uncounted_outcome (Done tt st2)) c.in-Ok.ensures.place c.in-Ok-go_down.ensures.comes) c.in-Err-part.e w
    (subst (λ o. Fails o c.in-Err-part.e w) (sym (λ i. uncounted_outcome (effects (call_act ms TICKS) TICKS (sym path i) (steps_in (sym c.as_slice.ensures i)) st2))) c.in-Err-part.ensures.comes))

pub returns-in-Ok-part-clause-comes : goal.returns-in-Ok-part-clause-comes
returns-in-Ok-part-clause-comes t c =
    let ms = c.args.code.methods.now in
    let st = state_of (shown c.args.code.shape.now c.args.contexts.now) c.args.m.now in
    let st1 = state_of (shown c.args.code.shape.now c.value_of.new.contexts) c.value_of.new.m in
    let st2 = state_of (shown c.args.code.shape.now c.go_down.new.contexts) c.go_down.new.m in
    let st3 = state_of (shown c.args.code.shape.now c.part.new.contexts) c.part.new.m in
    let end = state_of (shown c.args.code.shape.now c.phases_from.new.contexts) c.phases_from.new.m in
    let path = c.in-Ok-go_down.ensures.place ∙ ap (λ p. child p c.in-Some.phase.now.class.0 c.in-Ok.key) c.in-Ok.ensures.place in
    let far = c.in-Ok-part.ensures.place ∙ path in
    subst (λ fs. Comes (phases_run (call_act ms TICKS) TICKS fs c.args.last.now c.args.m.now.path st) c.phases_from.result end) (sym c.in-Some.ensures.some)
    (l.goes_on ms c.in-Some.phase.now c.in-Some.others.now c.args.last.now c.args.m.now.path st c.requires.rests.ready.few c.in-Ok.key st1 c.in-Ok.ensures.rests.ready.few c.in-Ok.ensures.comes st2 c.in-Ok-go_down.ensures.rests.ready.few
    (subst (λ p. uncounted_outcome (went_down (child p c.in-Some.phase.now.class.0 c.in-Ok.key) c.in-Some.phase.now.at st1) ≡ uncounted_outcome (Done tt st2)) c.in-Ok.ensures.place c.in-Ok-go_down.ensures.comes) st3 c.phases_from.result end
    ((λ i. uncounted_outcome (effects (call_act ms TICKS) TICKS (sym path i) (steps_in (sym c.as_slice.ensures i)) st2)) ∙ c.in-Ok-part.ensures.comes)
    (subst (λ o. Comes o c.phases_from.result end) (λ i. phases_run (call_act ms TICKS) TICKS c.in-Some.others.now c.args.last.now (far i) st3) c.phases_from.ensures.comes))

pub phases_from-requires : goal.phases_from-requires
phases_from-requires t c =
    let s : Step = record { class = c.in-Some.phase.now.class; key = key_of c.in-Ok.key } in
    let fits = subst (λ fs. FitsPhases c.args.code.shape.now c.args.code.methods.now (class_of c.args.m.now.path) fs c.args.last.now) c.in-Some.ensures.some c.requires.fits in
    let class = ap class_of (c.in-Ok-part.ensures.place ∙ c.in-Ok-go_down.ensures.place) ∙ class_of-child c.value_of.new.m.path s in
    let shorter = ap length c.in-Some.ensures.some in
    let falls = c.decreases in
    (omega (arith, shorter, falls), (c.requires.shape, (c.requires.methods, (subst (λ k. FitsPhases c.args.code.shape.now c.args.code.methods.now k c.in-Some.others.now c.args.last.now) (sym class) fits.3, c.in-Ok-part.ensures.rests))))
