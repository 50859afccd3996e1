use Rattle.std.proofs.Common.{[], ◌∷◌, refl, ap, ◌∙◌, arith}
use Rattle.resolved_service.specs.Steps.{steps_in}
use Rattle.service_eval.specs.inner.Items.{Block, turns_of}
use Rattle.service_eval.specs.inner.Machines.{on_top, before_all, comes_to}
use Rattle.service_eval.specs.inner.Turns.{mach}
use Rattle.service_eval.proofs.AheadLemmas.{left_comes, left_ready, left_lighter, stops_fail, goes_after}
use Rattle.service_eval.proofs.LighterTurns.{block_done}
use Rattle.service_eval.proofs.ReadyLemmas.{ready_with}
use Rattle.service_eval.proofs.loops.while_body.Goals as goal

pub as_far-requires-clause-ready : goal.as_far-requires-clause-ready
as_far-requires-clause-ready c = ready_with _ _ _ _ _ c.requires c.requires.items.1.1

pub as_far-requires-clause-fits : goal.as_far-requires-clause-fits
as_far-requires-clause-fits c = c.requires.items.0

pub returns-in-None : goal.returns-in-None
returns-in-None c =
    let code = c.args.code in
    let body = steps_in c.args.cycle.body.now in
    let left = steps_in c.in-Ok.rest.now in
    let again = turns_of c.args.cycle in
    let M1 = mach code c.as_far.new.contexts c.as_far.new.m in
    let here = left_ready code c.args.contexts.now c.as_far.new.contexts c.args.m.now c.as_far.new.m body left c.in-Ok.ensures.ok (again ∷ []) c.requires.items.1 in
    let less = left_lighter code c.args.contexts.now c.as_far.new.contexts c.args.m.now c.as_far.new.m body left c.in-Ok.ensures.ok (again ∷ []) in
    let done = block_done code.methods.now (on_top again M1) left in (
      left_comes code c.args.contexts.now c.as_far.new.contexts c.args.m.now c.as_far.new.m body left c.in-Ok.ensures.ok (again ∷ [])
          ∙ ap (λ ss. comes_to code.methods.now (before_all (Block (steps_in ss) ∷ again ∷ []) M1)) (c.in-None.ensures.none refl),
      ready_with _ _ _ _ _ here here.items.1,
      omega (arith, less, done),
    )

pub leave_turn-requires : goal.leave_turn-requires
leave_turn-requires c =
    left_ready c.args.code c.args.contexts.now c.as_far.new.contexts c.args.m.now c.as_far.new.m (steps_in c.args.cycle.body.now) (steps_in c.in-Ok.rest.now) c.in-Ok.ensures.ok (turns_of c.args.cycle ∷ []) c.requires.items.1

pub returns-in-Some : goal.returns-in-Some
returns-in-Some c =
    let code = c.args.code in
    let body = steps_in c.args.cycle.body.now in
    let left = steps_in c.in-Ok.rest.now in
    let again = turns_of c.args.cycle in
    goes_after code c.args.contexts.now c.as_far.new.contexts c.leave_turn.new.contexts c.args.m.now c.as_far.new.m c.leave_turn.new.m (Block body ∷ again ∷ []) (Block left ∷ again ∷ []) (again ∷ [])
    (left_comes code c.args.contexts.now c.as_far.new.contexts c.args.m.now c.as_far.new.m body left c.in-Ok.ensures.ok (again ∷ []))
    (left_lighter code c.args.contexts.now c.as_far.new.contexts c.args.m.now c.as_far.new.m body left c.in-Ok.ensures.ok (again ∷ [])) c.leave_turn.result (c.leave_turn.ensures (again ∷ []))

pub returns-in-Err : goal.returns-in-Err
returns-in-Err c = stops_fail c.args.code c.args.contexts.now c.as_far.new.contexts c.args.m.now c.as_far.new.m (steps_in c.args.cycle.body.now) (turns_of c.args.cycle ∷ []) c.in-Err.e c.in-Err.ensures.err
