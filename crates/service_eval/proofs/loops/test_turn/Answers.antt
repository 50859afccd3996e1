use Rattle.std.proofs.Common.{◌≡◌, ℕ, [], ◌∷◌, length, sym, ap, subst, ◌∙◌, arith}
use Rattle.context_tree.specs.Contexts.{Contexts, tree_of as shown}
use Rattle.wave_base.specs.declared.span.Span.{Span}
use Rattle.resolved_service.specs.Steps.{Steps, steps_in}
use Rattle.resolved_service.specs.View.{Tree, tree_of}
use Rattle.service_eval.specs.declared.code.Code.{Code}
use Rattle.service_eval.specs.declared.machine.Machine.{Machine}
use Rattle.service_eval.specs.inner.Items.{Eval, Turns, Check}
use Rattle.service_eval.specs.inner.Machines.{on_top, before_all, comes_to}
use Rattle.service_eval.specs.inner.Ready.{Ready}
use Rattle.service_eval.specs.inner.Traces.{Fails}
use Rattle.service_eval.specs.inner.Turns.{mach, IsNext}
use Rattle.service_eval.proofs.AheadLemmas.{goes_after}
use Rattle.service_eval.proofs.BlockTurns.{then_next, then_same, then_lighter}
use Rattle.service_eval.proofs.EvalLemmas.{found_fails}
use Rattle.service_eval.proofs.FinishLemmas as l
use Rattle.service_eval.proofs.FinishTurns.{did}
use Rattle.service_eval.proofs.LighterTurns.{turns_lighter}
use Rattle.service_eval.proofs.ReadyLemmas.{ready_with}
use Rattle.service_eval.proofs.loops.test_turn.Goals as goal

module _ (code : Code) (contexts : Contexts) (m : Machine) (at : Span) (t : Tree) (b : Steps) (n : ℕ) where
  test_next : IsNext code contexts m (Turns at t b) → Ready code.shape.now code.methods.now (on_top (Eval t) (before_all (Check at t b n ∷ []) (mach code contexts m)))
  test_next next = ready_with _ _ _ _ _ next (next.items.0.0, (next.items.0, next.items.1))

  test_first : IsNext code contexts m (Turns at t b) → n ≡ length m.values.items → comes_to code.methods.now (on_top (Turns at t b) (mach code contexts m)) ≡ comes_to code.methods.now (on_top (Eval t) (before_all (Check at t b n ∷ []) (mach code contexts m)))
  test_first next is = l.turns_parts code.methods.now (mach code contexts m) at b t next.few ∙ ap (λ k. comes_to code.methods.now (on_top (Eval t) (on_top (Check at t b k) (mach code contexts m)))) (sym is)

pub check_turn-requires : goal.check_turn-requires
check_turn-requires c =
    let code = c.args.code in
    let at = c.args.cycle.at in
    let t = tree_of c.args.cycle.test.now in
    let b = steps_in c.args.cycle.body.now in
    let n = c.height-base.result in
    then_next code c.args.contexts.now c.args.m.now c.give.new.self t (Check at t b n ∷ []) (test_next code c.args.contexts.now c.args.m.now at t b n c.requires) c.in-Ok-Some.value (c.in-Ok.ensures.ok (shown code.shape.now c.args.contexts.now))

pub returns-in-Ok : goal.returns-in-Ok
returns-in-Ok c =
    let code = c.args.code in
    let at = c.args.cycle.at in
    let t = tree_of c.args.cycle.test.now in
    let b = steps_in c.args.cycle.body.now in
    let n = c.height-base.result in
    let M = mach code c.args.contexts.now c.args.m.now in
    let found = rw c.in-Ok-Some.field-0-is at c.in-Ok-Some.ensures.finds in
    let next = test_next code c.args.contexts.now c.args.m.now at t b n c.requires in
    let gave = c.in-Ok.ensures.ok (shown code.shape.now c.args.contexts.now) in
    let light = turns_lighter code.methods.now M at t b n in
    let lighter = then_lighter code c.args.contexts.now c.args.m.now c.give.new.self t (Check at t b n ∷ []) next c.in-Ok-Some.value gave in
    goes_after code c.args.contexts.now c.args.contexts.now c.check_turn.new.contexts c.args.m.now c.give.new.self c.check_turn.new.m (Turns at t b ∷ []) (Check at t b n ∷ []) (Turns at t b ∷ [])
    (test_first code c.args.contexts.now c.args.m.now at t b n c.requires c.height-base.ensures
    ∙ then_same code c.args.contexts.now c.args.m.now c.give.new.self t (Check at t b n ∷ []) next c.in-Ok-Some.value gave found)
    (omega (arith, light, lighter)) c.check_turn.result c.check_turn.ensures

pub returns-in-Ok-push_two : goal.returns-in-Ok-push_two
returns-in-Ok-push_two c =
    let code = c.args.code in
    let at = c.args.cycle.at in
    let t = tree_of c.args.cycle.test.now in
    let b = steps_in c.args.cycle.body.now in
    let n = c.height-base.result in
    let M = mach code c.args.contexts.now c.args.m.now in
    did code c.args.contexts.now c.args.contexts.now (Turns at t b) (on_top (Eval t) (on_top (Check at t b n) M)) c.args.m.now c.push_two.new.self
    (test_first code c.args.contexts.now c.args.m.now at t b n c.requires c.height-base.ensures)
    (test_next code c.args.contexts.now c.args.m.now at t b n c.requires)
    (c.in-Ok-push_two.ensures.ok (shown code.shape.now c.args.contexts.now))
    (turns_lighter code.methods.now M at t b n)

pub returns-in-Err : goal.returns-in-Err
returns-in-Err c =
    let code = c.args.code in
    let at = c.args.cycle.at in
    let t = tree_of c.args.cycle.test.now in
    let b = steps_in c.args.cycle.body.now in
    let n = c.height-base.result in
    let M = mach code c.args.contexts.now c.args.m.now in (
      subst (λ o. Fails o c.in-Err.e M.state.world) (sym (test_first code c.args.contexts.now c.args.m.now at t b n c.requires c.height-base.ensures))
          (found_fails code.methods.now (before_all (Check at t b n ∷ []) M) t c.in-Err.e _ c.in-Err.ensures.finds),
      c.requires.holds,
    )
