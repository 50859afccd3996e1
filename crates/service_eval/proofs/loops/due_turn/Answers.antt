use Rattle.std.proofs.Common.{◌≡◌, ◌<◌, Ok, Err, sym, ap, subst, ◌∙◌, take}
use Rattle.context_tree.specs.Contexts.{tree_of as shown}
use Rattle.resolved_service.specs.Steps.{steps_in}
use Rattle.resolved_service.specs.View.{tree_of}
use Rattle.resolved_service.specs.World.{ticking}
use Rattle.service_eval.specs.inner.Items.{Block, Turns, Check}
use Rattle.service_eval.specs.inner.Machines.{Mach, on_top, cut_to, in_world, comes_to}
use Rattle.service_eval.specs.inner.Ready.{Ready}
use Rattle.service_eval.specs.inner.Traces.{world_of, Changes}
use Rattle.service_eval.specs.inner.Turns.{mach}
use Rattle.service_eval.specs.inner.Weight.{load}
use Rattle.service_eval.proofs.CallTurns.{ticked}
use Rattle.service_eval.proofs.FinishLemmas as l
use Rattle.service_eval.proofs.FinishTurns.{same_ticked, ready_in, did}
use Rattle.service_eval.proofs.LighterTurns.{check_lighter, check_ticked}
use Rattle.service_eval.proofs.ReadyLemmas.{ready_with}
use Rattle.service_eval.proofs.loops.due_turn.Goals as goal

pub returns-else-holds : goal.returns-else-holds
returns-else-holds c =
    let T = shown c.args.code.shape.now c.args.contexts.now in
    did c.args.code c.args.contexts.now c.args.contexts.now (Check c.args.cycle.at (tree_of c.args.cycle.test.now) (steps_in c.args.cycle.body.now) c.args.base) (cut_to c.args.base (mach c.args.code c.args.contexts.now c.args.m.now)) c.args.m.now c.cut.new.self
    (l.check_false c.args.code.methods.now (mach c.args.code c.args.contexts.now c.args.m.now) c.args.cycle.at (steps_in c.args.cycle.body.now) (tree_of c.args.cycle.test.now) c.args.base (sym c.is_true-holds.ensures ∙ c.if-holds.false))
    (ready_with _ _ _ _ _ c.requires c.requires.items.1) (c.cut.ensures T)
    (check_lighter c.args.code.methods.now (mach c.args.code c.args.contexts.now c.args.m.now) c.args.cycle.at (tree_of c.args.cycle.test.now) (steps_in c.args.cycle.body.now) c.args.base)

pub returns-in-Err : goal.returns-in-Err
returns-in-Err c =
    let T = shown c.args.code.shape.now c.args.contexts.now in (
      l.check_fails c.args.code.methods.now (mach c.args.code c.args.contexts.now c.args.m.now) c.args.cycle.at (steps_in c.args.cycle.body.now) (tree_of c.args.cycle.test.now) c.args.base c.in-Err.e (world_of T c.tick.new.self) (sym c.is_true-holds.ensures ∙ c.if-holds.true)
          (subst (λ w. Changes (ticking w) c.args.cycle.at w (Err c.in-Err.e) (world_of T c.tick.new.self)) (ap (λ (m : Mach). m.state.world) (c.cut.ensures T)) (c.in-Err.ensures.changes T)),
      c.requires.holds,
    )

pub returns-in-Ok : goal.returns-in-Ok
returns-in-Ok c =
    let code = c.args.code in
    let T = shown code.shape.now c.args.contexts.now in
    let w = world_of T c.tick.new.self in
    let m = mach code c.args.contexts.now c.args.m.now in
    let at = c.args.cycle.at in
    let test = tree_of c.args.cycle.test.now in
    let body = steps_in c.args.cycle.body.now in
    let t : ticking m.state.world ≡ Ok w = subst (λ w'. ticking w' ≡ Ok w) (ap (λ (m : Mach). m.state.world) (c.cut.ensures T)) (c.in-Ok.ensures.changes T) in
    let is = ap (in_world w) (c.cut.ensures T) in (
      l.check_more code.methods.now m at body test c.args.base w (sym c.is_true-holds.ensures ∙ c.if-holds.true) t
          ∙ ap (λ (x : Mach). comes_to code.methods.now (on_top (Block body) (on_top (Turns at test body) x))) (sym is),
      subst (λ (x : Mach). Ready code.shape.now code.methods.now (on_top (Block body) (on_top (Turns at test body) x))) (sym is)
          (ready_in _ _ m _ _ _ _ c.requires (c.requires.items.0.1, (c.requires.items.0, c.requires.items.1)) (same_ticked m.state.world w t)),
      subst (λ (x : Mach). load code.methods.now (on_top (Block body) (on_top (Turns at test body) x)) < load code.methods.now (on_top (Check at test body c.args.base) m)) (sym is)
          (check_ticked code.methods.now m (record { locals = m.state.locals; world = w }) (take c.args.base m.values) (ticked m.state.world w t).0 at test body c.args.base),
    )
