use Rattle.std.proofs.Common.{◌<◌, sym, ap, subst, ◌∙◌, slice_set}
use Rattle.context_tree.specs.Contexts.{tree_of as shown}
use Rattle.resolved_service.specs.Steps.{steps_in}
use Rattle.service_eval.specs.inner.Items.{Again, Counts}
use Rattle.service_eval.specs.inner.Machines.{Mach, on_top, comes_to}
use Rattle.service_eval.specs.inner.Ready.{Ready}
use Rattle.service_eval.specs.inner.Turns.{mach}
use Rattle.service_eval.specs.inner.Weight.{load}
use Rattle.service_eval.proofs.LighterTurns.{again_lighter}
use Rattle.service_eval.proofs.FinishLemmas as l
use Rattle.service_eval.proofs.FinishTurns.{same_world, ready_in}
use Rattle.service_eval.proofs.loops.go_on.Goals as goal

pub returns-in-Ok : goal.returns-in-Ok
returns-in-Ok c =
    let code = c.args.code in
    let T = shown code.shape.now c.args.contexts.now in
    let m = mach code c.args.contexts.now c.args.m.now in
    let at = c.args.cycle.at in
    let counter = c.args.cycle.counter in
    let body = steps_in c.args.cycle.body.now in (
      l.again_is code.methods.now m at counter body c.in-Ok.number c.in-Ok.ensures
          ∙ ap (λ (x : Mach). comes_to code.methods.now (on_top (Counts at counter body) x)) (sym (c.set_local.ensures T)),
      subst (λ (x : Mach). Ready code.shape.now code.methods.now (on_top (Counts at counter body) x)) (sym (c.set_local.ensures T))
          (ready_in _ _ m _ _ _ _ c.requires c.requires.items (same_world m.state.world)),
      subst (λ (x : Mach). load code.methods.now (on_top (Counts at counter body) x) < load code.methods.now (on_top (Again at counter body) m)) (sym (c.set_local.ensures T))
          (again_lighter code.methods.now m at counter body (slice_set m.state.locals counter c.in-Ok.number)),
    )

pub returns-in-Err : goal.returns-in-Err
returns-in-Err c = (l.again_fails c.args.code.methods.now (mach c.args.code c.args.contexts.now c.args.m.now) c.args.cycle.at c.args.cycle.counter (steps_in c.args.cycle.body.now) c.in-Err.e c.in-Err.ensures, c.requires.holds)
