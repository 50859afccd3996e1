use Rattle.std.proofs.Common.{Some, ap, sym, subst}
use Rattle.context_tree.specs.Contexts.{tree_of as shown}
use Rattle.resolved_service.specs.World.{World}
use Rattle.service_eval.specs.inner.Items as i
use Rattle.service_eval.specs.inner.Items.{Finish}
use Rattle.service_eval.specs.inner.Machines.{Mach, on_top, own, comes_to}
use Rattle.service_eval.specs.inner.Turns.{mach}
use Rattle.service_eval.specs.Worlds.{Holds}
use Rattle.service_eval.specs.inner.Traces.{Ends}
use Rattle.service_eval.proofs.Outcomes.{finish_through}
use Rattle.service_eval.proofs.finish.finish_with.Goals as goal

pub returns-clause-goes : goal.returns-clause-goes
returns-clause-goes c =
    let T = shown c.args.code.shape.now c.args.contexts.now in
    let m = mach c.args.code c.args.contexts.now c.args.m.now in
    let o = comes_to c.args.code.methods.now (on_top (Finish c.args.at i.Finishes c.args.base) m) in
    let ends : Ends o (Some (own 0 c.args.base m.values)) m.state.world = finish_through c.args.code.methods.now m.items m.path (Some (own 0 c.args.base m.values)) m.state in
    let valued : Ends o (Some c.take.result) m.state.world = subst (λ v. Ends o (Some v) m.state.world) (sym c.take.ensures.value) ends in
    subst (λ (w : World). Ends o (Some c.take.result) w × Holds c.args.code.shape.now w.tree) (sym (ap (λ (x : Mach). x.state.world) (c.take.ensures.rest T))) (valued, c.requires.holds)
