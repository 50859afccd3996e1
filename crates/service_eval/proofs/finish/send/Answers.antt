use Rattle.std.proofs.Common.{refl, ap, subst}
use Rattle.context_tree.specs.Contexts.{tree_of as shown}
use Rattle.resolved_service.specs.World.{World, sending}
use Rattle.service_eval.specs.inner.Items as i
use Rattle.service_eval.specs.inner.Items.{Finish, Block}
use Rattle.service_eval.specs.inner.Machines.{Mach, own}
use Rattle.service_eval.specs.inner.Turns.{mach}
use Rattle.service_eval.specs.inner.Traces.{world_of, Changes}
use Rattle.service_eval.proofs.FinishTurns.{same_sent}
use Rattle.service_eval.proofs.SendTurns.{changed_turn}
use Rattle.service_eval.proofs.finish.send.Goals as goal

pub returns : goal.returns
returns c =
    let T = shown c.args.code.shape.now c.args.contexts.now in
    let m = (mach c.args.code c.args.contexts.now c.args.m.now) in
    let label = c.args.label.now in
    changed_turn c.args.code c.args.contexts.now c.args.m.now c.take-value.new.self c.send.new.self c.args.at c.args.base (i.Send label) (sending label (own 0 c.args.base m.values) m.state.world) c.send.result refl (c.take-value.ensures.rest T)
    (subst (λ (w : World). Changes (sending label (own 0 c.args.base m.values) w) c.args.at w c.send.result (world_of T c.send.new.self)) (ap (λ (x : Mach). x.state.world) (c.take-value.ensures.rest T))
    (subst (λ v. Changes (sending label v (world_of T c.take-value.new.self.trace)) c.args.at (world_of T c.take-value.new.self.trace) c.send.result (world_of T c.send.new.self)) c.take-value.ensures.value (c.send.ensures.changes T)))
    (λ v h. same_sent label (own 0 c.args.base m.values) m.state.world v h) c.requires
