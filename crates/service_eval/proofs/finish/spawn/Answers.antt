use Rattle.std.proofs.Common.{drop, refl, ap, subst, arith}
use Rattle.context_tree.specs.Contexts.{tree_of as shown}
use Rattle.resolved_service.specs.World.{World, spawning}
use Rattle.service_eval.specs.inner.Items as i
use Rattle.service_eval.specs.inner.Items.{Finish, Block}
use Rattle.service_eval.specs.inner.Machines.{Mach}
use Rattle.service_eval.specs.inner.Turns.{mach}
use Rattle.service_eval.specs.inner.Traces.{world_of, Changes}
use Rattle.service_eval.proofs.FinishTurns.{same_spawned}
use Rattle.service_eval.proofs.SendTurns.{changed_turn}
use Rattle.service_eval.proofs.finish.spawn.Goals as goal

pub spawn-requires : goal.spawn-requires
spawn-requires c = omega (arith, c.requires.early, ap (λ (x : Mach). x.state.world.generation) (c.in-Ok.ensures.rest (shown c.args.code.shape.now c.args.contexts.now)))

pub returns-in-Ok : goal.returns-in-Ok
returns-in-Ok c =
    let T = shown c.args.code.shape.now c.args.contexts.now in
    let m = (mach c.args.code c.args.contexts.now c.args.m.now) in
    let e = c.args.event in
    changed_turn c.args.code c.args.contexts.now c.args.m.now c.take_all.new.self c.spawn.new.self c.args.at c.args.base (i.Spawn e) (spawning e (drop c.args.base m.values) m.state.world) c.spawn.result refl (c.in-Ok.ensures.rest T)
    (subst (λ (w : World). Changes (spawning e (drop c.args.base m.values) w) c.args.at w c.spawn.result (world_of T c.spawn.new.self)) (ap (λ (x : Mach). x.state.world) (c.in-Ok.ensures.rest T))
    (subst (λ vs. Changes (spawning e vs (world_of T c.take_all.new.self.trace)) c.args.at (world_of T c.take_all.new.self.trace) c.spawn.result (world_of T c.spawn.new.self)) c.in-Ok.ensures.values (c.spawn.ensures.changes T)))
    (λ v h. same_spawned e (drop c.args.base m.values) m.state.world v h) c.requires
