use Rattle.std.proofs.Common.{refl, arith}
use Rattle.context_tree.specs.Contexts.{tree_of as shown}
use Rattle.service_eval.specs.inner.Items as i
use Rattle.service_eval.specs.inner.Items.{Finish, Block}
use Rattle.service_eval.specs.inner.Machines.{cut_to, in_state}
use Rattle.service_eval.specs.inner.Turns.{mach}
use Rattle.service_eval.proofs.LighterTurns.{finished_lighter}
use Rattle.service_eval.proofs.FinishLemmas as l
use Rattle.service_eval.proofs.FinishTurns.{same_world, ready_in, did}
use Rattle.service_eval.proofs.finish.forget.Goals as goal

pub returns-clause-goes : goal.returns-clause-goes
returns-clause-goes c =
    let T = shown c.args.code.shape.now c.args.contexts.now in
    let m = (mach c.args.code c.args.contexts.now c.args.m.now) in
    did c.args.code c.args.contexts.now c.args.contexts.now (Finish c.args.at i.Drop c.args.base) (in_state m.state (cut_to c.args.base m)) c.args.m.now c.cut.new.self
    (l.finished c.args.code.methods.now m c.args.at c.args.base i.Drop m.state refl)
    (ready_in _ _ m _ _ _ _ c.requires c.requires.items.1 (same_world m.state.world)) (c.cut.ensures T)
    (finished_lighter c.args.code.methods.now m c.args.at i.Drop c.args.base m.state (omega arith))
