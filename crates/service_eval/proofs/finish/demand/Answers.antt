use Rattle.std.proofs.Common.{sym, ap, subst, ◌∙◌, arith}
use Rattle.wave_base.specs.declared.trap.TrapKind.TheVariants.{Require as Requires}
use Rattle.context_tree.specs.Contexts.{tree_of as shown}
use Rattle.resolved_service.specs.Meaning.{demand}
use Rattle.service_eval.specs.declared.stop.Stop.TheVariants.{Trapped}
use Rattle.service_eval.specs.inner.Items as i
use Rattle.service_eval.specs.inner.Items.{Finish, Block}
use Rattle.service_eval.specs.inner.Machines.{cut_to, in_state}
use Rattle.service_eval.specs.inner.Turns.{mach, Goes}
use Rattle.service_eval.proofs.LighterTurns.{finished_lighter}
use Rattle.service_eval.proofs.FinishLemmas as l
use Rattle.service_eval.proofs.FinishTurns.{same_world, ready_in, did}
use Rattle.service_eval.proofs.finish.demand.Goals as goal

pub returns-then-holds-clause-goes : goal.returns-then-holds-clause-goes
returns-then-holds-clause-goes c =
    let T = shown c.args.code.shape.now c.args.contexts.now in
    let m = (mach c.args.code c.args.contexts.now c.args.m.now) in
    did c.args.code c.args.contexts.now c.args.contexts.now (Finish c.args.at i.Require c.args.base) (in_state m.state (cut_to c.args.base m)) c.args.m.now c.cut.new.self
    (l.finished c.args.code.methods.now m c.args.at c.args.base i.Require m.state (ap (λ b. demand b c.args.at m.state) (sym c.is_true-holds.ensures ∙ c.if-holds.true)))
    (ready_in _ _ m _ _ _ _ c.requires c.requires.items.1 (same_world m.state.world)) (c.cut.ensures T)
    (finished_lighter c.args.code.methods.now m c.args.at i.Require c.args.base m.state (omega arith))

pub returns-else-holds-clause-goes : goal.returns-else-holds-clause-goes
returns-else-holds-clause-goes c =
    let m = (mach c.args.code c.args.contexts.now c.args.m.now) in
    subst (λ r. Goes c.args.code c.args.contexts.now c.args.m.now (Finish c.args.at i.Require c.args.base) r c.args.contexts.now c.args.m.now) (sym c.trap_at.ensures)
    (l.not_finished c.args.code.methods.now m c.args.at c.args.base i.Require (Trapped (record { kind = Requires; at = c.args.at })) m.state.world (ap (λ b. demand b c.args.at m.state) (sym c.is_true-holds.ensures ∙ c.if-holds.false)), c.requires.holds)
