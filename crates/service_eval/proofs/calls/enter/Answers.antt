use Rattle.std.proofs.Common.{Ok, sym, ◌∙◌, arith}
use Rattle.context_tree.specs.Contexts.{tree_of as shown}
use Rattle.resolved_service.specs.World.{after_change}
use Rattle.service_eval.specs.inner.Traces.{world_of}
use Rattle.service_eval.proofs.WorldLemmas.{enters_refuses, enters_again, enters_no_more, enters_new}
use Rattle.service_eval.proofs.calls.enter.Goals as goal

pub returns-then-holds-clause-enters : goal.returns-then-holds-clause-enters
returns-then-holds-clause-enters c =
    enters_again c.args.path.now (world_of (shown c.args.code.shape.now c.args.contexts.now) c.args.trace.now) (sym c.holds.ensures ∙ c.if-holds.true)

pub returns-then-len-ge-CONTEXTS-clause-enters : goal.returns-then-len-ge-CONTEXTS-clause-enters
returns-then-len-ge-CONTEXTS-clause-enters c =
    enters_refuses _ _ _ _ _ (enters_no_more c.args.path.now (world_of (shown c.args.code.shape.now c.args.contexts.now) c.args.trace.now) (sym c.holds.ensures ∙ c.if-holds.false) (omega (arith, c.len.ensures, c.if-len-ge-CONTEXTS.true))) c.trap_at.ensures

pub returns-clause-enters : goal.returns-clause-enters
returns-clause-enters c =
    let w = world_of (shown c.args.code.shape.now c.args.contexts.now) c.args.trace.now in
    enters_new c.args.path.now w (sym c.holds.ensures ∙ c.if-holds.false) (omega (arith, c.len.ensures, c.if-len-ge-CONTEXTS.false))
    ∙ (λ i. Ok (after_change (record w { tree = sym c.in_ok-enter.ensures.ok i; entered = sym c.in_ok-push.ensures.items i; held = sym c.in_ok-push-2.ensures.items i })))
