use Rattle.std.proofs.Common.{ap}
use Rattle.context_tree.specs.Contexts.{tree_of as shown}
use Rattle.wave_base.specs.declared.limits.TheConstants.{TICKS}
use Rattle.resolved_service.specs.Meaning.{call_act, value}
use Rattle.resolved_service.specs.View.{tree_of}
use Rattle.service_eval.specs.inner.Machines.{state_of}
use Rattle.service_eval.specs.inner.Traces.{uncounted_outcome}
use Rattle.service_eval.proofs.Outcomes.{traps_fail}
use Rattle.service_eval.proofs.event.value_of.Goals as goal

pub returns-in-Ok-Some-clause-comes : goal.returns-in-Ok-Some-clause-comes
returns-in-Ok-Some-clause-comes c = ap uncounted_outcome (rw c.in-Ok-Some.field-0-is at c.in-Ok-Some.ensures.finds)

pub returns-in-Err-clause-comes : goal.returns-in-Err-clause-comes
returns-in-Err-clause-comes c =
    let st = state_of (shown c.args.code.shape.now c.args.contexts.now) c.args.m.now in
    traps_fail (value (call_act c.args.code.methods.now TICKS) c.args.m.now.path (tree_of c.args.e.now) st) c.in-Err.e st.world c.in-Err.ensures.finds
