use Rattle.std.proofs.Common.{Ok, Err, sym, subst}
use Rattle.context_tree.specs.Contexts.{tree_of as shown}
use Rattle.resolved_service.specs.Steps.{steps_in}
use Rattle.service_eval.specs.inner.Items.{Block}
use Rattle.service_eval.specs.inner.Machines.{Mach, on_top}
use Rattle.service_eval.specs.inner.Ready.{Ready, Turned}
use Rattle.service_eval.specs.inner.Turns.{mach}
use Rattle.service_eval.proofs.loops.leave_turn.Goals as goal

pub begin_rest-requires : goal.begin_rest-requires
begin_rest-requires c =
    let code = c.args.code in
    subst (λ (x : Mach). Ready code.shape.now code.methods.now (on_top (Block (steps_in c.args.rest.now)) x)) (sym (c.in-Ok.ensures.ok (shown code.shape.now c.args.contexts.now))) c.requires

pub returns-in-Ok-begin_rest : goal.returns-in-Ok-begin_rest
returns-in-Ok-begin_rest c = λ next.
    let code = c.args.code in
    subst (λ (x : Mach). Turned code.shape.now code.methods.now (on_top (Block (steps_in c.args.rest.now)) x) (Ok tt) (mach code c.begin_rest.new.contexts c.begin_rest.new.m)) (c.in-Ok.ensures.ok (shown code.shape.now c.args.contexts.now)) c.in-Ok-begin_rest.ensures

pub returns-in-Err-begin_rest : goal.returns-in-Err-begin_rest
returns-in-Err-begin_rest c = λ next.
    let code = c.args.code in
    subst (λ (x : Mach). Turned code.shape.now code.methods.now (on_top (Block (steps_in c.args.rest.now)) x) (Err c.in-Err-begin_rest.e) (mach code c.begin_rest.new.contexts c.begin_rest.new.m)) (c.in-Ok.ensures.ok (shown code.shape.now c.args.contexts.now)) c.in-Err-begin_rest.ensures
