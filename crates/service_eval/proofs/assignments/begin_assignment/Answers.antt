use Rattle.std.proofs.Common.{length, suc, refl, sym, ap, subst, arith}
use Rattle.context_tree.specs.Contexts.{tree_of as shown}
use Rattle.resolved_service.specs.View.{tree_of}
use Rattle.service_eval.specs.declared.assignments.Assignment.TheVariants as assignment
use Rattle.service_eval.specs.inner.Changes.{step_in}
use Rattle.service_eval.specs.inner.Items.{Eval}
use Rattle.service_eval.specs.inner.Machines.{Mach, on_top, before_all, comes_to}
use Rattle.service_eval.specs.inner.Ready.{Ready, Turned}
use Rattle.service_eval.specs.inner.Turns.{mach}
use Rattle.service_eval.specs.inner.Weight.{load}
use Rattle.service_eval.proofs.BlockTurns.{step_turn, at_step, to_parts, from_parts}
use Rattle.service_eval.proofs.ChangeLemmas.{begun_lighter, begun, begun_parts, begun_fits}
use Rattle.service_eval.proofs.LeaveTurns.{follows_from}
use Rattle.service_eval.proofs.ReadyLemmas.{ready_with}
use Rattle.service_eval.proofs.assignments.begin_assignment.Goals as goal

pub eval-requires : goal.eval-requires
eval-requires c =
    let code = c.args.code in
    let M : Mach = mach code c.args.contexts.now c.args.m.now in
    let at = c.args.at in
    let change = assignment.Set c.in-Set.variable c.in-Set.e in
    subst (λ (x : Mach). Ready code.shape.now code.methods.now (on_top (Eval (tree_of c.in-Set.e.now)) x)) (sym (c.in-Ok.ensures.ok (shown code.shape.now c.args.contexts.now)))
    (to_parts code c.args.contexts.now c.args.m.now c.height-base.result (step_in at c.args.change) (step_in at change) (ap (step_in at) c.in-Set.is) (λ h x. before_all (begun at change h) x) c.height-base.ensures
    (λ next. ready_with _ _ _ _ _ next (begun_fits code.shape.now code.methods.now M.path at change (length M.values) M.items next.items.0 next.items.1)) c.requires)

pub returns-in-Ok : goal.returns-in-Ok
returns-in-Ok c =
    let code = c.args.code in
    let M : Mach = mach code c.args.contexts.now c.args.m.now in
    let at = c.args.at in
    let change = assignment.Set c.in-Set.variable c.in-Set.e in
    let parts : Mach = before_all (begun at change c.height-base.result) M in
    from_parts code c.args.contexts.now c.args.m.now c.height-base.result (step_in at c.args.change) (step_in at change) (ap (step_in at) c.in-Set.is) (λ h x. before_all (begun at change h) x) c.height-base.ensures
    c.args.contexts.now c.eval.new.m c.eval.result (begun_parts code.methods.now M at change) (begun_lighter code.methods.now M at change (length M.values))
    (follows_from code (comes_to code.methods.now parts) (comes_to code.methods.now parts) c.eval.result (mach code c.args.contexts.now c.eval.new.m) refl (load code.methods.now parts) (suc (load code.methods.now parts)) (omega arith)
    (subst (λ (x : Mach). Turned code.shape.now code.methods.now (on_top (Eval (tree_of c.in-Set.e.now)) x) c.eval.result (mach code c.args.contexts.now c.eval.new.m)) (c.in-Ok.ensures.ok (shown code.shape.now c.args.contexts.now)) c.eval.ensures))

pub returns-in-Put : goal.returns-in-Put
returns-in-Put c =
    let M : Mach = mach c.args.code c.args.contexts.now c.args.m.now in
    let at = c.args.at in
    let change = assignment.Put c.in-Put.variable c.in-Put.key c.in-Put.e in
    at_step c.args.code c.args.contexts.now c.args.m.now c.push_three.new.self c.push_three.result (step_in at c.args.change) (step_in at change) (ap (step_in at) c.in-Put.is)
    (λ next. step_turn c.args.code c.args.contexts.now c.args.m.now c.push_three.new.self c.push_three.result c.height-base.result (step_in at change) (λ h x. before_all (begun at change h) x) c.height-base.ensures
    (begun_parts c.args.code.methods.now M at change)
    (ready_with _ _ _ _ _ next (begun_fits c.args.code.shape.now c.args.code.methods.now M.path at change (length M.values) M.items next.items.0 next.items.1)) c.push_three.ensures.ok c.push_three.ensures.err (begun_lighter c.args.code.methods.now M at change (length M.values)) next) c.requires

pub returns-in-Cut : goal.returns-in-Cut
returns-in-Cut c =
    let M : Mach = mach c.args.code c.args.contexts.now c.args.m.now in
    let at = c.args.at in
    let change = assignment.Cut c.in-Cut.variable c.in-Cut.key in
    at_step c.args.code c.args.contexts.now c.args.m.now c.push_two.new.self c.push_two.result (step_in at c.args.change) (step_in at change) (ap (step_in at) c.in-Cut.is)
    (λ next. step_turn c.args.code c.args.contexts.now c.args.m.now c.push_two.new.self c.push_two.result c.height-base.result (step_in at change) (λ h x. before_all (begun at change h) x) c.height-base.ensures
    (begun_parts c.args.code.methods.now M at change)
    (ready_with _ _ _ _ _ next (begun_fits c.args.code.shape.now c.args.code.methods.now M.path at change (length M.values) M.items next.items.0 next.items.1)) c.push_two.ensures.ok c.push_two.ensures.err (begun_lighter c.args.code.methods.now M at change (length M.values)) next) c.requires
