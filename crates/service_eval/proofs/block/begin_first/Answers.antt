use Rattle.std.proofs.Common.{refl, sym, ap, subst, ◌∙◌, ◌≤◌, arith}
use Rattle.context_tree.specs.Contexts.{tree_of as shown}
use Rattle.resolved_service.specs.Steps.{step, step_of, steps_in}
use Rattle.service_eval.specs.inner.Items.{Block, Begin}
use Rattle.service_eval.specs.inner.Machines.{Mach, on_top, comes_to}
use Rattle.service_eval.specs.inner.Ready.{Ready}
use Rattle.service_eval.specs.inner.Turns.{mach}
use Rattle.service_eval.specs.inner.Weight.{load}
use Rattle.service_eval.proofs.LighterTurns.{last_lighter, parts_lighter}
use Rattle.service_eval.proofs.BlockLemmas as l
use Rattle.service_eval.proofs.FinishTurns.{goes_from}
use Rattle.service_eval.proofs.ReadyLemmas.{ready_with}
use Rattle.service_eval.proofs.block.begin_first.Goals as goal

pub begin-requires : goal.begin-requires
begin-requires c = ready_with _ _ _ _ _ c.requires (c.requires.items.0.0, c.requires.items.1)

pub returns-in-None : goal.returns-in-None
returns-in-None c =
    let m = mach c.args.code c.args.contexts.now c.args.m.now in
    goes_from c.args.code (on_top (Block (step (step_of c.args.first.now) (steps_in c.args.others.now))) m) (on_top (Begin (step_of c.args.first.now)) m) c.begin.result (mach c.args.code c.begin.new.contexts c.begin.new.m)
    (ap (λ ss. comes_to c.args.code.methods.now (on_top (Block (step (step_of c.args.first.now) (steps_in ss))) m)) (c.in-None.ensures.none refl) ∙ l.block_last c.args.code.methods.now m (step_of c.args.first.now))
    c.begin.ensures
    (let light = last_lighter c.args.code.methods.now m (step_of c.args.first.now) (steps_in c.args.others.now) in omega (arith, light))

pub begin-requires-in-Ok : goal.begin-requires-in-Ok
begin-requires-in-Ok c =
    subst (λ (x : Mach). Ready c.args.code.shape.now c.args.code.methods.now (on_top (Begin (step_of c.args.first.now)) x)) (sym (c.in-Ok.ensures.ok (shown c.args.code.shape.now c.args.contexts.now)))
    (ready_with _ _ _ _ _ c.requires (c.requires.items.0.0, (c.requires.items.0.1, c.requires.items.1)))

pub returns-in-Ok : goal.returns-in-Ok
returns-in-Ok c =
    let m = mach c.args.code c.args.contexts.now c.args.m.now in
    goes_from c.args.code (on_top (Block (step (step_of c.args.first.now) (steps_in c.args.others.now))) m) (on_top (Begin (step_of c.args.first.now)) (mach c.args.code c.args.contexts.now c.push.new.self)) c.begin-in-Ok.result (mach c.args.code c.begin-in-Ok.new.contexts c.begin-in-Ok.new.m)
    (l.block_parts c.args.code.methods.now m (step_of c.args.first.now) (steps_in c.args.others.now)
    ∙ ap (λ (x : Mach). comes_to c.args.code.methods.now (on_top (Begin (step_of c.args.first.now)) x)) (sym (c.in-Ok.ensures.ok (shown c.args.code.shape.now c.args.contexts.now))))
    c.begin-in-Ok.ensures
    (subst (λ (x : Mach). load c.args.code.methods.now (on_top (Begin (step_of c.args.first.now)) x) ≤ load c.args.code.methods.now (on_top (Block (step (step_of c.args.first.now) (steps_in c.args.others.now))) m)) (sym (c.in-Ok.ensures.ok (shown c.args.code.shape.now c.args.contexts.now)))
    (parts_lighter c.args.code.methods.now m (step_of c.args.first.now) (steps_in c.args.others.now)))
