use Rattle.std.proofs.Common.{Some, sym, subst, ◌≤◌, arith}
use Rattle.context_tree.specs.Contexts.{tree_of as shown}
use Rattle.resolved_service.specs.Meaning.{Returned, Left}
use Rattle.service_eval.specs.inner.Items as i
use Rattle.service_eval.specs.inner.Items.{Finish}
use Rattle.service_eval.specs.inner.Machines.{Mach, on_top, cut_to, come_of, comes_to}
use Rattle.service_eval.specs.inner.Ready.{Ready}
use Rattle.service_eval.specs.inner.Turns.{mach}
use Rattle.service_eval.specs.inner.Weight.{load}
use Rattle.service_eval.proofs.LighterTurns.{finished_lighter}
use Rattle.service_eval.proofs.LeaveTurns.{follows_from}
use Rattle.service_eval.proofs.ReadyLemmas.{ready_with}
use Rattle.service_eval.proofs.finish.return_with.Goals as goal

pub give_back-requires : goal.give_back-requires
give_back-requires c =
    let m = mach c.args.code c.args.contexts.now c.args.m.now in
    subst (λ (x : Mach). Ready c.args.code.shape.now c.args.code.methods.now x) (sym (c.take-value.ensures.rest (shown c.args.code.shape.now c.args.contexts.now)))
    (ready_with c.args.code.shape.now c.args.code.methods.now (on_top (Finish c.args.at i.Returns c.args.base) m) m.items (cut_to c.args.base m).values c.requires c.requires.items.1)

pub returns : goal.returns
returns c =
    let m = mach c.args.code c.args.contexts.now c.args.m.now in
    let is = c.take-value.ensures.rest (shown c.args.code.shape.now c.args.contexts.now) in
    follows_from c.args.code (comes_to c.args.code.methods.now (on_top (Finish c.args.at i.Returns c.args.base) m))
    (come_of c.args.code.methods.now (mach c.args.code c.args.contexts.now c.take-value.new.self).items c.take-value.new.self.path (Left (Returned (Some c.take-value.result)) (mach c.args.code c.args.contexts.now c.take-value.new.self).state))
    c.give_back.result (mach c.args.code c.args.contexts.now c.give_back.new.m)
    (λ j. come_of c.args.code.methods.now (sym is j).items (sym is j).path (Left (Returned (Some (sym c.take-value.ensures.value j))) (sym is j).state))
    (load c.args.code.methods.now (mach c.args.code c.args.contexts.now c.take-value.new.self)) (load c.args.code.methods.now (on_top (Finish c.args.at i.Returns c.args.base) m))
    (let light = finished_lighter c.args.code.methods.now m c.args.at i.Returns c.args.base m.state (omega arith) in
    subst (λ (x : Mach). load c.args.code.methods.now x ≤ load c.args.code.methods.now (on_top (Finish c.args.at i.Returns c.args.base) m)) (sym is) (omega (arith, light)))
    c.give_back.ensures
