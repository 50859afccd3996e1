use Rattle.std.proofs.Common.{[], ◌∷◌, length, refl, sym, ap, subst, ◌∙◌, arith, suc}
use Rattle.context_tree.specs.Contexts.{tree_of as shown}
use Rattle.resolved_service.specs.View.{tree_of}
use Rattle.service_eval.specs.inner.Items.{Eval, Finish, end_of}
use Rattle.service_eval.specs.inner.Machines.{before_all, comes_to}
use Rattle.service_eval.specs.inner.Ready.{Ready}
use Rattle.service_eval.specs.inner.Turns.{mach, Goes}
use Rattle.std.proofs.lemmas.Result.{on_ok_weaker}
use Rattle.service_eval.specs.inner.Weight.{load}
use Rattle.service_eval.proofs.LeaveTurns.{follows_from}
use Rattle.service_eval.proofs.BlockTurns.{then_next, then_goes}
use Rattle.service_eval.proofs.EvalLemmas.{found_fails}
use Rattle.service_eval.proofs.ReadyLemmas.{turned_to}
use Rattle.service_eval.proofs.block.begin_one.Goals as goal

pub finish-requires : goal.finish-requires
finish-requires c =
    subst (λ n. Ready c.args.code.shape.now c.args.code.methods.now (before_all (Finish c.args.at (end_of c.args.ending) n ∷ []) (mach c.args.code c.args.contexts.now c.give.new.self))) (sym c.height-base.ensures)
    (then_next c.args.code c.args.contexts.now c.args.m.now c.give.new.self (tree_of c.args.e.now) (Finish c.args.at (end_of c.args.ending) (length c.args.m.now.values.items) ∷ []) c.requires c.in-Ok-Some.value (c.in-Ok.ensures.ok (shown c.args.code.shape.now c.args.contexts.now)))

pub returns-in-Ok : goal.returns-in-Ok
returns-in-Ok c =
    let found = rw c.in-Ok-Some.field-0-is at c.in-Ok-Some.ensures.finds in
    let goes = subst (λ n. Goes c.args.code c.args.contexts.now c.give.new.self (Finish c.args.at (end_of c.args.ending) n) c.finish.result c.finish.new.contexts c.finish.new.m) c.height-base.ensures c.finish.ensures.goes in
    let M = mach c.args.code c.args.contexts.now c.args.m.now in
    let all = before_all (Eval (tree_of c.args.e.now) ∷ Finish c.args.at (end_of c.args.ending) (length c.args.m.now.values.items) ∷ []) M in
    follows_from c.args.code (comes_to c.args.code.methods.now all) (comes_to c.args.code.methods.now all) c.finish.result (mach c.args.code c.finish.new.contexts c.finish.new.m) refl (load c.args.code.methods.now all) (suc (load c.args.code.methods.now all)) (omega arith)
    (then_goes c.args.code c.args.contexts.now c.args.m.now c.give.new.self (tree_of c.args.e.now) (Finish c.args.at (end_of c.args.ending) (length c.args.m.now.values.items) ∷ []) c.requires c.in-Ok-Some.value (c.in-Ok.ensures.ok (shown c.args.code.shape.now c.args.contexts.now)) found c.finish.new.contexts c.finish.new.m c.finish.result goes)

pub returns-in-Ok-None : goal.returns-in-Ok-None
returns-in-Ok-None c =
    let M = mach c.args.code c.args.contexts.now c.args.m.now in
    let all = before_all (Eval (tree_of c.args.e.now) ∷ Finish c.args.at (end_of c.args.ending) (length c.args.m.now.values.items) ∷ []) M in
    turned_to c.args.code c.args.contexts.now all all c.push_two.new.self c.push_two.result refl c.requires c.requires.holds
    (on_ok_weaker c.push_two.result (λ h. h (shown c.args.code.shape.now c.args.contexts.now) ∙ ap (λ n. before_all (Eval (tree_of c.args.e.now) ∷ Finish c.args.at (end_of c.args.ending) n ∷ []) M) c.height-base.ensures) c.push_two.ensures.ok) c.push_two.ensures.err (suc (load c.args.code.methods.now all)) (omega arith)

pub returns-in-Err : goal.returns-in-Err
returns-in-Err c =
    let M = mach c.args.code c.args.contexts.now c.args.m.now in
    (found_fails c.args.code.methods.now (before_all (Finish c.args.at (end_of c.args.ending) (length M.values) ∷ []) M) (tree_of c.args.e.now) c.in-Err.e _ c.in-Err.ensures.finds, c.requires.holds)
