use Rattle.std.proofs.Common.{suc, ◌<◌, [], ◌∷◌, length, None, Some, refl, sym, subst, arith}
use Rattle.std.specs.Option.{option_map}
use Rattle.resolved_service.specs.Meaning.{Returned, Left}
use Rattle.resolved_service.specs.Steps.{Return}
use Rattle.resolved_service.specs.View.{tree_of}
use Rattle.service_eval.specs.inner.Items as i
use Rattle.service_eval.specs.inner.Machines.{on_top, before_all, come_of, comes_to}
use Rattle.service_eval.specs.inner.Turns.{mach, Goes}
use Rattle.service_eval.specs.inner.Weight.{load}
use Rattle.service_eval.proofs.BlockLemmas as l
use Rattle.service_eval.proofs.LeaveTurns.{follows_from}
use Rattle.service_eval.proofs.LighterTurns.{one_lighter, return_lighter}
use Rattle.service_eval.proofs.block.begin_return.Goals as goal

pub returns-in-Some : goal.returns-in-Some
returns-in-Some c =
    let m = mach c.args.code c.args.contexts.now c.args.m.now in
    let e = tree_of c.in-Some.e in
    let at = c.args.at in
    let base = length c.args.m.now.values.items in
    let parts = before_all (i.Eval e ∷ i.Finish at i.Returns base ∷ []) m in
    let light : load c.args.code.methods.now parts < load c.args.code.methods.now (on_top (i.Begin (Return at (Some e))) m) = one_lighter c.args.code.methods.now m (Return at (Some e)) e at i.Returns base (λ n. refl) (λ n. refl) in
    subst (λ v. Goes c.args.code c.args.contexts.now c.args.m.now (i.Begin (Return at (option_map tree_of v))) c.begin_one.result c.begin_one.new.contexts c.begin_one.new.m) (sym c.in-Some.is)
    (follows_from c.args.code (comes_to c.args.code.methods.now (on_top (i.Begin (Return at (Some e))) m)) (comes_to c.args.code.methods.now parts) c.begin_one.result (mach c.args.code c.begin_one.new.contexts c.begin_one.new.m)
    (l.return_parts c.args.code.methods.now m at e) (suc (load c.args.code.methods.now parts)) (load c.args.code.methods.now (on_top (i.Begin (Return at (Some e))) m)) (omega (arith, light)) c.begin_one.ensures)

pub returns-in-None : goal.returns-in-None
returns-in-None c =
    let m = mach c.args.code c.args.contexts.now c.args.m.now in
    let at = c.args.at in
    let begun = on_top (i.Begin (Return at None)) m in
    subst (λ v. Goes c.args.code c.args.contexts.now c.args.m.now (i.Begin (Return at (option_map tree_of v))) c.give_back.result c.args.contexts.now c.give_back.new.m) (sym c.in-None.is)
    (follows_from c.args.code (comes_to c.args.code.methods.now begun) (come_of c.args.code.methods.now m.items m.path (Left (Returned None) m.state)) c.give_back.result (mach c.args.code c.args.contexts.now c.give_back.new.m)
    refl (load c.args.code.methods.now m) (load c.args.code.methods.now begun) (return_lighter c.args.code.methods.now m at) c.give_back.ensures)
