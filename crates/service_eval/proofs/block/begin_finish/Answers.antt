use Rattle.std.proofs.Common.{suc, ◌<◌, [], ◌∷◌, length, None, Some, refl, sym, subst, arith}
use Rattle.std.specs.Option.{option_map}
use Rattle.resolved_service.specs.Steps.{Finish}
use Rattle.resolved_service.specs.View.{tree_of}
use Rattle.service_eval.specs.inner.Items as i
use Rattle.service_eval.specs.inner.Machines.{on_top, before_all, comes_to}
use Rattle.service_eval.specs.inner.Turns.{mach, Goes}
use Rattle.service_eval.specs.inner.Traces.{Ends}
use Rattle.service_eval.specs.inner.Weight.{load}
use Rattle.service_eval.proofs.BlockLemmas as l
use Rattle.service_eval.proofs.LeaveTurns.{follows_from}
use Rattle.service_eval.proofs.LighterTurns.{one_lighter}
use Rattle.service_eval.proofs.Outcomes.{finish_through}
use Rattle.service_eval.proofs.block.begin_finish.Goals as goal

pub returns-in-None : goal.returns-in-None
returns-in-None c =
    let m = mach c.args.code c.args.contexts.now c.args.m.now in
    (subst (λ v. Ends (comes_to c.args.code.methods.now (on_top (i.Begin (Finish c.args.at (option_map tree_of v))) m)) None m.state.world) (sym c.in-None.is) (finish_through c.args.code.methods.now m.items m.path None m.state), c.requires.holds)

pub returns-in-Some : goal.returns-in-Some
returns-in-Some c =
    let m = mach c.args.code c.args.contexts.now c.args.m.now in
    let e = tree_of c.in-Some.e in
    let at = c.args.at in
    let base = length c.args.m.now.values.items in
    let parts = before_all (i.Eval e ∷ i.Finish at i.Finishes base ∷ []) m in
    let light : load c.args.code.methods.now parts < load c.args.code.methods.now (on_top (i.Begin (Finish at (Some e))) m) = one_lighter c.args.code.methods.now m (Finish at (Some e)) e at i.Finishes base (λ n. refl) (λ n. refl) in
    subst (λ v. Goes c.args.code c.args.contexts.now c.args.m.now (i.Begin (Finish at (option_map tree_of v))) c.begin_one.result c.begin_one.new.contexts c.begin_one.new.m) (sym c.in-Some.is)
    (follows_from c.args.code (comes_to c.args.code.methods.now (on_top (i.Begin (Finish at (Some e))) m)) (comes_to c.args.code.methods.now parts) c.begin_one.result (mach c.args.code c.begin_one.new.contexts c.begin_one.new.m)
    (l.finish_parts c.args.code.methods.now m at e) (suc (load c.args.code.methods.now parts)) (load c.args.code.methods.now (on_top (i.Begin (Finish at (Some e))) m)) (omega (arith, light)) c.begin_one.ensures)
