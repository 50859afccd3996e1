use Rattle.std.proofs.Common.{[], ◌∷◌, map, length, sym, ap, subst, ◌∙◌, refl, ◌<◌, ◌≤◌, arith}
use Rattle.context_tree.specs.Contexts.{tree_of as shown}
use Rattle.resolved_service.specs.View.{tree, tree_of, trees_of}
use Rattle.service_eval.specs.inner.Items as i
use Rattle.service_eval.specs.inner.Machines.{on_top, before_all, comes_to}
use Rattle.service_eval.specs.inner.Traces.{Fails}
use Rattle.service_eval.specs.inner.Turns.{mach, IsNext, Goes}
use Rattle.service_eval.specs.inner.Weight.{load}
use Rattle.service_eval.proofs.BlockTurns.{then_next, then_goes}
use Rattle.service_eval.proofs.FinishTurns.{goes_from}
use Rattle.service_eval.proofs.LighterTurns.{none_lighter, first_lighter}
use Rattle.service_eval.proofs.EvalLemmas as e
use Rattle.service_eval.proofs.ReadyLemmas.{ready_with}
use Rattle.service_eval.proofs.EvalTurns.{first_turn}
use Rattle.service_eval.proofs.eval.+evals.Goals as goal

pub returns-in-None : goal.returns-in-None
returns-in-None t c = (
  ap (λ es. comes_to c.args.code.methods.now (on_top (i.Evals (trees_of (map tree_of es))) (mach c.args.code c.args.contexts.now c.args.m.now))) (c.in-None.ensures.none refl)
      ∙ e.no_values c.args.code.methods.now (mach c.args.code c.args.contexts.now c.args.m.now),
  ready_with _ _ _ _ _ c.requires c.requires.items.1,
  subst (λ es. load c.args.code.methods.now (mach c.args.code c.args.contexts.now c.args.m.now) < load c.args.code.methods.now (on_top (i.Evals (trees_of (map tree_of es))) (mach c.args.code c.args.contexts.now c.args.m.now))) (sym (c.in-None.ensures.none refl)) (none_lighter c.args.code.methods.now (mach c.args.code c.args.contexts.now c.args.m.now)),
)

pub evals-requires : goal.evals-requires
evals-requires t c =
    let first = tree_of c.in-Some.first.now in
    let others = trees_of (map tree_of c.in-Some.others.now) in
    let M = mach c.args.code c.args.contexts.now c.args.m.now in
    let all = subst (λ es. IsNext c.args.code c.args.contexts.now c.args.m.now (i.Evals (trees_of (map tree_of es)))) c.in-Some.ensures.some c.requires in
    let next = ready_with c.args.code.shape.now c.args.code.methods.now (on_top (i.Evals (tree first others)) M) (i.Eval first ∷ i.Evals others ∷ M.items) M.values all (all.items.0.0, (all.items.0.1, all.items.1)) in
    let shorter = ap length c.in-Some.ensures.some in
    let falls = c.decreases in
    (omega (arith, shorter, falls), then_next c.args.code c.args.contexts.now c.args.m.now c.give.new.self first (i.Evals others ∷ []) next c.in-Ok-Some.value (c.in-Ok.ensures.ok (shown c.args.code.shape.now c.args.contexts.now)))

pub returns-in-Ok : goal.returns-in-Ok
returns-in-Ok t c =
    let code = c.args.code in
    let M = mach code c.args.contexts.now c.args.m.now in
    let first = tree_of c.in-Some.first.now in
    let others = trees_of (map tree_of c.in-Some.others.now) in
    let found = rw c.in-Ok-Some.field-0-is at c.in-Ok-Some.ensures.finds in
    let all = subst (λ es. IsNext code c.args.contexts.now c.args.m.now (i.Evals (trees_of (map tree_of es)))) c.in-Some.ensures.some c.requires in
    let next = ready_with code.shape.now code.methods.now (on_top (i.Evals (tree first others)) M) (i.Eval first ∷ i.Evals others ∷ M.items) M.values all (all.items.0.0, (all.items.0.1, all.items.1)) in
    subst (λ es. Goes code c.args.contexts.now c.args.m.now (i.Evals (trees_of (map tree_of es))) c.evals.result c.args.contexts.now c.evals.new.m) (sym c.in-Some.ensures.some)
    (goes_from code (on_top (i.Evals (tree first others)) M) (on_top (i.Eval first) (on_top (i.Evals others) M)) c.evals.result (mach code c.args.contexts.now c.evals.new.m) (e.first_value code.methods.now M first others)
    (then_goes code c.args.contexts.now c.args.m.now c.give.new.self first (i.Evals others ∷ []) next c.in-Ok-Some.value (c.in-Ok.ensures.ok (shown code.shape.now c.args.contexts.now)) found c.args.contexts.now c.evals.new.m c.evals.result c.evals.ensures)
    (let light = first_lighter code.methods.now M first others in omega (arith, light)))

pub returns-in-Ok-None : goal.returns-in-Ok-None
returns-in-Ok-None t c =
    subst (λ es. Goes c.args.code c.args.contexts.now c.args.m.now (i.Evals (trees_of (map tree_of es))) c.push_two.result c.args.contexts.now c.push_two.new.self) (sym c.in-Some.ensures.some)
    (first_turn c.args.code c.args.contexts.now c.args.m.now c.push_two.new.self c.push_two.result (tree_of c.in-Some.first.now) (trees_of (map tree_of c.in-Some.others.now)) c.push_two.ensures.ok c.push_two.ensures.err
    (subst (λ es. IsNext c.args.code c.args.contexts.now c.args.m.now (i.Evals (trees_of (map tree_of es)))) c.in-Some.ensures.some c.requires))

pub returns-in-Err : goal.returns-in-Err
returns-in-Err t c =
    let code = c.args.code in
    let M = mach code c.args.contexts.now c.args.m.now in
    let first = tree_of c.in-Some.first.now in
    let others = trees_of (map tree_of c.in-Some.others.now) in (
      subst (λ es. Fails (comes_to code.methods.now (on_top (i.Evals (trees_of (map tree_of es))) M)) c.in-Err.e M.state.world) (sym c.in-Some.ensures.some)
          (subst (λ o. Fails o c.in-Err.e M.state.world) (sym (e.first_value code.methods.now M first others))
          (e.found_fails code.methods.now (on_top (i.Evals others) M) first c.in-Err.e M.state.world c.in-Err.ensures.finds)),
      c.requires.holds,
    )
