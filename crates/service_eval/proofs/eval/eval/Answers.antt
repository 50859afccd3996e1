use Rattle.std.proofs.Common.{◌≤◌, length, map, sym, ap, subst, ◌∙◌, refl, arith}
use Rattle.context_tree.specs.Contexts.{tree_of as shown}
use Rattle.resolved_service.specs.View as r
use Rattle.resolved_service.specs.View.{tree_of, trees_of}
use Rattle.service_eval.specs.inner.Items as i
use Rattle.std.proofs.Common.{get_or}
use Rattle.std.proofs.lemmas.Result.{IfOk-weaker}
use Rattle.wave_base.specs.Starts.{shown_fields}
use Rattle.resolved_service.specs.View.{node_tree}
use Rattle.resolved_service.specs.World.{nothing, read_field, read_above}
use Rattle.service_eval.specs.inner.Machines.{Mach, on_top, comes_to}
use Rattle.service_eval.specs.inner.Ready.{Ready}
use Rattle.service_eval.specs.inner.Turns.{mach, IsNext, Goes}
use Rattle.service_eval.specs.inner.Weight.{load}
use Rattle.service_eval.proofs.EvalLemmas.{call_parts}
use Rattle.service_eval.proofs.FinishTurns.{goes_from}
use Rattle.service_eval.proofs.LighterTurns.{call_lighter}
use Rattle.service_eval.proofs.EvalTurns.{and_turn, or_turn, child_turn}
use Rattle.service_eval.proofs.TreeRows.{op_node, and_node, or_node, call_node, child_node}
use Rattle.service_eval.proofs.ReadyLemmas.{at_tree, gives, ready_with}
use Rattle.service_eval.proofs.eval.eval.Goals as goal

pub returns-in-Const : goal.returns-in-Const
unfolding read_field read_above
returns-in-Const c =
    at_tree c.args.code c.args.contexts.now c.args.m.now c.give.new.m c.give.result (tree_of c.args.e.now) (r.Const c.args.e.now.at c.in-Const.value) (ap (λ n. node_tree n c.args.e.now.at) c.in-Const.is)
    (gives c.args.code c.args.contexts.now c.args.m.now c.give.new.m c.give.result (r.Const c.args.e.now.at c.in-Const.value) _ refl (c.give.ensures.ok _ c.copy.ensures.equal) c.give.ensures.err) c.requires

pub returns-in-Local : goal.returns-in-Local
unfolding read_field read_above
returns-in-Local c =
    at_tree c.args.code c.args.contexts.now c.args.m.now c.give-in-Local.new.m c.give-in-Local.result (tree_of c.args.e.now) (r.Local c.args.e.now.at c.in-Local.slot) (ap (λ n. node_tree n c.args.e.now.at) c.in-Local.is)
    (gives c.args.code c.args.contexts.now c.args.m.now c.give-in-Local.new.m c.give-in-Local.result (r.Local c.args.e.now.at c.in-Local.slot) _ refl (c.give-in-Local.ensures.ok _ (IfOk-weaker c.into_value-value.result _ _ (λ v h. h ∙ c.item.ensures ∙ ap (λ vs. get_or vs c.in-Local.slot nothing) c.as_slice.ensures.value) c.into_value-value.ensures.equal)) c.give-in-Local.ensures.err) c.requires

pub returns-in-Field : goal.returns-in-Field
unfolding read_field read_above
returns-in-Field c =
    at_tree c.args.code c.args.contexts.now c.args.m.now c.give-in-Field.new.m c.give-in-Field.result (tree_of c.args.e.now) (r.Field c.args.e.now.at c.in-Field.f) (ap (λ n. node_tree n c.args.e.now.at) c.in-Field.is)
    (gives c.args.code c.args.contexts.now c.args.m.now c.give-in-Field.new.m c.give-in-Field.result (r.Field c.args.e.now.at c.in-Field.f) _ refl (c.give-in-Field.ensures.ok _ (IfOk-weaker c.into_value-value-in-Field.result _ _ (λ v h. h ∙ c.field.ensures) c.into_value-value-in-Field.ensures.equal)) c.give-in-Field.ensures.err) c.requires

pub returns-in-Above : goal.returns-in-Above
unfolding read_field read_above
returns-in-Above c =
    at_tree c.args.code c.args.contexts.now c.args.m.now c.give-in-Above.new.m c.give-in-Above.result (tree_of c.args.e.now) (r.Above c.args.e.now.at c.in-Above.level c.in-Above.f) (ap (λ n. node_tree n c.args.e.now.at) c.in-Above.is)
    (gives c.args.code c.args.contexts.now c.args.m.now c.give-in-Above.new.m c.give-in-Above.result (r.Above c.args.e.now.at c.in-Above.level c.in-Above.f) _ refl (c.give-in-Above.ensures.ok _ (IfOk-weaker c.into_value-value-in-Above.result _ _ (λ v h. h ∙ c.field-in-Above.ensures ∙ ap (λ p. get_or (shown_fields c.args.code.shape.now c.args.contexts.now.shots p) c.in-Above.f nothing) c.above-path.ensures) c.into_value-value-in-Above.ensures.equal)) c.give-in-Above.ensures.err) c.requires

pub operate-requires : goal.operate-requires
operate-requires c =
    subst (λ t. IsNext c.args.code c.args.contexts.now c.args.m.now (i.Eval t))
    (ap (λ n. node_tree n c.args.e.now.at) c.in-Op.is ∙ op_node c.in-Op.row c.in-Op.args c.args.e.now.at ∙ ap (λ l. r.Op c.args.e.now.at c.in-Op.row (trees_of (map tree_of l))) (sym c.as_slice-in-Op.ensures.value)) c.requires

pub returns-in-Op : goal.returns-in-Op
returns-in-Op c =
    subst (λ t. Goes c.args.code c.args.contexts.now c.args.m.now (i.Eval t) c.operate.result c.args.contexts.now c.operate.new.m)
    (sym (ap (λ n. node_tree n c.args.e.now.at) c.in-Op.is ∙ op_node c.in-Op.row c.in-Op.args c.args.e.now.at ∙ ap (λ l. r.Op c.args.e.now.at c.in-Op.row (trees_of (map tree_of l))) (sym c.as_slice-in-Op.ensures.value))) c.operate.ensures

pub returns-in-And : goal.returns-in-And
returns-in-And c =
    let at = c.args.e.now.at in
    at_tree c.args.code c.args.contexts.now c.args.m.now c.push_two.new.self c.push_two.result (tree_of c.args.e.now) (r.And at (tree_of c.deref.result.now) (tree_of c.deref-in-And.result.now))
    (ap (λ n. node_tree n at) c.in-And.is ∙ and_node c.in-And.left c.in-And.right at ∙ (λ i. r.And at (tree_of (sym c.deref.ensures i)) (tree_of (sym c.deref-in-And.ensures i))))
    (and_turn c.args.code c.args.contexts.now c.args.m.now c.push_two.new.self c.push_two.result c.height-base.result c.height-base.ensures at (tree_of c.deref.result.now) (tree_of c.deref-in-And.result.now) c.push_two.ensures.ok c.push_two.ensures.err) c.requires

pub returns-in-Or : goal.returns-in-Or
returns-in-Or c =
    let at = c.args.e.now.at in
    at_tree c.args.code c.args.contexts.now c.args.m.now c.push_two-in-Or.new.self c.push_two-in-Or.result (tree_of c.args.e.now) (r.Or at (tree_of c.deref-in-Or.result.now) (tree_of c.deref-in-Or-2.result.now))
    (ap (λ n. node_tree n at) c.in-Or.is ∙ or_node c.in-Or.left c.in-Or.right at ∙ (λ i. r.Or at (tree_of (sym c.deref-in-Or.ensures i)) (tree_of (sym c.deref-in-Or-2.ensures i))))
    (or_turn c.args.code c.args.contexts.now c.args.m.now c.push_two-in-Or.new.self c.push_two-in-Or.result c.height-base.result c.height-base.ensures at (tree_of c.deref-in-Or.result.now) (tree_of c.deref-in-Or-2.result.now) c.push_two-in-Or.ensures.ok c.push_two-in-Or.ensures.err) c.requires

pub evals-requires : goal.evals-requires
evals-requires c =
    let code = c.args.code in
    let at = c.args.e.now.at in
    let ts = trees_of (map tree_of c.as_slice-in-Ok.result.now) in
    let is = ap (λ n. node_tree n at) c.in-Call.is ∙ call_node c.in-Call.method c.in-Call.args at ∙ ap (λ l. r.Call at c.in-Call.method (trees_of (map tree_of l))) (sym c.as_slice-in-Ok.ensures.value) in
    let next = subst (λ t. IsNext code c.args.contexts.now c.args.m.now (i.Eval t)) is c.requires in
    subst (λ (x : Mach). Ready code.shape.now code.methods.now (on_top (i.Evals ts) x)) (sym (c.in-Ok.ensures.ok (shown code.shape.now c.args.contexts.now)))
    (ready_with _ _ _ _ _ next (next.items.0.1, ((_, next.items.0.0), next.items.1)))

pub returns-in-Ok : goal.returns-in-Ok
returns-in-Ok c =
    let code = c.args.code in
    let M = mach code c.args.contexts.now c.args.m.now in
    let at = c.args.e.now.at in
    let ts = trees_of (map tree_of c.as_slice-in-Ok.result.now) in
    let is = ap (λ n. node_tree n at) c.in-Call.is ∙ call_node c.in-Call.method c.in-Call.args at ∙ ap (λ l. r.Call at c.in-Call.method (trees_of (map tree_of l))) (sym c.as_slice-in-Ok.ensures.value) in
    let pushed = c.in-Ok.ensures.ok (shown code.shape.now c.args.contexts.now) ∙ ap (λ n. on_top (i.Invoke at c.in-Call.method n) M) c.height-base.ensures in
    subst (λ t. Goes code c.args.contexts.now c.args.m.now (i.Eval t) c.evals.result c.args.contexts.now c.evals.new.m) (sym is)
    (goes_from code (on_top (i.Eval (r.Call at c.in-Call.method ts)) M) (on_top (i.Evals ts) (mach code c.args.contexts.now c.push.new.self)) c.evals.result (mach code c.args.contexts.now c.evals.new.m)
    (call_parts code.methods.now M at c.in-Call.method ts ∙ ap (λ (x : Mach). comes_to code.methods.now (on_top (i.Evals ts) x)) (sym pushed)) c.evals.ensures
    (subst (λ (x : Mach). load code.methods.now (on_top (i.Evals ts) x) ≤ load code.methods.now (on_top (i.Eval (r.Call at c.in-Call.method ts)) M)) (sym pushed)
    (let light = call_lighter code.methods.now M at c.in-Call.method ts (length M.values) in omega (arith, light))))

pub returns-in-Child : goal.returns-in-Child
returns-in-Child c =
    let at = c.args.e.now.at in
    let key = tree_of c.deref-in-Child.result.now in
    let ts = trees_of (map tree_of c.as_slice-in-Child.result.now) in
    at_tree c.args.code c.args.contexts.now c.args.m.now c.push_three.new.self c.push_three.result (tree_of c.args.e.now) (r.Child at c.in-Child.class.0 c.in-Child.method key ts)
    (ap (λ n. node_tree n at) c.in-Child.is ∙ child_node c.in-Child.class c.in-Child.method c.in-Child.key c.in-Child.args at
    ∙ (λ i. r.Child at c.in-Child.class.0 c.in-Child.method (tree_of (sym c.deref-in-Child.ensures i)) (trees_of (map tree_of (sym c.as_slice-in-Child.ensures.value i)))))
    (child_turn c.args.code c.args.contexts.now c.args.m.now c.push_three.new.self c.push_three.result c.height-base.result c.height-base.ensures at c.in-Child.class.0 c.in-Child.method key ts c.push_three.ensures.ok c.push_three.ensures.err) c.requires
