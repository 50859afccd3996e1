use Rattle.std.proofs.Common.{◌≡◌, map, [], ◌∷◌, Ok, IfSome, sym, ap, subst, ◌∙◌, rules, w64}
use Rattle.std.proofs.lemmas.Int.{to_z-of_z}
use Rattle.context_tree.specs.Contexts.{tree_of as shown}
use Rattle.resolved_service.specs.Meaning.{call_act}
use Rattle.resolved_service.specs.View as r
use Rattle.resolved_service.specs.View.{Tree, node_tree, tree_of, trees_of}
use Rattle.service_eval.specs.inner.Answers.{Gives}
use Rattle.service_eval.specs.inner.Machines.{state_of}
use Rattle.service_eval.specs.inner.Turns.{IsWorth}
use Rattle.value_ops.specs.Operators.{apply_row}
use Rattle.wave_base.specs.declared.limits.TheConstants.{TICKS}
use Rattle.wave_base.specs.declared.value.Value.TheVariants.{Int, Map}
use Rattle.service_eval.proofs.PlainLemmas.{of_one, of_two, if_some}
use Rattle.service_eval.proofs.TreeRows.{op_node}
use Rattle.service_eval.proofs.plain.+number.Goals as goal

pub number-returns-in-Op : goal.number-returns-in-Op
number-returns-in-Op t c =
    let e = c.args.e.now in
    let is : tree_of e ≡ r.Op e.at c.in-Op.row (trees_of (map tree_of c.as_slice.result.now)) =
    ap (λ n. node_tree n e.at) c.in-Op.is ∙ op_node c.in-Op.row c.in-Op.args e.at ∙ ap (λ l. r.Op e.at c.in-Op.row (trees_of (map tree_of l))) (sym c.as_slice.ensures.value) in
    subst (λ (t : Tree). IfSome c.number_given.result (λ n. IsWorth c.args.view.now t (Int n))) (sym is) c.number_given.ensures

pub number_of_two-returns-in-Some-number : goal.number_of_two-returns-in-Some-number
number_of_two-returns-in-Some-number t c =
    let view = c.args.view.now in
    let st = state_of (shown view.code.shape.now view.contexts.now) view.m.now in
    let first = c.in-Some.ensures in
    let x = to_z-of_z w64 c.in-Some.first (search rules) in
    let y = to_z-of_z w64 c.in-Some-number.second (search rules) in
    let given : apply_row c.args.row (Int c.in-Some.first ∷ Int c.in-Some-number.second ∷ []) ≡ c.apply_ints.result = (λ i. apply_row c.args.row (Int (sym x i) ∷ Int (sym y i) ∷ [])) ∙ sym c.apply_ints.ensures in
    if_some (λ n. c.apply_ints.result ≡ Ok (Int n)) (λ n. IsWorth view (r.Op c.args.at c.args.row (r.tree (tree_of c.args.a.now) (r.tree (tree_of c.args.b.now) r.no_trees))) (Int n)) c.int_in.result
    (λ n h. of_two (call_act view.code.methods.now TICKS) view.m.now.path c.args.at c.args.row st (tree_of c.args.a.now) (tree_of c.args.b.now) _ _ (Int n) first c.in-Some-number.ensures (given ∙ h)) c.int_in.ensures

pub number_of_two-returns-in-Some-number-2 : goal.number_of_two-returns-in-Some-number-2
number_of_two-returns-in-Some-number-2 t c =
    let view = c.args.view.now in
    let st = state_of (shown view.code.shape.now view.contexts.now) view.m.now in
    let first = rw c.in-Some-Map.field-0-is at c.in-Some-Map.ensures in
    let y = to_z-of_z w64 c.in-Some-number-2.key (search rules) in
    let given : apply_row c.args.row (Map c.in-Some-Map.map ∷ Int c.in-Some-number-2.key ∷ []) ≡ c.read_map.result = (λ i. apply_row c.args.row (Map c.in-Some-Map.map ∷ Int (sym y i) ∷ [])) ∙ sym c.read_map.ensures in
    if_some (λ n. c.read_map.result ≡ Ok (Int n)) (λ n. IsWorth view (r.Op c.args.at c.args.row (r.tree (tree_of c.args.a.now) (r.tree (tree_of c.args.b.now) r.no_trees))) (Int n)) c.int_in-in-Some-number-2.result
    (λ n h. of_two (call_act view.code.methods.now TICKS) view.m.now.path c.args.at c.args.row st (tree_of c.args.a.now) (tree_of c.args.b.now) _ _ (Int n) first c.in-Some-number-2.ensures (given ∙ h)) c.int_in-in-Some-number-2.ensures

pub number_of_one-returns-in-Some : goal.number_of_one-returns-in-Some
number_of_one-returns-in-Some t c =
    let view = c.args.view.now in
    let st = state_of (shown view.code.shape.now view.contexts.now) view.m.now in
    let x = to_z-of_z w64 c.in-Some.n (search rules) in
    let given : apply_row c.args.row (Int c.in-Some.n ∷ []) ≡ c.apply_int.result = (λ i. apply_row c.args.row (Int (sym x i) ∷ [])) ∙ sym c.apply_int.ensures in
    if_some (λ n. c.apply_int.result ≡ Ok (Int n)) (λ n. IsWorth view (r.Op c.args.at c.args.row (r.tree (tree_of c.args.a.now) r.no_trees)) (Int n)) c.int_in.result
    (λ n h. of_one (call_act view.code.methods.now TICKS) view.m.now.path c.args.at c.args.row st (tree_of c.args.a.now) _ (Int n) c.in-Some.ensures (given ∙ h)) c.int_in.ensures

pub number_of_one-returns-in-Some-held_value : goal.number_of_one-returns-in-Some-held_value
number_of_one-returns-in-Some-held_value t c =
    let view = c.args.view.now in
    let st = state_of (shown view.code.shape.now view.contexts.now) view.m.now in
    let v = c.in-Some-held_value.value.now in
    if_some (λ n. c.apply_one.result ≡ Ok (Int n)) (λ n. IsWorth view (r.Op c.args.at c.args.row (r.tree (tree_of c.args.a.now) r.no_trees)) (Int n)) c.int_found.result
    (λ n h. of_one (call_act view.code.methods.now TICKS) view.m.now.path c.args.at c.args.row st (tree_of c.args.a.now) v (Int n) c.in-Some-held_value.ensures (subst (Gives (apply_row c.args.row (v ∷ [])) c.args.at) h c.apply_one.ensures)) c.int_found.ensures
