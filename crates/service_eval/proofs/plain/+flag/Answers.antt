use Rattle.std.proofs.Common.{◌≡◌, true, false, map, [], ◌∷◌, Ok, IfSome, sym, ap, subst, ◌∙◌, rules, w64}
use Rattle.std.proofs.lemmas.Int.{to_z-of_z}
use Rattle.context_tree.specs.Contexts.{tree_of as shown}
use Rattle.resolved_service.specs.Meaning.{value, call_act, Done}
use Rattle.resolved_service.specs.View as r
use Rattle.resolved_service.specs.View.{Tree, node_tree, tree_of, trees_of}
use Rattle.service_eval.specs.inner.Answers.{Gives}
use Rattle.service_eval.specs.inner.Machines.{state_of}
use Rattle.service_eval.specs.inner.Turns.{IsWorth}
use Rattle.value_ops.specs.Operators.{apply_row}
use Rattle.wave_base.specs.declared.limits.TheConstants.{TICKS}
use Rattle.wave_base.specs.declared.value.Value.TheVariants.{Bool as Truth, Int as Number}
use Rattle.service_eval.proofs.PlainLemmas.{of_one, of_two, and_true, and_false, or_true, or_false, if_some}
use Rattle.service_eval.proofs.TreeRows.{op_node, and_node, or_node}
use Rattle.service_eval.proofs.plain.+flag.Goals as goal

pub flag-returns-in-Op : goal.flag-returns-in-Op
flag-returns-in-Op t c =
    let e = c.args.e.now in
    let is : tree_of e ≡ r.Op e.at c.in-Op.row (trees_of (map tree_of c.as_slice.result.now)) =
    ap (λ n. node_tree n e.at) c.in-Op.is ∙ op_node c.in-Op.row c.in-Op.args e.at ∙ ap (λ l. r.Op e.at c.in-Op.row (trees_of (map tree_of l))) (sym c.as_slice.ensures.value) in
    subst (λ (t : Tree). IfSome c.flag_of.result (λ b. IsWorth c.args.view.now t (Truth b))) (sym is) c.flag_of.ensures

pub flag-returns-in-Some-true : goal.flag-returns-in-Some-true
flag-returns-in-Some-true t c =
    let view = c.args.view.now in
    let st = state_of (shown view.code.shape.now view.contexts.now) view.m.now in
    let k = call_act view.code.methods.now TICKS in
    let p = view.m.now.path in
    let e = c.args.e.now in
    let d = c.deref.ensures in
    let l : tree_of c.in-And.left.value ≡ tree_of c.deref.result.now = cc in
    let is = ap (λ n. node_tree n e.at) c.in-And.is ∙ and_node c.in-And.left c.in-And.right e.at ∙ ap (λ l. r.And e.at l (tree_of c.in-And.right.value)) l in
    let first : value k p (tree_of c.deref.result.now) st ≡ Done (Truth true) st = subst (λ b. value k p (tree_of c.deref.result.now) st ≡ Done (Truth b) st) c.in-Some-true.field-0-test c.in-Some-true.ensures in
    let d2 = c.deref-in-Some-true.ensures in
    let right : tree_of c.in-And.right.value ≡ tree_of c.deref-in-Some-true.result.now = cc in
    let whole = is ∙ ap (λ r'. r.And e.at (tree_of c.deref.result.now) r') right in
    if_some (λ b. IsWorth view (tree_of c.deref-in-Some-true.result.now) (Truth b)) (λ b. IsWorth view (tree_of e) (Truth b)) c.flag-in-Some-true.result
    (λ b h. subst (λ (t : Tree). value k p t st ≡ Done (Truth b) st) (sym whole) (and_true k p e.at st (tree_of c.deref.result.now) (tree_of c.deref-in-Some-true.result.now) (Truth b) first h)) c.flag-in-Some-true.ensures

pub flag-returns-in-Some-false : goal.flag-returns-in-Some-false
flag-returns-in-Some-false t c =
    let view = c.args.view.now in
    let st = state_of (shown view.code.shape.now view.contexts.now) view.m.now in
    let k = call_act view.code.methods.now TICKS in
    let p = view.m.now.path in
    let e = c.args.e.now in
    let d = c.deref.ensures in
    let l : tree_of c.in-And.left.value ≡ tree_of c.deref.result.now = cc in
    let is = ap (λ n. node_tree n e.at) c.in-And.is ∙ and_node c.in-And.left c.in-And.right e.at ∙ ap (λ l. r.And e.at l (tree_of c.in-And.right.value)) l in
    let first : value k p (tree_of c.deref.result.now) st ≡ Done (Truth false) st = subst (λ b. value k p (tree_of c.deref.result.now) st ≡ Done (Truth b) st) c.in-Some-false.field-0-test c.in-Some-false.ensures in
    subst (λ (t : Tree). value k p t st ≡ Done (Truth false) st) (sym is) (and_false k p e.at st (tree_of c.deref.result.now) (tree_of c.in-And.right.value) first)

pub flag-returns-in-Some-true-flag : goal.flag-returns-in-Some-true-flag
flag-returns-in-Some-true-flag t c =
    let view = c.args.view.now in
    let st = state_of (shown view.code.shape.now view.contexts.now) view.m.now in
    let k = call_act view.code.methods.now TICKS in
    let p = view.m.now.path in
    let e = c.args.e.now in
    let d = c.deref-in-Or.ensures in
    let l : tree_of c.in-Or.left.value ≡ tree_of c.deref-in-Or.result.now = cc in
    let is = ap (λ n. node_tree n e.at) c.in-Or.is ∙ or_node c.in-Or.left c.in-Or.right e.at ∙ ap (λ l. r.Or e.at l (tree_of c.in-Or.right.value)) l in
    let first : value k p (tree_of c.deref-in-Or.result.now) st ≡ Done (Truth true) st = subst (λ b. value k p (tree_of c.deref-in-Or.result.now) st ≡ Done (Truth b) st) c.in-Some-true-flag.field-0-test c.in-Some-true-flag.ensures in
    subst (λ (t : Tree). value k p t st ≡ Done (Truth true) st) (sym is) (or_true k p e.at st (tree_of c.deref-in-Or.result.now) (tree_of c.in-Or.right.value) first)

pub flag-returns-in-Some-false-flag : goal.flag-returns-in-Some-false-flag
flag-returns-in-Some-false-flag t c =
    let view = c.args.view.now in
    let st = state_of (shown view.code.shape.now view.contexts.now) view.m.now in
    let k = call_act view.code.methods.now TICKS in
    let p = view.m.now.path in
    let e = c.args.e.now in
    let d = c.deref-in-Or.ensures in
    let l : tree_of c.in-Or.left.value ≡ tree_of c.deref-in-Or.result.now = cc in
    let is = ap (λ n. node_tree n e.at) c.in-Or.is ∙ or_node c.in-Or.left c.in-Or.right e.at ∙ ap (λ l. r.Or e.at l (tree_of c.in-Or.right.value)) l in
    let first : value k p (tree_of c.deref-in-Or.result.now) st ≡ Done (Truth false) st = subst (λ b. value k p (tree_of c.deref-in-Or.result.now) st ≡ Done (Truth b) st) c.in-Some-false-flag.field-0-test c.in-Some-false-flag.ensures in
    let d2 = c.deref-in-Some-false-flag.ensures in
    let right : tree_of c.in-Or.right.value ≡ tree_of c.deref-in-Some-false-flag.result.now = cc in
    let whole = is ∙ ap (λ r'. r.Or e.at (tree_of c.deref-in-Or.result.now) r') right in
    if_some (λ b. IsWorth view (tree_of c.deref-in-Some-false-flag.result.now) (Truth b)) (λ b. IsWorth view (tree_of e) (Truth b)) c.flag-in-Some-false-flag.result
    (λ b h. subst (λ (t : Tree). value k p t st ≡ Done (Truth b) st) (sym whole) (or_false k p e.at st (tree_of c.deref-in-Or.result.now) (tree_of c.deref-in-Some-false-flag.result.now) (Truth b) first h)) c.flag-in-Some-false-flag.ensures

pub flag_of_two-returns-in-Some-number : goal.flag_of_two-returns-in-Some-number
flag_of_two-returns-in-Some-number t c =
    let view = c.args.view.now in
    let st = state_of (shown view.code.shape.now view.contexts.now) view.m.now in
    let first = c.in-Some.ensures in
    let x = to_z-of_z w64 c.in-Some.first (search rules) in
    let y = to_z-of_z w64 c.in-Some-number.second (search rules) in
    let given : apply_row c.args.row (Number c.in-Some.first ∷ Number c.in-Some-number.second ∷ []) ≡ c.apply_ints.result = (λ i. apply_row c.args.row (Number (sym x i) ∷ Number (sym y i) ∷ [])) ∙ sym c.apply_ints.ensures in
    if_some (λ n. c.apply_ints.result ≡ Ok (Truth n)) (λ n. IsWorth view (r.Op c.args.at c.args.row (r.tree (tree_of c.args.a.now) (r.tree (tree_of c.args.b.now) r.no_trees))) (Truth n)) c.flag_in.result
    (λ n h. of_two (call_act view.code.methods.now TICKS) view.m.now.path c.args.at c.args.row st (tree_of c.args.a.now) (tree_of c.args.b.now) _ _ (Truth n) first c.in-Some-number.ensures (given ∙ h)) c.flag_in.ensures

pub flag_of_two-returns-in-Some-flag-2 : goal.flag_of_two-returns-in-Some-flag-2
flag_of_two-returns-in-Some-flag-2 t c =
    let view = c.args.view.now in
    let st = state_of (shown view.code.shape.now view.contexts.now) view.m.now in
    of_two (call_act view.code.methods.now TICKS) view.m.now.path c.args.at c.args.row st (tree_of c.args.a.now) (tree_of c.args.b.now) _ _ (Truth c.compare_flags.result) c.in-Some-flag.ensures c.in-Some-flag-2.ensures c.compare_flags.ensures

pub flag_of_one-returns-in-Some : goal.flag_of_one-returns-in-Some
flag_of_one-returns-in-Some t c =
    let view = c.args.view.now in
    let st = state_of (shown view.code.shape.now view.contexts.now) view.m.now in
    if_some (λ n. c.apply_one.result ≡ Ok (Truth n)) (λ n. IsWorth view (r.Op c.args.at c.args.row (r.tree (tree_of c.args.a.now) r.no_trees)) (Truth n)) c.flag_found.result
    (λ n h. of_one (call_act view.code.methods.now TICKS) view.m.now.path c.args.at c.args.row st (tree_of c.args.a.now) (Truth c.in-Some.b) (Truth n) c.in-Some.ensures (subst (Gives (apply_row c.args.row (Truth c.in-Some.b ∷ [])) c.args.at) h c.apply_one.ensures)) c.flag_found.ensures
