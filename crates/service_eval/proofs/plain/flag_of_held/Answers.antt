use Rattle.std.proofs.Common.{◌≡◌, [], ◌∷◌, Ok, sym, ◌∙◌, rules, w64}
use Rattle.std.proofs.lemmas.Int.{to_z-of_z}
use Rattle.context_tree.specs.Contexts.{tree_of as shown}
use Rattle.resolved_service.specs.Meaning.{call_act}
use Rattle.resolved_service.specs.View as r
use Rattle.resolved_service.specs.View.{tree_of}
use Rattle.service_eval.specs.inner.Machines.{state_of}
use Rattle.service_eval.specs.inner.Turns.{IsWorth}
use Rattle.value_ops.specs.Operators.{apply_row}
use Rattle.wave_base.specs.declared.limits.TheConstants.{TICKS}
use Rattle.wave_base.specs.declared.value.Value.TheVariants.{Bool, Int as Number, Map}
use Rattle.service_eval.proofs.PlainLemmas.{of_two, if_some}
use Rattle.service_eval.proofs.plain.flag_of_held.Goals as goal

pub returns-in-Some : goal.returns-in-Some
returns-in-Some c =
    let view = c.args.view.now in
    let st = state_of (shown view.code.shape.now view.contexts.now) view.m.now in
    let first = rw c.in-Some-Map.field-0-is at c.in-Some-Map.ensures in
    let y = to_z-of_z w64 c.in-Some.key (search rules) in
    let given : apply_row c.args.row (Map c.in-Some-Map.map ∷ Number c.in-Some.key ∷ []) ≡ c.read_map.result = (λ i. apply_row c.args.row (Map c.in-Some-Map.map ∷ Number (sym y i) ∷ [])) ∙ sym c.read_map.ensures in
    if_some (λ n. c.read_map.result ≡ Ok (Bool n)) (λ n. IsWorth view (r.Op c.args.at c.args.row (r.tree (tree_of c.args.a.now) (r.tree (tree_of c.args.b.now) r.no_trees))) (Bool n)) c.flag_in.result
    (λ n h. of_two (call_act view.code.methods.now TICKS) view.m.now.path c.args.at c.args.row st (tree_of c.args.a.now) (tree_of c.args.b.now) _ _ (Bool n) first c.in-Some.ensures (given ∙ h)) c.flag_in.ensures

pub returns-in-Some-Str-held_value : goal.returns-in-Some-Str-held_value
returns-in-Some-Str-held_value c =
    let view = c.args.view.now in
    let st = state_of (shown view.code.shape.now view.contexts.now) view.m.now in
    let first = rw c.in-Some-Str.field-0-is at c.in-Some-Str.ensures in
    let second = rw c.in-Some-Str-held_value.field-0-is at c.in-Some-Str-held_value.ensures in
    of_two (call_act view.code.methods.now TICKS) view.m.now.path c.args.at c.args.row st (tree_of c.args.a.now) (tree_of c.args.b.now) _ _ (Bool c.compare_texts.result) first second c.compare_texts.ensures
