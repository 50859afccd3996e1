use Rattle.std.proofs.Common.{◌≡◌, [], ◌∷◌, Ok, subst, rules, w64, to_z, of_z}
use Rattle.std.proofs.lemmas.Int.{to_z-of_z}
use Rattle.context_tree.specs.Contexts.{tree_of as shown}
use Rattle.resolved_service.specs.Meaning.{call_act}
use Rattle.resolved_service.specs.View as r
use Rattle.resolved_service.specs.View.{tree_of}
use Rattle.service_eval.specs.inner.Answers.{Gives}
use Rattle.service_eval.specs.inner.Machines.{state_of}
use Rattle.service_eval.specs.inner.Turns.{IsWorth}
use Rattle.value_ops.specs.Operators.{apply_row}
use Rattle.wave_base.specs.declared.limits.TheConstants.{TICKS}
use Rattle.wave_base.specs.declared.value.Value.TheVariants.{Int}
use Rattle.service_eval.proofs.PlainLemmas.{of_three, if_some}
use Rattle.service_eval.proofs.texts.text_of_three.Goals as goal

pub returns-in-Some-number-2 : goal.returns-in-Some-number-2
returns-in-Some-number-2 c =
    let view = c.args.view.now in
    let st = state_of (shown view.code.shape.now view.contexts.now) view.m.now in
    let text = c.in-Some.text.now in
    let x = c.in-Some-number.from in
    let y = c.in-Some-number-2.to in
    let gives : Gives (apply_row c.args.row (text ∷ Int x ∷ Int y ∷ [])) c.args.at c.apply_three.result =
    subst (λ n. Gives (apply_row c.args.row (text ∷ Int x ∷ Int n ∷ [])) c.args.at c.apply_three.result) (to_z-of_z w64 y (search rules))
    (subst (λ n. Gives (apply_row c.args.row (text ∷ Int n ∷ Int (to_z w64 (of_z w64 y)) ∷ [])) c.args.at c.apply_three.result) (to_z-of_z w64 x (search rules)) c.apply_three.ensures) in
    if_some (λ v. c.apply_three.result ≡ Ok v) (IsWorth view (r.Op c.args.at c.args.row (r.tree (tree_of c.args.a.now) (r.tree (tree_of c.args.b.now) (r.tree (tree_of c.args.c.now) r.no_trees))))) c.given_value.result
    (λ v h. of_three (call_act view.code.methods.now TICKS) view.m.now.path c.args.at c.args.row st (tree_of c.args.a.now) (tree_of c.args.b.now) (tree_of c.args.c.now) text (Int x) (Int y) v c.in-Some.ensures c.in-Some-number.ensures c.in-Some-number-2.ensures (subst (Gives (apply_row c.args.row (text ∷ Int x ∷ Int y ∷ [])) c.args.at) h gives)) c.given_value.ensures
