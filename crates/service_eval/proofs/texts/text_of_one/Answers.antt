use Rattle.std.proofs.Common.{◌≡◌, [], ◌∷◌, Ok, subst, rules, w64}
use Rattle.std.proofs.lemmas.Int.{to_z-of_z}
use Rattle.context_tree.specs.Contexts.{tree_of as shown}
use Rattle.resolved_service.specs.Meaning.{call_act}
use Rattle.resolved_service.specs.View as r
use Rattle.resolved_service.specs.View.{tree_of}
use Rattle.service_eval.specs.inner.Answers.{Gives}
use Rattle.service_eval.specs.inner.Machines.{state_of}
use Rattle.service_eval.specs.inner.Turns.{IsWorth}
use Rattle.value_ops.specs.Operators.{apply_row}
use Rattle.wave_base.specs.declared.limits.TheConstants.{TICKS}
use Rattle.wave_base.specs.declared.value.Value.TheVariants.{Int}
use Rattle.service_eval.proofs.PlainLemmas.{of_one, if_some}
use Rattle.service_eval.proofs.texts.text_of_one.Goals as goal

pub returns-in-Some : goal.returns-in-Some
returns-in-Some c =
    let view = c.args.view.now in
    let st = state_of (shown view.code.shape.now view.contexts.now) view.m.now in
    let n = c.in-Some.n in
    let gives : Gives (apply_row c.args.row (Int n ∷ [])) c.args.at c.apply_one.result =
    subst (λ n. Gives (apply_row c.args.row (Int n ∷ [])) c.args.at c.apply_one.result) (to_z-of_z w64 n (search rules)) c.apply_one.ensures in
    if_some (λ v. c.apply_one.result ≡ Ok v) (IsWorth view (r.Op c.args.at c.args.row (r.tree (tree_of c.args.a.now) r.no_trees))) c.given_value.result
    (λ v h. of_one (call_act view.code.methods.now TICKS) view.m.now.path c.args.at c.args.row st (tree_of c.args.a.now) (Int n) v c.in-Some.ensures (subst (Gives (apply_row c.args.row (Int n ∷ [])) c.args.at) h gives)) c.given_value.ensures
