use Rattle.std.proofs.Common.{◌≡◌, [], ◌∷◌, Ok, subst}
use Rattle.context_tree.specs.Contexts.{tree_of as shown}
use Rattle.resolved_service.specs.Meaning.{call_act}
use Rattle.resolved_service.specs.View as r
use Rattle.resolved_service.specs.View.{tree_of}
use Rattle.service_eval.specs.inner.Machines.{state_of}
use Rattle.service_eval.specs.inner.Turns.{IsWorth}
use Rattle.value_ops.specs.Answers.{Answers}
use Rattle.value_ops.specs.Operators.{apply_row}
use Rattle.wave_base.specs.declared.limits.TheConstants.{TICKS}
use Rattle.wave_base.specs.declared.value.Value.TheVariants.{Str}
use Rattle.service_eval.proofs.PlainLemmas.{of_two, if_some}
use Rattle.service_eval.proofs.texts.text_of_two.Goals as goal

pub returns-in-Some-Str-held_value : goal.returns-in-Some-Str-held_value
returns-in-Some-Str-held_value c =
    let view = c.args.view.now in
    let st = state_of (shown view.code.shape.now view.contexts.now) view.m.now in
    let first = rw c.in-Some-Str.field-0-is at c.in-Some-Str.ensures in
    let second = rw c.in-Some-Str-held_value.field-0-is at c.in-Some-Str-held_value.ensures in
    let texts = Str c.in-Some-Str.first ∷ Str c.in-Some-Str-held_value.second ∷ [] in
    if_some (λ v. c.apply_texts.result ≡ Ok v) (IsWorth view (r.Op c.args.at c.args.row (r.tree (tree_of c.args.a.now) (r.tree (tree_of c.args.b.now) r.no_trees)))) c.answered_value.result
    (λ v h. of_two (call_act view.code.methods.now TICKS) view.m.now.path c.args.at c.args.row st (tree_of c.args.a.now) (tree_of c.args.b.now) _ _ v first second (subst (Answers (apply_row c.args.row texts)) h c.apply_texts.ensures)) c.answered_value.ensures
