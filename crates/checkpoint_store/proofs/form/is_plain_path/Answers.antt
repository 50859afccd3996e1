use Rattle.std.proofs.Common.{IfSome, IfNone, ap, subst, ◌∙◌}
use Rattle.std.specs.List.{list_all}
use Rattle.path_text.specs.Steps.{HasSteps, HasOnlySteps, HasNoSteps}
use Rattle.snapshot_text.specs.Forms.{is_plain_key}
use Rattle.checkpoint_store.proofs.FormLemmas.{no_path_is, path_is_plain}
use Rattle.checkpoint_store.proofs.form.is_plain_path.Goals as goal

pub returns-in_default : goal.returns-in_default
returns-in_default c = no_path_is c.args.text.now (subst (λ o. IfNone o (HasNoSteps c.args.text.now)) c.in_default.is c.in_ok-steps.ensures.none)

pub returns : goal.returns
returns c =
    path_is_plain c.args.text.now c.in-Some.steps c.are_plain.result (subst (λ o. IfSome o (HasSteps c.args.text.now)) c.in-Some.is c.in_ok-steps.ensures.some) (subst (λ o. IfSome o (HasOnlySteps c.args.text.now)) c.in-Some.is c.in_ok-steps.ensures.only)
    (c.are_plain.ensures ∙ ap (list_all is_plain_key) c.as_slice.ensures)
