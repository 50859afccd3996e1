use Rattle.std.proofs.Common.{IfSome, IfNone, sym, ap, subst, ◌∙◌}
use Rattle.std.proofs.lemmas.Bool.{false≢true}
use Rattle.std.specs.List.{list_all}
use Rattle.path_text.specs.Steps.{HasSteps, HasOnlySteps, HasNoSteps}
use Rattle.snapshot_text.specs.Forms.{is_plain_key}
use Rattle.snapshot_text.proofs.FormLemmas.{no_steps, not_plain, not_fields, form_is}
use Rattle.snapshot_text.proofs.form.form_of.Goals as goal

pub returns-in_default-2-clause-none : goal.returns-in_default-2-clause-none
returns-in_default-2-clause-none c =
    no_steps c.args.line.now c.in-Some.rest.now c.run_of.result.0.now c.run_of.result.1.now c.in-Some.ensures.some c.run_of.ensures
    (subst (λ o. IfNone o (HasNoSteps c.run_of.result.0.now)) c.in_default-2.is c.in_ok-steps.ensures.none)

pub returns-then-not-are_plain-clause-none : goal.returns-then-not-are_plain-clause-none
returns-then-not-are_plain-clause-none c =
    not_plain c.args.line.now c.in-Some.rest.now c.run_of.result.0.now c.run_of.result.1.now c.in-Some.ensures.some c.run_of.ensures c.in-Some-2.steps
    (subst (λ o. IfSome o (HasOnlySteps c.run_of.result.0.now)) c.in-Some-2.is c.in_ok-steps.ensures.only)
    (λ h. false≢true (c.if-not-are_plain.ensures ∙ ap (list_all is_plain_key) c.as_slice.ensures ∙ h))

pub returns-then-has_fields-clause-some : goal.returns-then-has_fields-clause-some
returns-then-has_fields-clause-some c =
    form_is c.args.line.now c.in-Some.rest.now c.run_of.result.0.now c.run_of.result.1.now c.in-Some.ensures.some c.run_of.ensures c.in-Some-2.steps
    (subst (λ o. IfSome o (HasSteps c.run_of.result.0.now)) c.in-Some-2.is c.in_ok-steps.ensures.some)
    (subst (λ o. IfSome o (HasOnlySteps c.run_of.result.0.now)) c.in-Some-2.is c.in_ok-steps.ensures.only)
    (sym (c.if-not-are_plain.ensures ∙ ap (list_all is_plain_key) c.as_slice.ensures)) (c.in_ok-has_fields.ensures.0 c.if-has_fields.true)

pub returns-else-has_fields-clause-none : goal.returns-else-has_fields-clause-none
returns-else-has_fields-clause-none c =
    not_fields c.args.line.now c.in-Some.rest.now c.run_of.result.0.now c.run_of.result.1.now c.in-Some.ensures.some c.run_of.ensures
    (λ m. false≢true (sym c.if-has_fields.false ∙ c.in_ok-has_fields.ensures.1 m))
