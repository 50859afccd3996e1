use Rattle.std.proofs.Common.{IfSome, IfNone, sym, ap, subst, ◌∙◌}
use Rattle.std.specs.List.{list_all}
use Rattle.path_text.specs.Paths.{path_of}
use Rattle.path_text.specs.Steps.{is_step}
use Rattle.snapshot_text.specs.Forms.{HasNoForm}
use Rattle.snapshot_text.specs.inner.Fronts.{HasOnlyForm}
use Rattle.snapshot_text.proofs.FaultLemmas.{no_form, no_path, other_fields}
use Rattle.snapshot_text.proofs.FormLemmas.{both_all}
use Rattle.snapshot_text.proofs.line.fault_of.Goals as goal

pub returns-in_default : goal.returns-in_default
returns-in_default c before = no_form c.args.classes.now before c.args.line.now c.requires.none (subst (λ o. IfNone o (HasNoForm c.args.line.now)) c.in_default.is c.in_ok-steps.ensures.none)

pub resolve_steps-requires-clause-form : goal.resolve_steps-requires-clause-form
resolve_steps-requires-clause-form c =
    let form = subst (λ o. IfSome o (HasOnlyForm c.args.line.now)) c.in-Some.is c.in_ok-steps.ensures.some in
    ap (list_all is_step) c.as_slice.ensures ∙ (both_all c.in-Some.steps form.form.steps_are).0

pub returns-in-Some-resolve_steps : goal.returns-in-Some-resolve_steps
returns-in-Some-resolve_steps c before =
    let form = subst (λ o. IfSome o (HasOnlyForm c.args.line.now)) c.in-Some.is c.in_ok-steps.ensures.some in
    other_fields c.args.classes.now before c.args.line.now c.in-Some.steps form c.requires.none c.in-Some-resolve_steps.field-0
    (sym (c.in-Some-resolve_steps.ensures.path ∙ ap (path_of c.args.classes.now) c.as_slice.ensures))

pub returns : goal.returns
returns c before =
    let form = subst (λ o. IfSome o (HasOnlyForm c.args.line.now)) c.in-Some.is c.in_ok-steps.ensures.some in
    no_path c.args.classes.now before c.args.line.now c.in-Some.steps form c.requires.none
    (sym (c.in-None.ensures.path ∙ ap (path_of c.args.classes.now) c.as_slice.ensures))
