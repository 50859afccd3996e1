use Rattle.std.proofs.Common.{IfSome, IfNone, subst}
use Rattle.snapshot_text.specs.inner.Guesses.{IsSeen, IsUnseen}
use Rattle.snapshot_text.proofs.FieldLemmas.{value_read, value_missed, all_read}
use Rattle.snapshot_text.proofs.shot.values_of.Goals as goal

pub returns-in_default-clause-only : goal.returns-in_default-clause-only
returns-in_default-clause-only c =
    let unseen = subst (λ o. IfNone o (IsUnseen c.field-item.result.kind c.parts_at.result.1.now)) c.in_default.is c.in_ok-value.ensures.none in
    value_missed c.args.fields.now c.requires c.args.text.now c.loop-field.field-index c.loop-field.values c.loop-field.rest.now c.loop-field.invariant
    c.field-item.result c.loop-field-test.true c.field-item.is c.parts_at.result.0.now c.parts_at.result.1.now c.parts_at.ensures.parts unseen

pub loop-field-preserved : goal.loop-field-preserved
loop-field-preserved c =
    let seen = subst (λ o. IfSome o (λ x. IsSeen c.field-item.result.kind c.parts_at.result.1.now x.0 x.1.now)) c.in-Some.is c.in_ok-value.ensures.some in
    value_read c.args.fields.now c.requires c.args.text.now c.loop-field.field-index c.loop-field.values c.loop-field.rest.now c.loop-field.invariant
    c.field-item.result c.loop-field-test.true c.field-item.is c.parts_at.result.0.now c.parts_at.result.1.now c.parts_at.ensures.parts c.add.new.self c.in-Some.value c.in-Some.after.now c.in_ok-add.ensures.ok seen

pub returns-clause-only : goal.returns-clause-only
returns-clause-only c = all_read c.args.fields.now c.args.text.now c.loop-field.field-index c.loop-field.values c.loop-field.rest.now c.loop-field-test.false c.loop-field.invariant
