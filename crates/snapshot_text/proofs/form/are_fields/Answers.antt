use Rattle.std.proofs.Common.{◌<◌, length, IfSome, IfNone, subst, arith}
use Rattle.std.proofs.lemmas.Bool.{false≢true}
use Rattle.std.proofs.lemmas.Bool.Decides.{nat_tests}
use Rattle.snapshot_text.specs.inner.Fronts.{HasField, OnlyBehindField, HasNoField}
use Rattle.snapshot_text.proofs.FormLemmas.{fields_up, fields_down, fields_none}
use Rattle.snapshot_text.proofs.form.are_fields.Goals as goal

pub returns-in_default : goal.returns-in_default
returns-in_default c =
    let some : 0 < length c.loop-rest.rest.now = grind (arith, nat_tests) in
    let none = subst (λ o. IfNone o (HasNoField c.loop-rest.rest.now)) c.in_default.is c.in_ok-after.ensures.none in (
      λ h. absurd (false≢true h),
      λ m. absurd (fields_none c.loop-rest.rest.now some none (c.loop-rest.invariant.down m)),
    )

pub loop-rest-preserved : goal.loop-rest-preserved
loop-rest-preserved c =
    let some : 0 < length c.loop-rest.rest.now = grind (arith, nat_tests) in
    let has = subst (λ o. IfSome o (λ x. HasField c.loop-rest.rest.now x.now)) c.in-Some.is c.in_ok-after.ensures.some in
    let only = subst (λ o. IfSome o (λ x. OnlyBehindField c.loop-rest.rest.now x.now)) c.in-Some.is c.in_ok-after.ensures.only in
    record {
      up = λ m. c.loop-rest.invariant.up (fields_up c.loop-rest.rest.now c.in-Some.after.now has m);
      down = λ m. fields_down c.loop-rest.rest.now c.in-Some.after.now some only (c.loop-rest.invariant.down m);
    }
