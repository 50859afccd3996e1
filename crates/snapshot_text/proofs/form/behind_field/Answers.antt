use Rattle.std.proofs.Common.{◌≡◌, true, sym, ◌∙◌}
use Rattle.std.proofs.lemmas.Bool.{false≢true}
use Rattle.wave_base.specs.Names.{is_word}
use Rattle.snapshot_text.specs.inner.Fronts.{HasLiteral, OnlyBehindLiteral, HasNoLiteral, HasField, OnlyBehindField, HasNoField}
use Rattle.snapshot_text.proofs.FormLemmas.{lift_some, lift_none, field_is, field_only, field_none, no_word}
use Rattle.snapshot_text.proofs.form.behind_field.Goals as goal

pub returns-then-is_word-clause-some : goal.returns-then-is_word-clause-some
returns-then-is_word-clause-some c =
    let word : is_word c.in-Some-split_at.name.now ≡ true = sym c.is_word.ensures ∙ c.if-is_word.true in
    lift_some c.behind_literal.result (λ x. HasLiteral c.in-Some-split_at.value.now x.now) (λ x. HasField c.args.text.now x.now) c.behind_literal.ensures.some
    (λ x h. field_is c.args.text.now c.in-Some.rest.now c.in-Some.ensures.some c.in-Some-split_at.name.now c.in-Some-split_at.value.now c.in-Some-split_at.ensures.some word x.now h)

pub returns-then-is_word-clause-only : goal.returns-then-is_word-clause-only
returns-then-is_word-clause-only c =
    lift_some c.behind_literal.result (λ x. OnlyBehindLiteral c.in-Some-split_at.value.now x.now) (λ x. OnlyBehindField c.args.text.now x.now) c.behind_literal.ensures.only
    (λ x h. field_only c.args.text.now c.in-Some.rest.now c.in-Some.ensures.some c.in-Some-split_at.name.now c.in-Some-split_at.value.now c.in-Some-split_at.ensures.some x.now h)

pub returns-then-is_word-clause-none : goal.returns-then-is_word-clause-none
returns-then-is_word-clause-none c =
    lift_none c.behind_literal.result (HasNoLiteral c.in-Some-split_at.value.now) (HasNoField c.args.text.now) c.behind_literal.ensures.none
    (field_none c.args.text.now c.in-Some.rest.now c.in-Some.ensures.some c.in-Some-split_at.name.now c.in-Some-split_at.value.now c.in-Some-split_at.ensures.some)

pub returns-else-is_word-clause-none : goal.returns-else-is_word-clause-none
returns-else-is_word-clause-none c left h ends =
    no_word c.args.text.now c.in-Some.rest.now c.in-Some.ensures.some c.in-Some-split_at.name.now c.in-Some-split_at.value.now c.in-Some-split_at.ensures.some
    (λ w. false≢true (sym (sym c.is_word.ensures ∙ c.if-is_word.false) ∙ w)) left h ends
