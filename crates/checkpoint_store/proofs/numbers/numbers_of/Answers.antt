use Rattle.std.proofs.Common.{◌≡◌, ◌++◌, Option, Some, None, refl, sym, ap, subst, ◌∙◌, rules}
use Rattle.std.proofs.lemmas.Bool.{false≢true}
use Rattle.checkpoint_store.specs.declared.numbers.Numbers.{Numbers}
use Rattle.checkpoint_store.specs.CheckpointTexts.{numbers_text}
use Rattle.checkpoint_store.specs.Points.{AreInRange}
use Rattle.checkpoint_store.proofs.numbers.numbers_of.Goals as goal

pub returns-in_default-clause-none : goal.returns-in_default-clause-none
returns-in_default-clause-none c n h e = (let found : ◌≡◌ {A = Option Numbers} None (Some n) = c.in_default.ensures n h e in cc)

pub returns-then-not-are_in_range-clause-none : goal.returns-then-not-are_in_range-clause-none
returns-then-not-are_in_range-clause-none c n h e =
    let found : ◌≡◌ {A = Option Numbers} (Some c.in-Some.numbers) (Some n) = c.in-Some.ensures n h e in
    let same : c.in-Some.numbers ≡ n = cc in
    false≢true (c.if-not-are_in_range.ensures.1 (subst AreInRange (sym same) h))

pub returns-then-eq-clause-some : goal.returns-then-eq-clause-some
returns-then-eq-clause-some c =
    let written : c.as_slice.result.now ≡ numbers_text c.in-Some.numbers = c.as_slice.ensures.value ∙ c.in_ok-put_numbers.ensures ∙ ap (λ z. z ++ numbers_text c.in-Some.numbers) c.new-written.ensures.items in
    let same : c.as_slice.result.now ≡ c.args.line.now = search rules in
    record { spelled = sym same ∙ written; range = c.if-not-are_in_range.ensures.0 refl }

pub returns-clause-none : goal.returns-clause-none
returns-clause-none c n h e =
    let written : c.as_slice.result.now ≡ numbers_text c.in-Some.numbers = c.as_slice.ensures.value ∙ c.in_ok-put_numbers.ensures ∙ ap (λ z. z ++ numbers_text c.in-Some.numbers) c.new-written.ensures.items in
    let found : ◌≡◌ {A = Option Numbers} (Some c.in-Some.numbers) (Some n) = c.in-Some.ensures n h e in
    let number : c.in-Some.numbers ≡ n = cc in
    let differ : c.as_slice.result.now ≡ c.args.line.now → ⊥ = λ f. search rules in
    differ (written ∙ ap numbers_text number ∙ sym e)
