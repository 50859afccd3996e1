use Rattle.std.proofs.Common.{IfNone, sym, subst, ◌∙◌}
use Rattle.snapshot_text.specs.inner.Fronts.{IsNoPair}
use Rattle.snapshot_text.proofs.PairLemmas.{no_space, pair_is, not_plain}
use Rattle.snapshot_text.proofs.pairs.key_of.Goals as goal

pub returns-in_err-value-clause-none : goal.returns-in_err-value-clause-none
returns-in_err-value-clause-none c =
    subst (λ o. IfNone o (IsNoPair c.args.text.now)) (sym c.from_residual-in_err-value.ensures)
    (no_space c.args.text.now c.in_ok-key.key.now c.in_ok-key.rest.now c.in_ok-key.ensures.some c.in_err-value.ensures.none)

pub returns-then-are_plain-clause-some : goal.returns-then-are_plain-clause-some
returns-then-are_plain-clause-some c =
    pair_is c.args.text.now c.in_ok-key.key.now c.in_ok-key.rest.now c.in_ok-value.value.now c.in_ok-key.ensures.some c.in_ok-value.ensures.some (sym c.are_plain.ensures ∙ c.if-are_plain.true)

pub returns-else-are_plain-clause-none : goal.returns-else-are_plain-clause-none
returns-else-are_plain-clause-none c =
    not_plain c.args.text.now c.in_ok-key.key.now c.in_ok-key.rest.now c.in_ok-value.value.now c.in_ok-key.ensures.some c.in_ok-value.ensures.some (sym c.are_plain.ensures ∙ c.if-are_plain.false)
