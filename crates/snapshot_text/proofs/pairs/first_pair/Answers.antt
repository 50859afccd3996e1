use Rattle.std.proofs.Common.{IfNone, sym, subst}
use Rattle.snapshot_text.specs.inner.Fronts.{IsNoFirstPair}
use Rattle.snapshot_text.proofs.PairLemmas.{first_no_pair, first_no_space}
use Rattle.snapshot_text.proofs.pairs.first_pair.Goals as goal

pub returns-in_err-key-clause-none : goal.returns-in_err-key-clause-none
returns-in_err-key-clause-none c =
    subst (λ o. IfNone o (IsNoFirstPair c.args.text.now)) (sym c.from_residual-in_err-key.ensures)
    (first_no_pair c.args.text.now c.in_ok-pair.pair.now c.in_ok-pair.rest.now c.in_ok-pair.ensures.some c.in_err-key.ensures.none)

pub returns-in_err-more-clause-none : goal.returns-in_err-more-clause-none
returns-in_err-more-clause-none c =
    subst (λ o. IfNone o (IsNoFirstPair c.args.text.now)) (sym c.from_residual-in_err-more.ensures)
    (first_no_space c.args.text.now c.in_ok-pair.pair.now c.in_ok-pair.rest.now c.in_ok-pair.ensures.some c.in_err-more.ensures.none)
