use Rattle.std.proofs.Common.{IfNone, sym, subst}
use Rattle.path_text.specs.inner.Fronts.{HasNoFront}
use Rattle.path_text.proofs.FrontLemmas.{no_close}
use Rattle.path_text.proofs.written.parts_of.Goals as goal

pub returns-in_err-key-clause-none : goal.returns-in_err-key-clause-none
returns-in_err-key-clause-none c =
    subst (λ o. IfNone o (HasNoFront c.args.text.now)) (sym c.from_residual-in_err-key.ensures)
    (no_close c.args.text.now c.in_ok-rest.rest.now c.in_ok-name.name.now c.in_ok-name.rest.now c.in_ok-rest.ensures.some c.in_ok-name.ensures.some c.in_err-key.ensures.none)
