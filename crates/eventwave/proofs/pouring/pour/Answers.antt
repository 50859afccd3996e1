use Rattle.std.proofs.Common.{◌∙◌, Err, ap, sym, subst}
use Rattle.eventwave.specs.inner.Parts.{Gave}
use Rattle.eventwave.specs.inner.Pouring.{rest_of}
use Rattle.eventwave.proofs.GivingLemmas.{broken_gave, broken_write}
use Rattle.eventwave.proofs.pouring.pour.Goals as goal

pub returns-in-Err-clause-gave : goal.returns-in-Err-clause-gave
returns-in-Err-clause-gave g c =
    let a = rest_of c.args.telling c.args.plan.now.program.shape c.args.start.now.next.0 c.args.made.now in
    subst (Gave a _ _) (sym c.broken_off.ensures) (broken_gave _ _ a c.in-Err.error c.in-Err.ensures.err)

pub returns-in-Err-clause-fault : goal.returns-in-Err-clause-fault
returns-in-Err-clause-fault g c = λ fault. c.in-Err.ensures.fault (ap Err (broken_write c.in-Err.error (sym c.broken_off.ensures ∙ fault)))
