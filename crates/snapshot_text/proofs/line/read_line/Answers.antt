use Rattle.std.proofs.Common.{inr, IfSome, refl, sym, subst, ◌∙◌}
use Rattle.snapshot_text.specs.declared.error.Fault.TheVariants as fault
use Rattle.snapshot_text.specs.inner.Guesses.{IsOnlyLineOf}
use Rattle.snapshot_text.proofs.FaultLemmas.{out_of_order}
use Rattle.snapshot_text.proofs.line.read_line.Goals as goal

pub returns-in_default-clause-err : goal.returns-in_default-clause-err
returns-in_default-clause-err c = inr (c.in_ok-fault.fault, c.in_ok-fault.ensures c.args.before.now, c.error_at.ensures)

pub returns-else-comes_next-clause-err : goal.returns-else-comes_next-clause-err
returns-else-comes_next-clause-err c =
    let only = subst (λ o. IfSome o (IsOnlyLineOf c.args.classes.now c.args.line.now)) c.in-Some.is c.in_ok-shot.ensures.some in
    inr (fault.Order, out_of_order c.args.classes.now c.args.before.now c.args.line.now c.requires.names c.in-Some.shot only (sym c.comes_next.ensures ∙ c.if-comes_next.false), refl)
