use Rattle.std.proofs.Common.{◌≡◌, ◌∙◌, Err, ap, refl, subst, sym}
use Rattle.due_parts.specs.declared.answer.Answer.{Answer}
use Rattle.eventwave.specs.declared.ending.Ending.TheVariants.{Answered}
use Rattle.eventwave.specs.inner.Parts.{SomeGave, broken_off}
use Rattle.eventwave.specs.inner.Stages.{listing_of}
use Rattle.eventwave.proofs.GivingLemmas.{broken_gave, broken_write, gives_it}
use Rattle.eventwave.proofs.staged.stage_together.Goals as goal

pub returns-in-Ok-clause-gave : goal.returns-in-Ok-clause-gave
returns-in-Ok-clause-gave g c =
    let whole = listing_of c.args.work c.args.places in
    gives_it _ _ (λ (a : Answer). a ≡ whole) whole (Answered c.in-Ok.status c.new.result) refl (c.in-Ok.ensures.status, c.new.ensures, c.in-Ok.ensures.lines)

pub returns-in-Err-clause-gave : goal.returns-in-Err-clause-gave
returns-in-Err-clause-gave g c =
    let whole = listing_of c.args.work c.args.places in
    subst (SomeGave (λ (a : Answer). a ≡ whole) _ _) (sym c.broken_off.ensures)
    (gives_it _ _ (λ (a : Answer). a ≡ whole) whole (broken_off c.in-Err.error) refl (broken_gave _ _ whole c.in-Err.error c.in-Err.ensures.front))

pub returns-in-Err-clause-fault : goal.returns-in-Err-clause-fault
returns-in-Err-clause-fault g c = λ fault. c.in-Err.ensures.fault (ap Err (broken_write c.in-Err.error (sym c.broken_off.ensures ∙ fault)))
