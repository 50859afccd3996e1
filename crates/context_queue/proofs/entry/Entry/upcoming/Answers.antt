use Rattle.std.proofs.Common.{sym, ap, ◌∙◌, Some}
use Rattle.wave_states.specs.Steps.{only_if}
use Rattle.context_queue.specs.Entries.{claim_of}
use Rattle.context_queue.proofs.Holding.{next_is}
use Rattle.context_queue.proofs.entry.Entry.upcoming.Goals as goal

pub returns-then-admits-clause-claim : goal.returns-then-admits-clause-claim
returns-then-admits-clause-claim c = λ en h.
    sym (next_is c.args.self.now en (Some c.in_ok-claim.claim) h (sym c.after.ensures.claim ∙ c.in_ok-claim.was)
    ∙ ap (λ b. only_if b (claim_of c.in_ok-claim.claim)) (sym c.admits.ensures ∙ c.if-admits.true))

pub returns-else-admits-clause-claim : goal.returns-else-admits-clause-claim
returns-else-admits-clause-claim c = λ en h.
    sym (next_is c.args.self.now en (Some c.in_ok-claim.claim) h (sym c.after.ensures.claim ∙ c.in_ok-claim.was)
    ∙ ap (λ b. only_if b (claim_of c.in_ok-claim.claim)) (sym c.admits.ensures ∙ c.if-admits.false))
