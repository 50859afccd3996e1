use Rattle.std.proofs.Common.{[], ◌∷◌, ◌++◌, List, refl, sym, ap, ◌∙◌}
use Rattle.wave_base.specs.declared.value.Value.{Value}
use Rattle.wave_states.specs.States as theory
use Rattle.context_queue.specs.Entries.{StandsFor, claim_of}
use Rattle.context_queue.proofs.Holding.{Holds, holds, got_in, next_got_in, got_in_beside, got_in_alone}
use Rattle.context_queue.proofs.entry.Entry.grant.Goals as goal
use Rattle.context_queue.proofs.entry.Entry.grant.Goals.{then-claim, else-claim}

joined : (c : goal.After-result-1) (en : theory.Entry (List Value)) → StandsFor c.args.self.now en → Holds c.if-claim.self.1.1.0 c.if-claim.self.1.1.1.0.tickets (en.holders ++ claim_of c.in_ok-claim.claim ∷ [])
joined c en h =
    let now = c.args.self.now in
    elim c.if-claim.branch [
      | then-claim w ↦ got_in_beside now.holder now.peeks.tickets en.holders c.in_ok-claim.claim w.if-claim.true (holds now en h) c.if-claim.self.1.1.0 c.if-claim.self.1.1.1.0.tickets
          (ap (λ v. v.1.1.0) w.self-is) (ap (λ v. v.1.1.1.0.tickets) w.self-is ∙ w.join.ensures.tickets)
      | else-claim w ↦ got_in_alone now.holder now.peeks.tickets en.holders c.in_ok-claim.claim w.if-claim.false c.in_ok-claim.ensures.admitted (holds now en h) c.if-claim.self.1.1.0 c.if-claim.self.1.1.1.0.tickets
          (ap (λ v. v.1.1.0) w.self-is) (ap (λ v. v.1.1.1.0.tickets) w.self-is)
    ]

pub returns-clause-entry : goal.returns-clause-entry
returns-clause-entry c = λ en h.
    next_got_in c.args.self.now _ en h c.in_ok-claim.claim (sym (c.in_ok-claim.ensures.claim en h)) (got_in c.args.self.now _ en h c.in_ok-claim.claim refl refl c.leave.ensures.claims refl (joined c en h))
