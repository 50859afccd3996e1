use Rattle.std.proofs.Common.{sym, ap, ◌∙◌}
use Rattle.std.specs.Ordering.{nat_cmp}
use Rattle.std.specs.FinSet as set
use Rattle.context_queue.specs.inner.Kept.{group_of}
use Rattle.context_queue.proofs.QueueMaps.{is_other, is_own, left, nobody_leaves, one_leaves, other_leaves}
use Rattle.context_queue.proofs.peeks.Peeks.leave.Goals.{in-Many-1, in-Nobody-1}
use Rattle.context_queue.proofs.peeks.Peeks.leave.Goals as goal

pub returns-in-Nobody-clause-tickets : goal.returns-in-Nobody-clause-tickets
returns-in-Nobody-clause-tickets c =
    ap (λ o. (group_of o).tickets) c.in-Nobody.is ∙ nobody_leaves c.args.ticket.0 ∙ ap (λ v. set.remove v.tickets c.args.ticket.0) (ap group_of (sym c.in-Nobody.is) ∙ c.self.view_is)

pub returns-then-ticket-own-clause-tickets : goal.returns-then-ticket-own-clause-tickets
returns-then-ticket-own-clause-tickets c =
    let t = c.args.ticket.0 in
    let gone = one_leaves t c.in-One.own (is_own t c.in-One.own c.if-ticket-own.true) ∙ ap (λ v. set.remove v.tickets t) (ap group_of (sym c.in-One.is) ∙ c.self.view_is) in
    elim c.match-self-2.branch [
      | in-Many-1 w ↦ ap (λ v. v.tickets) w.self-is ∙ gone
      | in-Nobody-1 w ↦ ap (λ v. v.tickets) w.self-is ∙ gone
    ]

pub returns-else-ticket-own-clause-tickets : goal.returns-else-ticket-own-clause-tickets
returns-else-ticket-own-clause-tickets c =
    let t = c.args.ticket.0 in
    other_leaves t c.in-One.own (is_other t c.in-One.own c.if-ticket-own.false) ∙ ap (λ v. set.remove v.tickets t) (ap group_of (sym c.in-One.is) ∙ c.self.view_is)

pub returns-in-Many-clause-tickets : goal.returns-in-Many-clause-tickets
returns-in-Many-clause-tickets c =
    let t = c.args.ticket.0 in
    left c.deref_mut.result.now.keys c.remove.new.self.keys t c.remove.ensures.updates.0
    ∙ ap (λ ks. set.remove {R = nat_cmp} (set.from_list ks.keys) t) c.deref_mut.ensures.value
    ∙ ap (λ v. set.remove v.tickets t) (ap group_of (sym c.in-Many.is) ∙ c.self.view_is)
