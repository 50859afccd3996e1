use Rattle.std.proofs.Common.{◌≤◌, sym, ap, subst, ◌∙◌}
use Rattle.std.specs.Ordering.{nat_cmp}
use Rattle.std.specs.FinSet as set
use Rattle.std.specs.HashSet.{spare}
use Rattle.context_queue.specs.inner.Kept.{group_of}
use Rattle.context_queue.proofs.QueueMaps.{joined, of_ok}
use Rattle.context_queue.proofs.peeks.Peeks.join.Goals as goal

pub returns-in-Many-clause-tickets : goal.returns-in-Many-clause-tickets
returns-in-Many-clause-tickets c =
    let view = ap group_of (sym c.in-Many.is) ∙ c.self.view_is in
    let room : 1 ≤ spare c.deref_mut.result.now = subst (λ s. 1 ≤ spare s) (sym c.deref_mut.ensures.value) (subst (λ v. 1 ≤ v.room) (sym view) c.requires) in
    let h = of_ok c.insert.result (c.insert.ensures.succeeds room) c.insert.ensures.updates in
    joined c.deref_mut.result.now.keys c.insert.new.self.keys c.args.ticket.0 h.0
    ∙ ap (λ ks. set.insert {R = nat_cmp} (set.from_list ks.keys) c.args.ticket.0) c.deref_mut.ensures.value
    ∙ ap (λ v. set.insert v.tickets c.args.ticket.0) view
