use Rattle.std.proofs.Common.{[], sym, ap, ◌∙◌}
use Rattle.std.specs.Ordering.{nat_cmp}
use Rattle.std.specs.FinSet as set
use Rattle.context_queue.specs.inner.Kept.{group_of}
use Rattle.context_queue.proofs.QueueMaps.{contains_is_any, one_has}
use Rattle.context_queue.proofs.peeks.Peeks.contains.Goals as goal

pub returns-in-Nobody : goal.returns-in-Nobody
returns-in-Nobody c = sym (contains_is_any c.args.ticket.0 []) ∙ ap (λ v. set.contains v.tickets c.args.ticket.0) (ap group_of (sym c.in-Nobody.is) ∙ c.self.view_is)

pub returns-in-One : goal.returns-in-One
returns-in-One c = one_has c.args.ticket.0 c.in-One.own ∙ ap (λ v. set.contains v.tickets c.args.ticket.0) (ap group_of (sym c.in-One.is) ∙ c.self.view_is)

pub returns-in-Many : goal.returns-in-Many
returns-in-Many c =
    let t = c.args.ticket.0 in
    c.contains.ensures
    ∙ sym (contains_is_any t c.deref.result.now.keys)
    ∙ ap (λ ks. set.contains {R = nat_cmp} (set.from_list ks.keys) t) c.deref.ensures
    ∙ ap (λ v. set.contains v.tickets t) (ap group_of (sym c.in-Many.is) ∙ c.self.view_is)
