use Rattle.std.proofs.Common.{sym, ap, ◌∙◌}
use Rattle.std.specs.Ordering.{nat_cmp}
use Rattle.std.specs.FinSet as set
use Rattle.context_queue.specs.inner.Kept.{group_of}
use Rattle.context_queue.proofs.QueueMaps.{same_keys}
use Rattle.context_queue.proofs.peeks.Peeks.reserve.Goals as goal

pub returns-in_ok-reserve-in-Many-clause-tickets : goal.returns-in_ok-reserve-in-Many-clause-tickets
returns-in_ok-reserve-in-Many-clause-tickets c =
    same_keys c.deref_mut.result.now.keys c.reserve.new.self.keys c.reserve.ensures.keys.2
    ∙ ap (λ ks. set.from_list {R = nat_cmp} ks.keys) c.deref_mut.ensures.value
    ∙ ap (λ v. v.tickets) (ap group_of (sym c.in-Many.is) ∙ c.self.view_is)
