use Rattle.std.proofs.Common.{ap, ◌∙◌}
use Rattle.std.specs.Ordering.{nat_cmp}
use Rattle.std.specs.FinSet as set
use Rattle.context_queue.proofs.QueueMaps.{joined, same_keys}
use Rattle.context_queue.proofs.peeks.tickets_of.Goals as goal

pub returns-clause-one : goal.returns-clause-one
returns-clause-one c =
    let t = c.args.own in
    ap (λ ks. set.from_list {R = nat_cmp} ks.keys) c.in_ok-new.ensures.ok
    ∙ same_keys c.insert.new.self.keys c.reserve.new.self.keys c.reserve.ensures.keys.2
    ∙ joined c.new-tickets.result.keys c.insert.new.self.keys t c.in_ok-insert.ensures.updates.0
    ∙ ap (λ ks. set.insert (set.from_list {R = nat_cmp} ks) t) c.new-tickets.ensures.empty
