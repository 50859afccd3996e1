use Rattle.std.proofs.Common.{◌∙◌, ◌+◌, ap}
use Rattle.std.specs.BTreeMap.{insert_entry}
use Rattle.std.specs.Ordering.{nat_cmp}
use Rattle.event_cells.proofs.Boxes.{InOrder, pushed, pushed_is}
use Rattle.event_cells.proofs.outbox.Outbox.send.Goals as goal

in_order : (c : goal.After-push_reserved) → InOrder c.self.inside.mails.items c.self.inside.sent
in_order c = record { rises = c.self.invariant.rises; below = c.self.invariant.below }

pub invariant_of-self : goal.invariant_of-self
invariant_of-self c =
    let more = pushed c.self.inside.mails.items c.self.inside.sent c.args.envelope (in_order c) in
    record { rises = rw c.push_reserved.ensures.items more.rises; below = rw c.push_reserved.ensures.items more.below }

pub returns-clause-mails : goal.returns-clause-mails
returns-clause-mails c =
    c.push_reserved.ensures.items ∙ pushed_is c.self.inside.mails.items c.self.inside.sent c.args.envelope (in_order c)
    ∙ ap (λ v. insert_entry nat_cmp v.mails (v.sent + 1) c.args.envelope) c.self.view_is
