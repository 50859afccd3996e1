use Rattle.std.proofs.Common.{sym, subst}
use Rattle.std.specs.Ordering.{nat_cmp}
use Rattle.event_cells.specs.inner.Places.{IsThere, IsPlace}
use Rattle.event_cells.proofs.Boxes.{replaced}
use Rattle.event_cells.proofs.outbox.Outbox.replace.Goals as goal

pub invariant_of-self : goal.invariant_of-self
invariant_of-self c =
    let there : IsThere nat_cmp c.args.self.now.mails c.args.number c.unwrap-i.result = subst (IsPlace nat_cmp c.args.self.now.mails c.args.number) c.unwrap-i.ensures c.place.ensures in
    let at : IsThere nat_cmp c.self.inside.mails.items c.args.number c.unwrap-i.result = subst (λ v. IsThere nat_cmp v.mails c.args.number c.unwrap-i.result) (sym c.self.view_is) there in
    let more = replaced c.self.inside.mails.items c.self.inside.sent c.args.number c.unwrap-i.result c.args.envelope c.index_mut.result.now at c.index_mut.ensures.value (record { rises = c.self.invariant.rises; below = c.self.invariant.below }) in
    record { rises = more.rises; below = more.below }
