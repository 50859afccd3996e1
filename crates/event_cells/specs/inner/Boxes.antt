-- What an outbox keeps: mails in ascending order, none with a number past those that were sent.
use Rattle.std.specs.Prelude.{◌-◌, ◌≤◌, length, vec_capacity}
use Rattle.std.specs.List.{AllByRecursion}
use Rattle.std.specs.List.Sorted.{IsStrictlySortedBy}
use Rattle.std.specs.Map.{keys_of}
use Rattle.std.specs.Ordering.{nat_cmp}
use Rattle.event_cells.specs.declared.outbox.Outbox.TheInside.{Inside}
use Rattle.event_cells.specs.Keeps.{Sending}

abbrev pub sending_of : Inside → Sending
sending_of a = record { sent = a.sent; mails = a.mails.items; room = vec_capacity a.mails - length a.mails.items }

pub record IsOutbox (a : Inside) : Type 0 where
  pub rises : IsStrictlySortedBy nat_cmp (keys_of a.mails.items)
  pub below : AllByRecursion (λ k. k ≤ a.sent) (keys_of a.mails.items)
