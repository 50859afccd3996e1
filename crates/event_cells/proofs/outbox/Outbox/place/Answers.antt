use Rattle.std.proofs.Common.{rules}
use Rattle.std.proofs.lemmas.Cmp.{nat_cmp_total}
use Rattle.std.proofs.lemmas.List.Sorted.{answers_always}
use Rattle.std.proofs.lemmas.Map.Lookups.{exact_unsigned}
use Rattle.std.specs.Ordering.{nat_cmp}
use Rattle.event_cells.proofs.Sorted.{placed}
use Rattle.event_cells.proofs.outbox.Outbox.place.Goals as goal

-- the closure gives the number, and the slice is the mails
pub returns : goal.returns
returns c =
    let facts = c.binary_search_by_key.ensures in
    let by_key = facts.position (λ mail. mail.0) (answers_always _ _ _ (λ f a r g called. search rules)) in
    rw (← c.as_slice.ensures.mails) (placed nat_cmp nat_cmp_total exact_unsigned c.args.number _ _ c.as_slice.ensures.ordered facts.bound by_key)
