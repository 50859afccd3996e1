use Rattle.std.proofs.Common.{◌+◌, IsNone, sym, rules}
use Rattle.head_tickets.specs.Heads.{next_ticket}
use Rattle.head_tickets.proofs.TicketLists.{none_waits}
use Rattle.script_fold.proofs.HeadLemmas.{ready_begun, over_when, none_later}
use Rattle.script_fold.proofs.tickets.is_left.Goals as goal

pub returns-clause-left : goal.returns-clause-left
returns-clause-left c =
    λ first done w s more.
    let none : IsNone (next_ticket c.args.head.now) = search rules in
    ready_begun first done w c.args.head.now c.batch_done.new.self s (none_waits (λ _. record { 0 = c.args.head.now.first + c.args.head.now.admitted }) c.args.head.now.waiting none) (c.batch_done.ensures.left.0 more)
    (c.batch_done.ensures.fold done (sym s.admitted)) c.batch_done.ensures.first c.batch_done.ensures.counts.0 c.batch_done.ensures.counts.1

pub returns-clause-over : goal.returns-clause-over
returns-clause-over c =
    λ first done w s less.
    let none : IsNone (next_ticket c.args.head.now) = search rules in
    over_when first done w c.args.head.now s (none_waits (λ _. record { 0 = c.args.head.now.first + c.args.head.now.admitted }) c.args.head.now.waiting none)
    (none_later c.batch_done.result c.args.head.now.later c.batch_done.ensures.left less)
