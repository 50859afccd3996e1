use Rattle.std.proofs.Common.{refl}
use Rattle.context_queue.proofs.Holding.{queued}
use Rattle.context_queue.proofs.entry.Entry.queue.Goals as goal

pub returns-clause-entry : goal.returns-clause-entry
returns-clause-entry c = λ en h. queued c.args.self.now _ en h c.args.number (record { ticket = c.args.ticket; peek = c.args.peek }) refl refl refl refl c.join.ensures.claims refl
