use Rattle.std.proofs.Common.{ap}
use Rattle.context_queue.specs.Entries.{entry_of}
use Rattle.wave_machine.specs.inner.Asking.{is_claim}
use Rattle.wave_machine.proofs.asking.gets_in.Goals as goal

pub returns-in-Some : goal.returns-in-Some
returns-in-Some c = ap (is_claim c.args.ticket.0) (c.in-Some.ensures.claim (entry_of c.args.entry.now) (c.entries_stand.ensures c.args.entry.now))

pub returns-in-None : goal.returns-in-None
returns-in-None c = ap (is_claim c.args.ticket.0) (c.in-None.ensures.claim (entry_of c.args.entry.now) (c.entries_stand.ensures c.args.entry.now))
