use Rattle.std.proofs.Common.{refl, []}
use Rattle.context_queue.proofs.Holding.{held, nobody_holds}
use Rattle.context_queue.proofs.entry.Entry.free_all.Goals as goal

pub returns-clause-entry : goal.returns-clause-entry
returns-clause-entry c = λ en h. held c.args.self.now _ en h [] refl refl refl refl (nobody_holds c.clear.new.self.tickets c.clear.ensures.tickets)
