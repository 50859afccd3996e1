use Rattle.context_queue.proofs.Holding.{stands}
use Rattle.context_queue.proofs.laws.entries_stand.Goals as goal

pub returns : goal.returns
returns c = stands
