use Rattle.std.proofs.Common.{Option, Some, None, option_map, refl}
use Rattle.std.specs.FinMap as table
use Rattle.context_queue.specs.declared.entry.Entry.{Entry}
use Rattle.context_queue.specs.Entries.{entry_of}
use Rattle.context_queue.proofs.Holding.{stands}
use Rattle.host_map.specs.Stores.{Matches}
use Rattle.host_map.proofs.laws.stores_stand.Goals as goal

matches : (o : Option Entry) → Matches o (option_map entry_of o)
matches None = tt
matches (Some e) = stands e

pub returns : goal.returns
returns c = λ s p host. record { entry = matches (table.get s.store p); mark = refl }
