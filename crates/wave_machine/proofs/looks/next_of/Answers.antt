use Rattle.std.proofs.Common.{ap}
use Rattle.std.specs.Prelude.{option_map}
use Rattle.context_queue.specs.Entries.{entry_of}
use Rattle.wave_states.specs.States.{Claim}
use Rattle.wave_machine.proofs.looks.next_of.Goals as goal

pub returns-in-Some : goal.returns-in-Some
returns-in-Some c = ap (option_map (λ (x : Claim). x.ticket)) (c.in-Some.ensures.claim (entry_of c.args.entry.now) (c.entries_stand.ensures c.args.entry.now))

pub returns-in-None : goal.returns-in-None
returns-in-None c = ap (option_map (λ (x : Claim). x.ticket)) (c.in-None.ensures.claim (entry_of c.args.entry.now) (c.entries_stand.ensures c.args.entry.now))
