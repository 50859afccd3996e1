use Rattle.trap_laws.proofs.Read.{somewhere}
use Rattle.trap_laws.proofs.places.no_trap_of_a_text_stands_nowhere.Goals as goal

pub returns-clause-calls : goal.returns-clause-calls
returns-clause-calls c = λ text service read before call trap traps. somewhere text trap.at (c.traps_stand_at_tokens.ensures.calls text service read before call trap traps)

pub returns-clause-scripts : goal.returns-clause-scripts
returns-clause-scripts c = λ text service read shape start script r trap there traps.
    somewhere text trap.at (c.traps_stand_at_tokens.ensures.scripts text service read shape start script r trap there traps)
