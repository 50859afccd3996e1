use Rattle.trap_laws.specs.Places.{BeginsToken}
use Rattle.trap_laws.proofs.Read.{at_tokens}
use Rattle.trap_laws.proofs.Told.{of_scripts}
use Rattle.trap_laws.proofs.places.traps_stand_at_tokens.Goals as goal

pub returns-clause-calls : goal.returns-clause-calls
returns-clause-calls c = λ text service read before call trap traps. at_tokens text service read call.event trap (c.traps_stand_in_the_text.ensures service before call trap traps)

pub returns-clause-scripts : goal.returns-clause-scripts
returns-clause-scripts c = λ text service read shape start script r trap there traps.
    of_scripts service (BeginsToken text)
    (λ before call trap traps. at_tokens text service read call.event trap (c.traps_stand_in_the_text.ensures service before call trap traps))
    shape start script r trap there traps
