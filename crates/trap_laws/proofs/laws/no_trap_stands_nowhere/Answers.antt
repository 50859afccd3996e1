use Rattle.trap_laws.proofs.laws.no_trap_stands_nowhere.Goals as goal

pub returns : goal.returns
returns c = λ service written tree call trap e. written call.event trap (c.traps_stand_in_the_text.ensures service tree call trap e)
