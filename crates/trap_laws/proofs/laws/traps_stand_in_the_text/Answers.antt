use Rattle.trap_laws.proofs.Traps.{traps_stand}
use Rattle.trap_laws.proofs.laws.traps_stand_in_the_text.Goals as goal

pub returns : goal.returns
returns c = traps_stand
