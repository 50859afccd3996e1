use Rattle.wave_machine.proofs.Untouched.{done_led}
use Rattle.wave_machine.proofs.done.done_stays.Goals as goal

pub returns : goal.returns
returns c = λ m m' start s s' l n stands stands' e done. done_led c.states_are_known.ensures c.segments_are_known.ensures m start s s' stands m' stands' l e n done
