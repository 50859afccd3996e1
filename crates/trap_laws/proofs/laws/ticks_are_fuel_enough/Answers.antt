use Rattle.trap_laws.proofs.Traps.{means_as_with_more}
use Rattle.trap_laws.proofs.laws.ticks_are_fuel_enough.Goals as goal

pub returns : goal.returns
returns c = λ service. means_as_with_more service c.ticks_end_before_fuel.ensures
