use Rattle.resolved_service.proofs.Fuel.{enough_fuel}
use Rattle.resolved_service.proofs.laws.ticks_end_before_fuel.Goals as goal

pub returns : goal.returns
returns c = enough_fuel
