use Rattle.quiet_laws.proofs.Equation.{quietness}
use Rattle.quiet_laws.proofs.laws.quietness_is_its_equation.Goals as goal

pub returns : goal.returns
returns c = quietness
