use Rattle.wave_theory.proofs.laws.independent.Goals as goal
use Rattle.wave_theory.proofs.Commute

pub returns : goal.returns
returns g c = λ code. Commute.independent ((g.T.Acting.kind code).system)
