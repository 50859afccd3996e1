use Rattle.wave_theory.proofs.laws.families.Goals as goal
use Rattle.wave_theory.proofs.Generations

pub returns : goal.returns
returns g c = λ code. Generations.families (g.T.Acting.kind code)
