use Rattle.wave_theory.proofs.given.changes.Goals as goal
use Rattle.wave_theory.proofs.Reading

pub returns : goal.returns
returns g c = λ code. Reading.changes (g.T.Acting.kind code).system
