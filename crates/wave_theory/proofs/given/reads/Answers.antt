use Rattle.wave_theory.proofs.given.reads.Goals as goal
use Rattle.wave_theory.proofs.Reading

pub returns : goal.returns
returns g c = λ code. Reading.reads (g.T.Acting.kind code).system
