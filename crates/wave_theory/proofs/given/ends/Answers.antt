use Rattle.wave_theory.proofs.given.ends.Goals as goal
use Rattle.wave_theory.proofs.Ending

pub returns : goal.returns
returns g c = λ code worth is_worth b batches begins jobs. let a = g.T.Acting in
    Ending.ends (a.kind code) (a.owed code) worth is_worth b batches begins jobs
