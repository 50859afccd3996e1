use Rattle.wave_theory.proofs.laws.records.Goals as goal
use Rattle.wave_theory.proofs.Reached
use Rattle.wave_theory.proofs.Told

pub returns : goal.returns
returns g c = λ code workers b batches begins plan labels s e. let a = g.T.Acting in
    Told.records (a.kind code) (a.owed code) b batches begins plan.jobs s (Reached.reached (a.kind code) (a.owed code) b batches begins plan.jobs plan.some_host workers s labels e)
