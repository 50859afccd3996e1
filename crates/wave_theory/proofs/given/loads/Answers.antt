use Rattle.wave_theory.proofs.given.loads.Goals as goal
use Rattle.wave_theory.proofs.Totals
use Rattle.wave_theory.proofs.Reached

pub returns : goal.returns
returns g c = λ code workers b batches begins plan labels s e. let a = g.T.Acting in
    Totals.loads (a.kind code) (a.owed code) b batches begins plan.jobs s (Reached.reached (a.kind code) (a.owed code) b batches begins plan.jobs plan.some_host workers s labels e) workers plan.some_worker
