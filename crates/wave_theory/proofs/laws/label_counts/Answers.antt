use Rattle.wave_theory.proofs.laws.label_counts.Goals as goal
use Rattle.wave_theory.proofs.Reached
use Rattle.wave_theory.proofs.Sizes

pub returns : goal.returns
returns g c = λ code workers b batches begins plan labels s e. let a = g.T.Acting in
    Sizes.counted (a.kind code) (a.owed code) b batches begins plan.jobs s labels (Reached.reached_by (a.kind code) (a.owed code) b batches begins plan.jobs plan.some_host workers s labels e) workers plan.some_worker
