use Rattle.wave_theory.proofs.laws.lists_are_exact.Goals as goal
use Rattle.wave_theory.proofs.Reached
use Rattle.wave_theory.proofs.Canon

pub returns : goal.returns
returns g c = λ code workers b batches begins plan labels s e. let a = g.T.Acting in
    Canon.listed (a.kind code) (a.owed code) b batches begins plan.jobs s (Reached.reached (a.kind code) (a.owed code) b batches begins plan.jobs plan.some_host workers s labels e) workers
