use Rattle.wave_theory.proofs.laws.by_owners.Goals as goal
use Rattle.wave_theory.proofs.Reached
use Rattle.wave_theory.proofs.Hosts

pub returns : goal.returns
returns g c = λ code workers b batches begins plan labels s e. let a = g.T.Acting in
    Hosts.by_owners (a.kind code) (a.owed code) b batches begins plan.jobs s (Reached.reached (a.kind code) (a.owed code) b batches begins plan.jobs plan.some_host workers s labels e) workers
