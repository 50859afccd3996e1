use Rattle.wave_theory.proofs.laws.empty_at_end.Goals as goal
use Rattle.wave_theory.proofs.Reached
use Rattle.wave_theory.proofs.Canon
use Rattle.wave_theory.proofs.InHand
use Rattle.wave_theory.proofs.Noted

pub returns : goal.returns
returns g c = λ code workers b batches begins plan labels s e. let a = g.T.Acting in
    let k = Reached.reached (a.kind code) (a.owed code) b batches begins plan.jobs plan.some_host workers s labels e in
    Canon.empty_at_end (a.kind code) (a.owed code) b batches begins plan.jobs s k workers plan.some_worker
    (λ v hd i. InHand.can_stop (a.kind code) (a.owed code) b batches begins plan.jobs s k v hd i workers
    (InHand.below_workers workers s v hd i (Noted.bounds (a.kind code) (a.owed code) b batches begins plan.jobs plan.some_host workers labels s e).hands))
