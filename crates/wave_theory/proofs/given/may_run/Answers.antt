use Rattle.wave_theory.proofs.given.may_run.Goals as goal
use Rattle.wave_theory.proofs.InHand
use Rattle.wave_theory.proofs.Reached

pub returns : goal.returns
returns g c = λ code workers b batches begins plan labels s e v hd i. let a = g.T.Acting in
    InHand.may_run (a.kind code) (a.owed code) b batches begins plan.jobs s (Reached.reached (a.kind code) (a.owed code) b batches begins plan.jobs plan.some_host workers s labels e) v hd i
