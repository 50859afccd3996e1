use Rattle.wave_theory.proofs.laws.label_bounds.Goals as goal
use Rattle.wave_theory.proofs.Often
use Rattle.wave_theory.proofs.Passed

pub returns : goal.returns
returns g c = λ code workers b batches begins plan labels s e. let a = g.T.Acting in
    Passed.bounded (a.kind code) (a.owed code) b batches begins plan.jobs plan.some_host workers plan.some_worker labels s e
    (Often.each (a.kind code) (a.owed code) b batches begins plan.jobs plan.some_host workers labels s e)
