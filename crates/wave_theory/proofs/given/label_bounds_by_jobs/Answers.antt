use Rattle.wave_theory.proofs.given.label_bounds_by_jobs.Goals as goal
use Rattle.wave_theory.proofs.Ending
use Rattle.wave_theory.proofs.Often
use Rattle.wave_theory.proofs.Passed
use Rattle.wave_theory.specs.Ends.{worth_of}

pub returns : goal.returns
returns g c = λ code workers b batches begins plan labels s e worth is_worth. let a = g.T.Acting in
    (Passed.bounded (a.kind code) (a.owed code) b batches begins plan.jobs plan.some_host workers plan.some_worker labels s e
    (Often.each (a.kind code) (a.owed code) b batches begins plan.jobs plan.some_host workers labels s e)).within (worth_of worth batches)
    (Ending.ends (a.kind code) (a.owed code) worth is_worth b batches begins plan.jobs (worth_of worth batches) (Ending.upto (worth_of worth batches)))
