use Rattle.wave_theory.proofs.laws.drives_end.Goals as goal
use Rattle.wave_theory.proofs.Driving

pub returns : goal.returns
returns g c = λ code workers b batches begins plan n over rule picks x. let a = g.T.Acting in
    Driving.driven (a.kind code) (a.owed code) b batches begins plan.jobs plan.some_host workers plan.some_worker n over rule picks x
