use Rattle.serial_runs.proofs.Ends
use Rattle.serial_runs.proofs.laws.one_end.Goals as goal

pub returns : goal.returns
returns g c = λ code workers b batches begins plan labels s r fin others labels' s' plan' r' fin'. let a = g.T.Acting in
    Ends.one_end (a.kind code) (a.owed code) b batches begins plan.jobs plan.some_host s' s
    (Ends.ends (a.kind code) (a.owed code) b batches begins plan.jobs plan.some_host others plan'.some_worker labels' s' r' fin')
    (Ends.ends (a.kind code) (a.owed code) b batches begins plan.jobs plan.some_host workers plan.some_worker labels s r fin)
