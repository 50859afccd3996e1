use Rattle.serial_runs.proofs.Oldest
use Rattle.serial_runs.proofs.laws.oldest_is_serial.Goals as goal

pub returns : goal.returns
returns g c = λ code workers b batches begins plan x labels d. let a = g.T.Acting in
    Oldest.serial (a.kind code) (a.owed code) b batches begins plan.jobs plan.some_host workers plan.some_worker x labels d
