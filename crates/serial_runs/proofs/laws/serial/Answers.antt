use Rattle.serial_runs.proofs.ByOne
use Rattle.serial_runs.proofs.laws.serial.Goals as goal

pub returns : goal.returns
returns g c = λ code workers b batches begins plan labels s r fin. let a = g.T.Acting in
    ByOne.serial (a.kind code) (a.owed code) b batches begins plan.jobs plan.some_host workers plan.some_worker labels s r fin
