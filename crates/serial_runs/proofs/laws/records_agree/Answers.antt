use Rattle.serial_runs.proofs.Wherever
use Rattle.serial_runs.proofs.laws.records_agree.Goals as goal

pub returns : goal.returns
returns g c = λ code workers b batches begins plan labels s r. let a = g.T.Acting in
    Wherever.recorded (a.kind code) (a.owed code) b batches begins plan.jobs plan.some_host workers labels s r (c.agree.ensures code workers b batches begins plan labels s r)
