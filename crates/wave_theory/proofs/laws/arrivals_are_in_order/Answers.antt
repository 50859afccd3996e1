use Rattle.wave_theory.proofs.laws.arrivals_are_in_order.Goals as goal
use Rattle.wave_theory.proofs.Noted

pub returns : goal.returns
returns g c = λ code workers b batches begins plan labels s e. let a = g.T.Acting in
    Noted.came (a.kind code) (a.owed code) b batches begins plan.jobs plan.some_host workers labels s e
