use Rattle.wave_theory.proofs.laws.complete.Goals as goal
use Rattle.wave_theory.proofs.Settled
use Rattle.wave_theory.proofs.Live

pub returns : goal.returns
returns g c = λ code workers b batches begins plan labels s e. let a = g.T.Acting in
    let h = Settled.homed (a.kind code) (a.owed code) b batches begins plan.jobs plan.some_host workers labels s e in
    λ fin. Live.complete (a.kind code) (a.owed code) b batches begins plan.jobs s h.good workers plan.some_worker fin
    (Settled.places (a.kind code) (a.owed code) b batches begins plan.jobs s h.good h.homes workers plan.some_worker fin)
