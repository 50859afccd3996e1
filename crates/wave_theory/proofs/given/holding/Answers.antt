use Rattle.wave_theory.proofs.given.holding.Goals as goal
use Rattle.wave_theory.proofs.Halts
use Rattle.wave_theory.proofs.AsAlone

pub returns : goal.returns
returns g c = λ code workers b batches begins plan labels s e. let a = g.T.Acting in
    let h = Halts.halting (a.kind code) (a.owed code) b batches begins plan.jobs plan.some_host workers labels s e in
    AsAlone.as_alone (a.kind code) (a.owed code) b batches begins plan.jobs s h.good labels h.halts
