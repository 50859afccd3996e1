use Rattle.wave_theory.proofs.given.sends.Goals as goal
use Rattle.wave_theory.proofs.Mailed
use Rattle.wave_theory.proofs.Balances

pub returns : goal.returns
returns g c = λ code workers b batches begins plan labels s e. let a = g.T.Acting in
    let h = Balances.spending (a.kind code) (a.owed code) b batches begins plan.jobs plan.some_host workers labels s e in
    Mailed.sent (a.kind code) (a.owed code) b batches begins plan.jobs s h.good h.kept.balance
