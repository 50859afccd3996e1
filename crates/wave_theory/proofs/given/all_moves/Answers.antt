use Rattle.wave_theory.proofs.given.all_moves.Goals as goal
use Rattle.wave_theory.proofs.Totals
use Rattle.wave_theory.proofs.Settled

pub returns : goal.returns
returns g c = λ code workers b batches begins plan labels s e. let a = g.T.Acting in
    let h = Settled.homed (a.kind code) (a.owed code) b batches begins plan.jobs plan.some_host workers labels s e in
    Totals.all_moves (a.kind code) (a.owed code) b batches begins plan.jobs s h.good workers plan.some_worker h.homes
