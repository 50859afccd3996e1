use Rattle.wave_theory.proofs.Reached
use Rattle.serial_runs.proofs.Sources
use Rattle.serial_runs.proofs.laws.origins.Goals as goal

pub returns : goal.returns
returns g c = λ code workers b batches begins plan labels s r. let a = g.T.Acting in
    Sources.origins (a.kind code) b batches s (Reached.reached (a.kind code) (a.owed code) b batches begins plan.jobs plan.some_host workers s labels r).shows.before
    (c.results.ensures code workers b batches begins plan labels s r) (c.tickets.ensures code workers b batches begins plan labels s r)
