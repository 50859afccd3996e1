use Rattle.serial_runs.proofs.Turning
use Rattle.serial_runs.proofs.laws.neighbours_change.Goals as goal

pub returns : goal.returns
returns g c = λ code workers s v labels r. Turning.neighbours ((g.T.Acting.kind code).system) workers (c.reads.ensures code) (c.changes.ensures code) s v labels r
