use Rattle.serial_runs.proofs.Turning
use Rattle.serial_runs.proofs.laws.either_order.Goals as goal

pub returns : goal.returns
returns g c = λ code workers s. Turning.either ((g.T.Acting.kind code).system) workers (c.reads.ensures code) (c.changes.ensures code) (c.independent.ensures code) s
