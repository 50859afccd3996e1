use Rattle.std.proofs.Common.{◌-◌, length, arith}
use Rattle.wave_text.proofs.CountedLemmas.{ends_fed, ends_unfed}
use Rattle.wave_text.proofs.counted.left_over.Goals as goal

pub returns-then-last-eq10-clause-count : goal.returns-then-last-eq10-clause-count
returns-then-last-eq10-clause-count c = ends_fed c.args.text.now (length c.args.text.now - 1) (omega arith) c.if-last-eq10.true

pub returns-else-last-eq10-clause-count : goal.returns-else-last-eq10-clause-count
returns-else-last-eq10-clause-count c = ends_unfed c.args.text.now (length c.args.text.now - 1) (omega arith) c.if-last-eq10.false
