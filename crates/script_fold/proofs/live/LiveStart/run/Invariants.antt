use Rattle.std.proofs.Common.{◌-◌}
use Rattle.script_fold.specs.Lines.{most_jobs}
use Rattle.script_fold.specs.inner.Standing.{Stands}
use Rattle.script_fold.proofs.live.LiveStart.run.Given as goal

abbrev pub invariant-loop-folding : goal.invariant-loop-folding
invariant-loop-folding g l = Stands (g.R.Runner.meaning l.runner) (g.R.Runner.shape l.runner) l.fn.self.start l.fn.script l.folding

abbrev pub decreases-loop-folding : goal.decreases-loop-folding
decreases-loop-folding g l = most_jobs l.fn.script.batches - l.folding.head.done
