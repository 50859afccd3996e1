use Rattle.std.proofs.Common.{length}
use Rattle.service_eval.proofs.event.+phases_from.Given as goal

abbrev pub decreases-phases_from : goal.decreases-phases_from
decreases-phases_from l = length l.phases.now
