use Rattle.std.proofs.Common.{◌≡◌, take}
use Rattle.eventwave.proofs.engines.log_of.Given as goal

abbrev pub invariant-loop-label : goal.invariant-loop-label
invariant-loop-label l = l.log ≡ take l.label-index l.labels
