use Rattle.std.proofs.Common.{◌≡◌, take, length}
use Rattle.service_eval.proofs.look.above.Given as goal

abbrev pub invariant-loop-above : goal.invariant-loop-above
invariant-loop-above l = take l.level l.above ≡ take l.level l.path

abbrev pub decreases-loop-above : goal.decreases-loop-above
decreases-loop-above l = length l.above
