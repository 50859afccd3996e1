use Rattle.std.proofs.Common.{◌≡◌, length, sum_by, take}
use Rattle.due_parts.proofs.told.lines_in.Given as goal

abbrev pub invariant-loop-batch : goal.invariant-loop-batch
invariant-loop-batch l = l.lines ≡ sum_by length (take l.batch-index l.script.batches)
