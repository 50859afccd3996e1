use Rattle.std.proofs.Common.{◌≡◌, take}
use Rattle.service_verify.proofs.stack.Stack.copy.Given as goal

abbrev pub invariant-loop-x : goal.invariant-loop-x
invariant-loop-x g l = l.items.items ≡ take l.x-index l.x-items
