use Rattle.std.proofs.Common.{◌≡◌, length}
use Rattle.tests_parts.proofs.paths.first.Given as goal

abbrev pub invariant-loop-i : goal.invariant-loop-i
invariant-loop-i l = length l.path ≡ l.i
