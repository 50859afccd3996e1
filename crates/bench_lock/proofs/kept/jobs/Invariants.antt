use Rattle.std.proofs.Common.{◌≡◌, ◌+◌}
use Rattle.kept_lock.specs.Locks.{knowledge, IsPassOf}
use Rattle.bench_lock.proofs.kept.jobs.Given as goal

abbrev pub invariant-loop-number : goal.invariant-loop-number
invariant-loop-number l = IsPassOf l.lock l.first × ((knowledge l.first).number ≡ 0) × ((knowledge l.first).passes ≡ l.number + 1)
