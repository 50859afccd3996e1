use Rattle.kept_lock.specs.Locks.{IsPassOf}
use Rattle.bench_lock.proofs.kept.take_turns.Given as goal

abbrev pub invariant-loop : goal.invariant-loop
invariant-loop g l = IsPassOf l.lock l.pass
