use Rattle.std.specs.Prelude.{replicate}
use Rattle.kept_lock.specs.Locks.{knowledge, IsPassOf}
use Rattle.lock_counter.specs.Counters.{addition}
use Rattle.lock_counter.specs.Passes.{Made}
use Rattle.lock_counter.proofs.work.add_times.Given as goal

abbrev pub invariant-loop : goal.invariant-loop
invariant-loop g l = IsPassOf l.lock l.pass × Made (knowledge l.initial.pass) (knowledge l.pass) (replicate l.counter (addition l.fn.me l.fn.amount))
