use Rattle.std.specs.Prelude.{[]}
use Rattle.kept_lock.specs.Locks.{knowledge, IsPassOf}
use Rattle.lock_counter.specs.Passes.{Made}
use Rattle.lock_counter.proofs.work.wait_for.Given as goal

abbrev pub invariant-loop : goal.invariant-loop
invariant-loop g l = IsPassOf l.lock l.pass × Made (knowledge l.initial.pass) (knowledge l.pass) []
