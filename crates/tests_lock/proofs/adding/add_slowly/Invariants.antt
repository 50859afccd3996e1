use Rattle.std.specs.Prelude.{◌≡◌}
use Rattle.kept_lock.specs.Locks.{knowledge, IsPassOf}
use Rattle.tests_lock.proofs.adding.add_slowly.Given as goal

abbrev pub invariant-loop : goal.invariant-loop
invariant-loop g l = IsPassOf l.lock l.pass × ((knowledge l.pass).number ≡ l.me)
