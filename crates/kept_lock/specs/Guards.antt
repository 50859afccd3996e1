-- What contracts say of guards.
use Rattle.std.specs.Prelude.{ℕ, Option, Some}
use denote.Bor.{Bor}
use Rattle.kept_lock.specs.declared.guard.Guard.{Guard}
use Rattle.kept_lock.specs.declared.lock.KeptLock.{KeptLock}
use Rattle.kept_lock.specs.declared.lock.Pass.{Pass}
use Rattle.kept_lock.specs.Locks.{value_of}

module _ {V N E : Type 0} where
  -- the borrow of the lock, and the name of the borrow of the pass, which the guard has from its entry
  abbrev pub lock_ref : Guard V N E → Bor (KeptLock V N E)
  lock_ref guard = guard.lock

  abbrev pub pass_borrow : Guard V N E → ℕ
  pass_borrow guard = guard.pass.ghost_name

  -- the lock that the guard is inside
  abbrev pub lock_in : Guard V N E → KeptLock V N E
  lock_in guard = guard.lock.now

  -- the pass that it has
  abbrev pub pass_in : Guard V N E → Pass V N E
  pass_in guard = guard.pass.now

  -- the value that it has
  abbrev pub value_in : Guard V N E → Option V
  value_in guard = value_of (pass_in guard)

  -- the pass with another value, and the guard with another value
  abbrev pub pass_with : Pass V N E → V → Pass V N E
  pass_with pass w = record pass { out = Some w }

  abbrev pub guard_with : Guard V N E → V → Guard V N E
  guard_with guard w = record guard { pass = record guard.pass { now = pass_with guard.pass.now w } }
