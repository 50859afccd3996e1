-- What contracts say of locks and passes.
use Rattle.std.specs.Prelude.{◌≡◌, Option, None, IsSome}
use Rattle.kept_lock.specs.declared.view.Known.{Known}
use Rattle.kept_lock.specs.declared.lock.KeptLock.{KeptLock}
use Rattle.kept_lock.specs.declared.lock.Pass.{Pass}
use Rattle.kept_lock.specs.Seats.{IsPass, IsIn}

module _ {V N E : Type 0} where
  -- the lock's name
  abbrev pub name_of : KeptLock V N E → N
  name_of lock = lock.table.shared.key

  -- what the pass knows
  abbrev pub knowledge : Pass V N E → Known E
  knowledge pass = pass.seat.me.0.known

  -- the value that is out with the pass
  abbrev pub value_of : Pass V N E → Option V
  value_of pass = pass.out

  -- the pass is of this lock, and not inside
  abbrev pub IsPassOf : KeptLock V N E → Pass V N E → Type 0
  IsPassOf lock pass = IsPass lock.table.shared.table_id (name_of lock) pass.seat × (pass.out ≡ None)

  -- the pass is inside this lock, and the value is out with it
  abbrev pub IsInside : KeptLock V N E → Pass V N E → Type 0
  IsInside lock pass = IsIn lock.table.shared.table_id (name_of lock) pass.seat × IsSome pass.out
