-- What holds of the seat of a pass.
use Rattle.std.specs.Prelude.{◌≡◌, [], ◌∷◌, Option, Some, None}
use Rattle.atomic_table.specs.Seated.{TableId}
use Rattle.atomic_table.specs.declared.shared.Seat.{Seat}
use Rattle.kept_lock.specs.declared.view.View.{View}
use Rattle.kept_lock.specs.declared.view.Place.TheVariants.{Outside, Inside}

module _ {N E : Type 0} where
  -- the view is of a pass of the lock with this name, and not inside
  abbrev pub IsOutside : N → View N E → Type 0
  IsOutside name v = (v.name ≡ Some name) × (v.place ≡ Outside) × (v.told ≡ [])

module _ {V N E : Type 0} where
  -- the seat is at this table, its pass is outside, and no value is out with it
  abbrev pub IsPass : TableId → N → Seat (Option V) (View N E) → Type 0
  IsPass id name seat = (seat.table_id ≡ id) × (seat.me.1 ≡ []) × IsOutside name seat.me.0

  -- the seat is at this table, its pass is inside, and the slot is out with it, from which the value was moved
  abbrev pub IsIn : TableId → N → Seat (Option V) (View N E) → Type 0
  IsIn id name seat = (seat.table_id ≡ id) × (seat.me.1 ≡ (0, None) ∷ []) × (seat.me.0.name ≡ Some name) × (seat.me.0.place ≡ Inside)
