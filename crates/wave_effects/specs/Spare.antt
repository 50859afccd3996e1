-- Room that a Stop makes beforehand.
use Rattle.std.specs.Prelude.{◌≡◌, ◌+◌, ◌-◌, ◌<◌, ◌≤◌, ℕ, false, length, Some, slice_get, vec_len, vec_capacity}
use Rattle.host_map.specs.Stores.{Stores}
use Rattle.event_cells.specs.declared.cell.Cell.{Cell}
use Rattle.event_cells.specs.Cells as cells
use Rattle.event_cells.specs.Cells.{is_over}
use Rattle.wave_effects.specs.declared.actor.Actor.{Actor}
use Rattle.wave_effects.specs.declared.engine.Engine.{Engine}
use Rattle.wave_effects.specs.Machines.{Kept}

-- the ticket has a cell, whose event has not ended, and there is such a host
pub record HasPlace (m : Kept) (host t : ℕ) : Type 0 where
  pub low : m.first ≤ t
  pub within : t < m.first + length m.cells
  pub host_in : host < length m.stores
  pub goes_on : (c : Cell Actor) → slice_get m.cells (t - m.first) ≡ Some c → is_over c.status ≡ false

-- for a Release of each context that is held and one more mail, for a departure mark, and for a result
pub record RoomToStop (m : Kept) (host t : ℕ) : Type 0 where
  pub mails : (c : Cell Actor) → slice_get m.cells (t - m.first) ≡ Some c → 1 + length c.held.holds ≤ c.outbox.room
  pub marks : (st : Stores) → slice_get m.stores host ≡ Some st → 1 ≤ st.mark_room
  pub results : 1 ≤ m.commits.room

-- a cell, or a host's store, that is another's but for the rooms, none of which is less
pub record IsCellOf (m : Kept) (i : ℕ) (c' : Cell Actor) : Type 0 where
  pub cell : Cell Actor
  pub there : slice_get m.cells i ≡ Some cell
  pub same : cells.SameButRooms cell c'
  pub room : cell.held.room ≤ c'.held.room

pub record IsStoreOf (m : Kept) (h : ℕ) (st' : Stores) : Type 0 where
  pub stores : Stores
  pub there : slice_get m.stores h ≡ Some stores
  pub store : st'.store ≡ stores.store
  pub gone : st'.gone ≡ stores.gone
  pub room : stores.path_room ≤ st'.path_room

-- the same but for the rooms, none of which is less
pub record SameButRooms (m m' : Kept) : Type 0 where
  pub plan : m'.plan ≡ m.plan
  pub first : m'.first ≡ m.first
  pub head : m'.head ≡ m.head
  pub settled : m'.settled ≡ m.settled
  pub hands : m'.hands ≡ m.hands
  pub committed : m'.commits.committed ≡ m.commits.committed
  pub results : m'.commits.results ≡ m.commits.results
  pub as_many_cells : length m'.cells ≡ length m.cells
  pub cells : (i : ℕ) (c' : Cell Actor) → slice_get m'.cells i ≡ Some c' → IsCellOf m i c'
  pub as_many_stores : length m'.stores ≡ length m.stores
  pub stores : (h : ℕ) (st' : Stores) → slice_get m'.stores h ≡ Some st' → IsStoreOf m h st'

-- its lists have room for as many more
pub record IsAsLong (m m' : Engine) : Type 0 where
  pub kinds : m'.kinds ≡ m.kinds
  pub settled : m'.settled ≡ m.settled
  pub cells : vec_len m'.cells ≡ vec_len m.cells
  pub capacity : vec_capacity m'.cells ≡ vec_capacity m.cells
