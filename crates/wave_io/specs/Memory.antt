-- What sources and sinks in memory keep.
use Rattle.std.specs.Prelude.{ℕ, ◌<◌, ◌≤◌, List}

-- the bytes that are left, the most that one call gives, the numbers of the calls that fail, and the counts of calls and faults
pub record Supply : Type 0 where
  pub left : List ℕ
  pub most : ℕ
  pub failing : List ℕ
  pub calls : ℕ
  pub faults : ℕ

-- the bytes that were taken, the room for them, the most that one call takes, and the rest as in a supply
pub record Room : Type 0 where
  pub written : List ℕ
  pub room : ℕ
  pub most : ℕ
  pub failing : List ℕ
  pub calls : ℕ
  pub faults : ℕ

-- a call takes something, what was taken lies in the room, and the room is reserved
pub record IsReserved (most taken room capacity : ℕ) : Type 0 where
  pub some : 0 < most
  pub within : taken ≤ room
  pub reserved : room ≤ capacity
