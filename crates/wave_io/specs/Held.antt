-- Bytes that are held back before a sink.
use Rattle.std.specs.Prelude.{◌≡◌, ℕ, ◌≤◌, List, ◌++◌, take, Option}
use Rattle.std.specs.Io.KnownBytes.{Appends}
use Rattle.wave_io.specs.declared.room.TheConstants.{HELD_BYTES}

-- These bytes were taken: behind what was held they come in their order, and of both a front reached the sink and the rest is held.
pub record Takes (held held' : List ℕ) (written written' : Option (List ℕ)) (bytes : List ℕ) : Type 0 where
  pub reached : List ℕ
  pub appended : Appends written written' reached
  pub rest : reached ++ held' ≡ held ++ bytes

-- some front of the bytes was taken
abbrev pub TakesFront : List ℕ → List ℕ → Option (List ℕ) → Option (List ℕ) → List ℕ → Type 0
TakesFront held held' written written' bytes = (n : ℕ) × Takes held held' written written' (take n bytes)

-- of the bytes in the buffer these were sent, and what may be held has its memory
pub record IsInRoom (sent bytes capacity : ℕ) : Type 0 where
  pub before : sent ≤ bytes
  pub within : bytes ≤ HELD_BYTES
  pub reserved : HELD_BYTES ≤ capacity
