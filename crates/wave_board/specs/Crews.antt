-- What a crew tells of its workers.
use Rattle.std.specs.Prelude.{◌≡◌, ◌≢◌, ◌≤◌, ◌<◌, ◌*◌, ℕ, slice_get, Some}
use Rattle.wave_base.specs.declared.numbers.Worker.{Worker}
use Rattle.wave_board.specs.declared.crew.Crew.{Crew}
use Rattle.wave_board.specs.declared.crew.TheConstants.{HEAVY, SEATS}
use Rattle.wave_board.specs.declared.seat.Seat.{Seat}

-- segments are heavy, on the average
abbrev pub IsHeavy : Crew → Type 0
IsHeavy crew = 8 * HEAVY ≤ crew.pace

-- another worker is there, or none is
abbrev pub IsAnother : Crew → Worker → Seat → Worker → Type 0
IsAnother crew worker seat w = (slice_get crew.seats w.0 ≡ Some seat) × (w ≢ worker)

abbrev pub IsNobody : Crew → Worker → Seat → Type 0
IsNobody crew worker seat = (j : ℕ) → j < SEATS → j ≢ worker.0 → slice_get crew.seats j ≢ Some seat
