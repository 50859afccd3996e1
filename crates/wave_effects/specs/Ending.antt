-- When all is done, and what is told of it.
use Rattle.std.specs.Prelude.{◌≡◌, ◌<◌, ◌≤◌, ◌&&◌, ℕ, Bool, true, List, length, slice_get, Some, None, All}
use Rattle.head_tickets.specs.Heads.{next_line}
use Rattle.event_cells.specs.declared.cell.Cell.{Cell}
use Rattle.event_cells.specs.Cells.{is_over}
use Rattle.event_cells.specs.Keeps.{is_empty}
use Rattle.wave_effects.specs.declared.actor.Actor.{Actor}
use Rattle.wave_effects.specs.Machines.{Kept}

-- it has ended, and no mail of it is under way
abbrev pub is_done : Cell Actor → Bool
is_done c = is_over c.status && is_empty c.outbox.mails

-- so many of the first cells are done
pub record AreFirstDone (n : ℕ) (cells : List (Cell Actor)) : Type 0 where
  pub within : n ≤ length cells
  pub each : (i : ℕ) (c : Cell Actor) → i < n → slice_get cells i ≡ Some c → is_done c ≡ true

-- Nothing is out, no job waits for its admission, all admitted tickets are committed, and all cells are done.
pub record AllDone (m : Kept) : Type 0 where
  pub idle : All (λ o. o ≡ None) m.hands
  pub none_next : next_line m.head ≡ None
  pub committed : length m.settled.results ≡ length m.cells
  pub done : All (λ c. is_done c ≡ true) m.cells
