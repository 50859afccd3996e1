-- What is kept is of a size that can be listed.
use Rattle.std.specs.Prelude.{◌≡◌, ◌≤◌, ◌<◌, ◌+◌, ◌^◌, ℕ, true, length, Some, None, is_some, slice_get}
use Rattle.commit_order.specs.Commits.{ready_result}
use Rattle.event_cells.specs.declared.cell.Cell.{Cell}
use Rattle.event_cells.specs.Keeps.{Sending, mail_in}
use Rattle.wave_effects.specs.declared.actor.Actor.{Actor}
use Rattle.wave_effects.specs.Machines.{Kept}

-- no mail has the number 0, or one past those that were sent
pub record IsNumbered (o : Sending) : Type 0 where
  pub from_one : mail_in o.mails 0 ≡ None
  pub below : (k : ℕ) → o.sent < k → mail_in o.mails k ≡ None

-- so few hosts, workers and tickets, and each mail under its number
pub record IsListable (m : Kept) : Type 0 where
  pub few_stores : length m.stores ≤ 8
  pub few_hands : length m.hands ≤ 16
  pub tickets : m.first + length m.cells ≤ 2 ^ 32
  pub commits : is_some (ready_result m.commits) ≡ true → m.first + length m.settled.results < 2 ^ 32
  pub numbered : (i : ℕ) (c : Cell Actor) → slice_get m.cells i ≡ Some c → IsNumbered c.outbox
