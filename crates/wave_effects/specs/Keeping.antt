-- What the machine keeps, as a plain value.
use Rattle.std.specs.Prelude.{◌≡◌, ◌≤◌, ◌+◌, ◌-◌, ℕ, true, List, Option, Some, None, position, slice_get}
use Rattle.std.specs.FinMap as table
use Rattle.wave_base.specs.declared.path.Path.{Path}
use Rattle.context_queue.specs.declared.entry.Entry.{Entry}
use Rattle.context_queue.specs.declared.waiting.Claim.{Claim}
use Rattle.host_map.specs.Stores.{Stores, has}
use Rattle.migration_core.specs.declared.mail.Letter.{Letter}
use Rattle.migration_core.specs.declared.mail.Letter.TheVariants as letter
use Rattle.event_cells.specs.declared.outbox.Envelope.{Envelope}
use Rattle.event_cells.specs.declared.cell.Cell.{Cell}
use Rattle.wave_effects.specs.declared.actor.Actor.{Actor}
use Rattle.wave_effects.specs.declared.engine.Engine.{Engine}
use Rattle.wave_effects.specs.Machines.{Kept}
use Rattle.wave_effects.specs.Plans.{plan_of}

abbrev pub kept_of : Engine → Kept
kept_of m = record {
  plan = plan_of m.plan.now;
  first = m.first;
  head = m.head;
  commits = m.commits;
  settled = record { kinds = m.kinds.items; results = m.settled.items };
  cells = m.cells.items;
  stores = m.stores.items;
  hands = m.hands.items;
}

-- there is room for a Grant: for one more context that the ticket holds, and for one more that only looks where the next in line does
pub record RoomToGrant (m : Kept) (host t : ℕ) (p : Path) : Type 0 where
  pub held : (c : Cell Actor) → slice_get m.cells (t - m.first) ≡ Some c → 1 ≤ c.held.room
  pub peeks : (st : Stores) (e : Entry) (claim : Claim) → slice_get m.stores host ≡ Some st → table.get st.store p ≡ Some e → table.get e.waiting.claims (e.served + 1) ≡ Some claim → claim.peek ≡ true → 1 ≤ e.peeks.room

-- there is room for one more context at a host
abbrev pub RoomToLand : Kept → ℕ → Type 0
RoomToLand m host = (st : Stores) → slice_get m.stores host ≡ Some st → 1 ≤ st.path_room

-- the entry that a Transfer carries
abbrev pub entry_of : Letter → Option Entry
entry_of (letter.Transfer e) = Some e
entry_of _ = None

abbrev pub entry_in : Option Envelope → Option Entry
entry_in None = None
entry_in (Some e) = entry_of e.letter

-- the host that has a context
abbrev pub place_in : List Stores → Path → Option ℕ
place_in stores p = position (has p) stores
