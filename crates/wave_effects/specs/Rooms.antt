-- The room and the parts that labels ask for, which are made beforehand.
use Rattle.std.specs.Prelude.{◌≡◌, ◌≤◌, ℕ, Option, Some, None, slice_get}
use Rattle.std.specs.FinMap as table
use Rattle.wave_base.specs.declared.path.Path.{Path}
use Rattle.wave_states.specs.Steps.{new_entry}
use Rattle.context_queue.specs.declared.entry.Entry.{Entry}
use Rattle.context_queue.specs.Entries.{StandsFor}
use Rattle.host_map.specs.Stores.{Stores}
use Rattle.plan_actors.specs.PlanActors.{plan_actors}
use Rattle.wave_effects.specs.Machines.{Kept}

-- Of what a store has at a path, and of an entry that may be born there: one of the two is there, and has room in its line for one
-- more; and there is room for what is born.
abbrev pub RoomInLine : Stores → Option Entry → Option Entry → Type 0
RoomInLine st (Some e) None = 1 ≤ e.waiting.room
RoomInLine st None (Some e) = (1 ≤ st.path_room) × (1 ≤ e.waiting.room)
RoomInLine st (Some e) (Some b) = ⊥
RoomInLine st None None = ⊥

-- What a Queue asks for: room for one more in the line of a context that is here; of one that is not, its first entry, with such room.
pub record PartToQueue (m : Kept) (host : ℕ) (p : Path) (born : Option Entry) : Type 0 where
  pub room : (st : Stores) → slice_get m.stores host ≡ Some st → RoomInLine st (table.get st.store p) born
  pub first : (e : Entry) → born ≡ Some e → StandsFor e (new_entry (plan_actors m.plan.program) p)
