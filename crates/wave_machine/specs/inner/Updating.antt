-- A label that is taken, as the list sees it: what is looked at before it, what it leaves, and what has to be updated by it; then the room that is made,
-- and one entry that is picked.
use Rattle.std.specs.Prelude.{◌≡◌, ◌≢◌, ◌⊎◌, ◌≤◌, ◌+◌, ℕ, Bool, true, false, List, [], length, Option, Some, None, option_map, slice_get, vec_len, vec_capacity}
use Rattle.std.specs.FinMap as table
use Rattle.wave_base.specs.declared.path.Path.{Path}
use Rattle.wave_base.specs.declared.start.Start.{Start}
use Rattle.wave_labels.specs.declared.label.Label as program
use Rattle.context_queue.specs.declared.entry.Entry.{Entry}
use Rattle.context_queue.specs.Entries.{entry_of, next_in}
use Rattle.migration_core.specs.declared.mail.Letter.TheVariants as letter
use Rattle.event_cells.specs.declared.cell.Cell.{Cell}
use Rattle.event_cells.specs.declared.outbox.Envelope.{Envelope}
use Rattle.event_cells.specs.declared.status.Status.TheVariants as status
use Rattle.event_cells.specs.Keeps.{mail_in}
use Rattle.host_map.specs.Stores.{Stores, has}
use Rattle.wave_states.specs.Labels.{Act, Label, Queue, path_of, ticket_of}
use Rattle.wave_theory.specs.Listed.{IsIn}
use Rattle.wave_effects.specs.declared.actor.Actor.{Actor}
use Rattle.wave_machine.specs.declared.listed.Listed.{Listed}
use Rattle.wave_machine.specs.declared.listed.Seen.{Seen}
use Rattle.wave_effects.specs.declared.prepared.Prepared.{Prepared}
use Rattle.wave_machine.specs.declared.ready.Ready.{Ready}
use Rattle.wave_effects.specs.Keeping.{kept_of}
use Rattle.wave_effects.specs.Machines.{Kept, Stands, TheState}
use Rattle.wave_effects.specs.Apart.{Moves, new_cells}
use Rattle.wave_effects.specs.Sized.{IsNumbered}
use Rattle.wave_machine.specs.inner.Asking.{mail_labels}
use Rattle.wave_machine.specs.inner.Done.{AreDone}
use Rattle.wave_machine.specs.inner.Index.{act_number, asks_at, is_enter, IsIndex, share_at, weight_of, sent_at, HasRoom}

abbrev pub next_of : Option Entry → Option ℕ
next_of None = None
next_of (Some e) = option_map (λ c. c.ticket) (next_in (entry_of e))

abbrev pub next_at : Path → Option Stores → Option ℕ
next_at p None = None
next_at p (Some st) = next_of (table.get st.store p)

abbrev pub has_at : Path → Option Stores → Bool
has_at p None = false
has_at p (Some st) = has p st

pub record Sees (m : Kept) (host t : ℕ) (p : Path) (seen : Seen) : Type 0 where
  pub next : option_map (λ t. t.0) seen.next ≡ next_at p (slice_get m.stores host)
  pub here : seen.here ≡ has_at p (slice_get m.stores host)
  pub share : seen.share ≡ share_at m t
  pub sent : seen.sent ≡ sent_at m t
  pub asked : seen.asked ≡ asks_at m t

-- The ticket's cell has the mails that it had, but for that of the label, as a listing reads them; and it has sent no fewer.
pub record KeepsMails (m m' : Kept) (l : Label) : Type 0 where
  pub kept : (i : ℕ) (c c' : Cell Actor) → m.first + i ≡ ticket_of l.act → slice_get m.cells i ≡ Some c → slice_get m'.cells i ≡ Some c'
      → (j : ℕ) → j ≤ c.outbox.sent → j ≢ act_number l.act → (stores : List Stores) → mail_labels stores 0 (ticket_of l.act) j (mail_in c'.outbox.mails j) ≡ mail_labels stores 0 (ticket_of l.act) j (mail_in c.outbox.mails j)
  pub enter : (i : ℕ) (c c' : Cell Actor) → m.first + i ≡ ticket_of l.act → slice_get m.cells i ≡ Some c → slice_get m'.cells i ≡ Some c'
      → (j : ℕ) → j ≤ c.outbox.sent → j ≢ act_number l.act → (h : ℕ) (p : Path) → is_enter h p (mail_in c'.outbox.mails j) ≡ is_enter h p (mail_in c.outbox.mails j)
  pub sent : (i : ℕ) (c c' : Cell Actor) → m.first + i ≡ ticket_of l.act → slice_get m.cells i ≡ Some c → slice_get m'.cells i ≡ Some c' → c.outbox.sent ≤ c'.outbox.sent
  pub number : act_number l.act ≤ sent_at m (ticket_of l.act)

-- by it a context may be born
abbrev pub is_queue : Act → Bool
is_queue (Queue t k p) = true
is_queue _ = false

-- No host has the context, and none has a mark for it; each Enter to it has followed none, and nobody is ready there.
pub record IsNowhere (m : Kept) (p : Path) : Type 0 where
  pub away : (h : ℕ) → has_at p (slice_get m.stores h) ≡ false
  pub unmarked : (h : ℕ) (st : Stores) → slice_get m.stores h ≡ Some st → table.get st.gone p ≡ None
  pub enters : (i k : ℕ) (c : Cell Actor) (e : Envelope) (number followed : ℕ) (peek : Bool) → slice_get m.cells i ≡ Some c → mail_in c.outbox.mails k ≡ Some e → e.path ≡ p → e.letter ≡ letter.Enter number followed peek → followed ≡ 0
  pub none_ready : (i : ℕ) (c : Cell Actor) → slice_get m.cells i ≡ Some c → c.status ≡ status.Ready p → ⊥

-- no other host has the label's context, and no other ticket is ready there
pub record IsAlone (m : Kept) (l : Label) : Type 0 where
  pub elsewhere : (h : ℕ) → h ≢ l.host → has_at (path_of l.act) (slice_get m.stores h) ≡ false
  pub none_ready : (i : ℕ) (c : Cell Actor) → m.first + i ≢ ticket_of l.act → slice_get m.cells i ≡ Some c → c.status ≡ status.Ready (path_of l.act) → ⊥

-- A label was taken, before which so much was seen. A Queue leaves its context where it is, or the context was nowhere; where it comes
-- or goes, it is here alone.
pub record Taken (m m' : Kept) (l : Label) (seen : Seen) (more : ℕ) : Type 0 where
  pub stands : (start : Start) × (s : TheState) × Stands m' start s
  pub moves : Moves m m' l more
  pub mails : KeepsMails m m' l
  pub numbered : (i : ℕ) (c : Cell Actor) → slice_get m.cells i ≡ Some c → IsNumbered c.outbox
  pub grows : new_cells l.act ≡ 1 → ticket_of l.act ≡ m.first + length m.cells
  pub sees : Sees m l.host (ticket_of l.act) (path_of l.act) seen
  pub born : is_queue l.act ≡ true → (has_at (path_of l.act) (slice_get m'.stores l.host) ≡ has_at (path_of l.act) (slice_get m.stores l.host)) ⊎ IsNowhere m (path_of l.act)
  pub alone : has_at (path_of l.act) (slice_get m'.stores l.host) ≢ has_at (path_of l.act) (slice_get m.stores l.host) → IsAlone m l

-- and the list is still that of what was kept before
pub record Updating (m : Kept) (x : Listed) (l : Label) (seen : Seen) (more : ℕ) : Type 0 where
  pub taken : Taken m (kept_of x.engine) l seen more
  pub index : IsIndex m x.index.items
  pub done : AreDone (kept_of x.engine) x.done
  pub weight : weight_of m.cells ≤ x.weight
  pub room : HasRoom x more

-- more room was made, and else nothing
pub record SameList (x y : Listed) : Type 0 where
  pub engine : y.engine ≡ x.engine
  pub items : y.index.items ≡ x.index.items
  pub done : y.done ≡ x.done
  pub weight : y.weight ≡ x.weight
  pub len : vec_len y.index ≡ vec_len x.index
  pub capacity : vec_capacity x.index ≤ vec_capacity y.index

-- room for the label for which a machine is reserved
abbrev pub RoomFor : Listed → Option (program.Label × Prepared) → Type 0
RoomFor x None = Unit {0}
RoomFor x (Some p) = HasRoom x 0

-- one of them; none where there is none
abbrev pub IsPickOf : List Ready → Option Ready → Type 0
IsPickOf xs None = xs ≡ []
IsPickOf xs (Some x) = IsIn xs x
