-- What a label leaves as it is, as a listing reads it: all but the cell of its ticket, and what one host has of its context.
use Rattle.std.specs.Prelude.{◌≡◌, ◌≤◌, ◌+◌, ℕ, Bool, true, false, length, Some, option_map, slice_get}
use Rattle.std.specs.FinMap as table
use Rattle.wave_base.specs.declared.path.Path.{Path}
use Rattle.head_tickets.specs.Heads.{next_ticket}
use Rattle.commit_order.specs.Commits.{ready_result}
use Rattle.context_queue.specs.Entries.{entry_of}
use Rattle.host_map.specs.Stores.{Stores, has}
use Rattle.event_cells.specs.declared.cell.Cell.{Cell}
use Rattle.wave_states.specs.Labels.{Act, Label, Admit, Commit, Stop, ticket_of, path_of}
use Rattle.wave_effects.specs.declared.actor.Actor.{Actor}
use Rattle.wave_effects.specs.Machines.{Kept}

-- a cell asks for the same
pub record AsksAs (c c' : Cell Actor) : Type 0 where
  pub status : c'.status ≡ c.status
  pub sent : c'.outbox.sent ≡ c.outbox.sent
  pub mails : c'.outbox.mails ≡ c.outbox.mails

-- a store answers the same about a context
pub record AnswersAs (st st' : Stores) (q : Path) : Type 0 where
  pub entry : option_map entry_of (table.get st'.store q) ≡ option_map entry_of (table.get st.store q)
  pub mark : table.get st'.gone q ≡ table.get st.gone q

-- all cells but these, and all that hosts have of contexts but here
pub record LeavesOthers (m m' : Kept) (Own : ℕ → Type 0) (Here : ℕ → Path → Type 0) : Type 0 where
  pub first : m'.first ≡ m.first
  pub cells : (i : ℕ) (c c' : Cell Actor) → (Own (m.first + i) → ⊥) → slice_get m.cells i ≡ Some c → slice_get m'.cells i ≡ Some c' → AsksAs c c'
  pub as_many_stores : length m'.stores ≡ length m.stores
  pub stores : (h : ℕ) (q : Path) (st st' : Stores) → (Here h q → ⊥) → slice_get m.stores h ≡ Some st → slice_get m'.stores h ≡ Some st' → AnswersAs st st' q

-- what is made beforehand changes nothing that a listing reads
pub record AsksTheSame (m m' : Kept) : Type 0 where
  pub others : LeavesOthers m m' (λ t. ⊥) (λ h q. ⊥)
  pub as_many : length m'.cells ≡ length m.cells
  pub next : next_ticket m'.head ≡ next_ticket m.head
  pub ready : ready_result m'.commits ≡ ready_result m.commits
  pub settled : length m'.settled.results ≡ length m.settled.results

-- an Admit brings a cell
abbrev pub new_cells : Act → ℕ
new_cells (Admit t) = 1
new_cells _ = 0

-- a label on the head, and a Stop, which may leave a result, change what the head asks for
abbrev pub on_head : Act → Bool
on_head (Admit t) = true
on_head (Commit t) = true
on_head (Stop t p) = true
on_head _ = false

-- the head asks for the same
pub record HeadAsksTheSame (m m' : Kept) : Type 0 where
  pub next : next_ticket m'.head ≡ next_ticket m.head
  pub ready : ready_result m'.commits ≡ ready_result m.commits
  pub settled : length m'.settled.results ≡ length m.settled.results

-- A label changes the cell of its ticket, which has so many mails more at most, and what its host has of its context. The mark of
-- that stays where the context is away before and after; where it is there an Enter is delivered, whatever the mark says.
pub record Moves (m m' : Kept) (l : Label) (more : ℕ) : Type 0 where
  pub others : LeavesOthers m m' (λ t. t ≡ ticket_of l.act) (λ h q. (h ≡ l.host) × (q ≡ path_of l.act))
  pub as_many : length m'.cells ≡ new_cells l.act + length m.cells
  pub mails : (i : ℕ) (c c' : Cell Actor) → slice_get m.cells i ≡ Some c → slice_get m'.cells i ≡ Some c' → length c'.outbox.mails ≤ more + length c.outbox.mails
  pub new : (c' : Cell Actor) → slice_get m'.cells (length m.cells) ≡ Some c' → length c'.outbox.mails ≤ 1
  pub mark : (st st' : Stores) → slice_get m.stores l.host ≡ Some st → slice_get m'.stores l.host ≡ Some st' → has (path_of l.act) st ≡ false → has (path_of l.act) st' ≡ false
      → table.get st'.gone (path_of l.act) ≡ table.get st.gone (path_of l.act)
  pub head : on_head l.act ≡ false → HeadAsksTheSame m m'
