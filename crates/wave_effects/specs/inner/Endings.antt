-- What is collected in the end: of each context its place, its fields, and how often it was entered.
use Rattle.std.specs.Prelude.{◌≡◌, ◌≤◌, ◌+◌, ◌-◌, ℕ, true, if◌then◌else◌, is_some, List, [], length, Some, slice_get}
use Rattle.std.specs.FinMap as table
use Rattle.std.specs.List.{AllByRecursion}
use Rattle.wave_base.specs.declared.finished.Place.{Place}
use Rattle.wave_base.specs.declared.numbers.Host.{Host}
use Rattle.wave_base.specs.declared.path.Path.{Path}
use Rattle.wave_base.specs.declared.record.Record.{Record}
use Rattle.wave_base.specs.declared.shot.Shot.{Shot}
use Rattle.context_queue.specs.declared.entry.Entry.{Entry}
use Rattle.host_map.specs.Stores.{Stores, has}
use Rattle.wave_states.specs.Begins.{is_root}

-- the host's store has the context
pub record IsThere (stores : List Stores) (p : Path) (host : Host) : Type 0 where
  pub store : Stores
  pub stored : slice_get stores host.0 ≡ Some store
  pub has_it : has p store ≡ true

abbrev pub IsPlace : List Stores → Place → Type 0
IsPlace stores x = IsThere stores x.path x.host

abbrev pub AllThere : List Stores → List (Path × Host) → Type 0
AllThere stores es = AllByRecursion (λ e. IsThere stores e.0 e.1) es

abbrev pub placed_at : Path × Host → Place
placed_at e = record { path = e.0; host = e.1 }

-- its entry
pub record HasEntry (stores : List Stores) (x : Place) (e : Entry) : Type 0 where
  pub store : Stores
  pub stored : slice_get stores x.host.0 ≡ Some store
  pub entry : table.get store.store x.path ≡ Some e

-- each entry has its record
abbrev pub AreHome : List Stores → Type 0
AreHome stores = (h : ℕ) (x : Stores) (p : Path) (e : Entry) → slice_get stores h ≡ Some x → table.get x.store p ≡ Some e → is_some e.body ≡ true

-- the root counts the tickets before as served
abbrev pub AreServed : List Stores → ℕ → Type 0
AreServed stores first = (h : ℕ) (x : Stores) (e : Entry) → slice_get stores h ≡ Some x → table.get x.store [] ≡ Some e → first - 1 ≤ e.served

-- the fields of a context
pub record IsShotOf (stores : List Stores) (x : Place) (shot : Shot) : Type 0 where
  pub path : shot.path ≡ x.path
  pub entry : Entry
  pub there : HasEntry stores x entry
  pub body : Record
  pub home : entry.body ≡ Some body
  pub fields : shot.fields ≡ body.fields

-- how often it was entered
pub record IsLoadOf (stores : List Stores) (first : ℕ) (x : Place) (load : ℕ) : Type 0 where
  pub entry : Entry
  pub there : HasEntry stores x entry
  pub served : entry.served ≡ (if is_root x.path then first - 1 else 0) + load

-- as many, and one of each is of the other's
pub record Paired {X Y : Type 0} (R : X → Y → Type 0) (xs : List X) (ys : List Y) : Type 0 where
  pub count : length ys ≡ length xs
  pub each : (i : ℕ) (x : X) (y : Y) → slice_get xs i ≡ Some x → slice_get ys i ≡ Some y → R x y
