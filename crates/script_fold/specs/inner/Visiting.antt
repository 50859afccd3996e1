-- What is kept of hosts and loads, and what it stands for.
use Rattle.std.specs.Prelude.{◌≡◌, ◌≤◌, ◌+◌, ◌==◌, ℕ, suc, Bool, if◌then◌else◌, List, length, map, Option, is_some, unwrap_or, true, IfSome}
use Rattle.std.specs.BTreeMap.{is_at}
use Rattle.std.specs.List.{list_any}
use Rattle.std.specs.List.Sorted.{IsStrictlySortedBy}
use Rattle.std.specs.Map.{lookup, keys_of}
use Rattle.wave_base.specs.declared.finished.Place.{Place}
use Rattle.wave_base.specs.declared.numbers.Host.{Host}
use Rattle.wave_base.specs.declared.outcome.Outcome.{Outcome}
use Rattle.wave_base.specs.declared.path.Path.{Path}
use Rattle.wave_base.specs.Paths.{path_eq, path_cmp}
use Rattle.wave_base.specs.Places.{load_of, with_contexts, move_in}
use Rattle.wave_base.specs.Tree.{Tree, there}
use Rattle.script_fold.specs.declared.visits.Load.{Load}
use Rattle.script_fold.specs.declared.visits.Visits.{Visits}

-- what is kept at a path
abbrev pub value_at : {V : Type 0} → List (Path × V) → Path → Option V
value_at es p = lookup (is_at (path_cmp p)) es

-- host 0 stands for that of a context that is not there
abbrev pub host_at : List (Path × Host) → Path → Host
host_at hs p = unwrap_or (value_at hs p) (record { 0 = 0 })

abbrev pub no_load : Load
no_load = record { count = 0; last = 0 }

abbrev pub load_at : List (Path × Load) → Path → Load
load_at ls p = unwrap_or (value_at ls p) no_load

-- a job that enters counts once
abbrev pub with_job : ℕ → Load → Load
with_job job l = record { count = if l.last == job then l.count else l.count + 1; last = job }

abbrev pub place_in : Path × Host → Place
place_in e = record { path = e.0; host = e.1 }

-- the loads of all contexts
abbrev pub loads_in : Visits → List ℕ
loads_in v = map (λ e. (load_at v.loads.entries e.0).count) v.hosts.entries

-- of a context that jobs entered so often, and then a job that is under way or not: each job counts once
pub record IsSeen (jobs base : ℕ) (now : Bool) (l : Load) : Type 0 where
  pub count : l.count ≡ base + (if now then 1 else 0)
  pub mark : now ≡ (l.last == suc jobs)
  pub last : l.last ≤ suc jobs
  pub few : l.count ≤ l.last

-- earlier jobs entered these contexts, each its own, and a job that is under way entered those that stand in `now`
pub record IsVisited (hosts : Tree ℕ) (earlier : List (List Path)) (now : List Path) (v : Visits) : Type 0 where
  pub paths : keys_of v.hosts.entries ≡ hosts.paths
  pub sorted : IsStrictlySortedBy path_cmp hosts.paths
  pub host : (p : Path) → (host_at v.hosts.entries p).0 ≡ hosts.fields p
  pub seen : (p : Path) → IsSeen (length earlier) (load_of earlier p) (list_any (path_eq p) now) (load_at v.loads.entries p)
  -- a load is that of a context that is there, and some job entered it
  pub within : (p : Path) → is_some (value_at v.loads.entries p) ≡ true → there hosts p ≡ true
  pub entered : (p : Path) → is_some (value_at v.loads.entries p) ≡ true → 1 ≤ (load_at v.loads.entries p).count

-- a context that is told to be moved is there once these were entered
abbrev pub IsMoveWithin : Tree ℕ → List Path → Outcome → Type 0
IsMoveWithin hosts paths outcome = IfSome (move_in outcome) (λ m. there (with_contexts hosts paths) m.0 ≡ true)

-- each context stands once, in path order; a load is that of one of them, and some job entered it
pub record AreInOrder (v : Visits) : Type 0 where
  pub sorted : IsStrictlySortedBy path_cmp (keys_of v.hosts.entries)
  pub within : (p : Path) → is_some (value_at v.loads.entries p) ≡ true → is_some (value_at v.hosts.entries p) ≡ true
  pub entered : (p : Path) → is_some (value_at v.loads.entries p) ≡ true → 1 ≤ (load_at v.loads.entries p).count
