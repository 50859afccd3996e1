-- What a finished state of a plan has to tell.
use Rattle.std.specs.Prelude.{◌≡◌, ◌+◌, ◌-◌, ℕ, if◌then◌else◌, true, List, length, map, Some, is_some, slice_get, All}
use Rattle.std.specs.List.{list_any}
use Rattle.std.specs.List.Sorted.{IsStrictlySortedBy}
use Rattle.wave_base.specs.declared.finished.Finished.{Finished}
use Rattle.wave_base.specs.declared.finished.Place.{Place}
use Rattle.wave_base.specs.declared.outcome.EventResult.{EventResult}
use Rattle.wave_base.specs.declared.path.Path.{Path}
use Rattle.wave_base.specs.declared.script.Line.{Line}
use Rattle.wave_base.specs.declared.shot.Shot.{Shot}
use Rattle.wave_base.specs.declared.start.Start.{Start}
use Rattle.wave_base.specs.Fold.{first_head, created_tickets, created_lines}
use Rattle.wave_base.specs.Paths.{path_eq, path_cmp}
use Rattle.script_fold.specs.Lines.{name_of}
use Rattle.script_fold.specs.Runs.{ticket_of}
use Rattle.wave_states.specs.Begins.{is_root}
use Rattle.wave_states.specs.States.{State, Entry, Record}
use Rattle.code_actor.specs.CodeActors.{Fields}
use Rattle.plan_actors.specs.PlanActors.{Actor}

abbrev pub path_of : Place → Path
path_of x = x.path

abbrev pub path_shot : Shot → Path
path_shot x = x.path

module _ (s : State Actor Fields EventResult Line) where
  -- the host's store has the context
  abbrev pub IsOn : Path → ℕ → Type 0
  IsOn p host = is_some ((s.columns p).store host) ≡ true

  -- a context that is there, with its fields
  pub record IsShot (x : Shot) : Type 0 where
    pub host : ℕ
    pub entry : Entry Fields
    pub body : Record Fields
    pub stored : (s.columns x.path).store host ≡ Some entry
    pub home : entry.body ≡ Some body
    pub fields : x.fields ≡ body.fields

  -- a load of a context that is there: what was served since the Start, before which the tickets up to then count at the root
  pub record IsLoad (start : Start) (p : Path) (load : ℕ) : Type 0 where
    pub host : ℕ
    pub entry : Entry Fields
    pub stored : (s.columns p).store host ≡ Some entry
    pub served : entry.served ≡ (if is_root p then start.next.0 - 1 else 0) + load

  -- Of a run from a Start with these batches: the results of the committed tickets, in order; the tickets of what they created; the
  -- numbers of the events; in path order the contexts that are there, each with the host that has it, with its fields, and with its load.
  pub record Tells (start : Start) (batches : List (List Line)) (f : Finished) : Type 0 where
    pub count : length f.results ≡ s.head.done
    pub results : (i : ℕ) (r : EventResult) → slice_get f.results i ≡ Some r → (s.cells (start.next.0 + i)).result ≡ Some r
    pub made_is : f.made ≡ map (map ticket_of) (created_tickets start.next.0 (first_head batches) (map created_lines f.results))
    pub names : f.names ≡ map name_of s.head.known
    pub ordered : IsStrictlySortedBy path_cmp (map path_of f.places)
    pub all_there : (p : Path) (host : ℕ) → IsOn p host → list_any (path_eq p) (map path_of f.places) ≡ true
    pub places : All (λ (x : Place). IsOn x.path x.host.0) f.places
    pub same_paths : map path_shot f.shots ≡ map path_of f.places
    pub shots : All IsShot f.shots
    pub as_many : length f.loads ≡ length f.places
    pub loads : (i : ℕ) (x : Place) (load : ℕ) → slice_get f.places i ≡ Some x → slice_get f.loads i ≡ Some load → IsLoad start x.path load
