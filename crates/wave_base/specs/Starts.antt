-- What a run begins with.
use Rattle.std.specs.Prelude.{◌≡◌, ◌≤◌, ◌<◌, ℕ, true, if◌then◌else◌, List, [], ◌∷◌, length, map, All}
use Rattle.wave_base.specs.declared.limits.TheConstants.{START_CONTEXTS, START_TICKET}
use Rattle.wave_base.specs.declared.path.Path.{Path}
use Rattle.wave_base.specs.declared.finished.Place.{Place}
use Rattle.wave_base.specs.declared.shape.Shape.{Shape}
use Rattle.wave_base.specs.declared.shot.Shot.{Shot}
use Rattle.wave_base.specs.declared.start.Start.{Start}
use Rattle.wave_base.specs.declared.value.Value.{Value}
use Rattle.wave_base.specs.Paths.{path_eq}
use Rattle.wave_base.specs.Shapes.{fields_of_class, initial_fields}
use Rattle.wave_base.specs.Tree.{Tree, there}
use Rattle.wave_base.specs.Trees.{FitsShape}

-- the root alone with its initial values, on host 0, and ticket 1
abbrev pub first_start : Shape → Start
first_start shape = record {
  shots = record { path = []; fields = fields_of_class shape 0 } ∷ [];
  places = record { path = []; host = record { 0 = 0 } } ∷ [];
  next = record { 0 = 1 };
}

-- the fields that these shots show at a path, else those that it begins with
abbrev pub shown_fields : Shape → List Shot → Path → List Value
shown_fields shape [] p = initial_fields shape p
shown_fields shape (s ∷ shots) p = if path_eq s.path p then s.fields else shown_fields shape shots p

abbrev pub shown_host : List Place → Path → ℕ
shown_host [] p = 0
shown_host (x ∷ places) p = if path_eq x.path p then x.host.0 else shown_host places p

-- the tree that a run begins with
abbrev pub start_tree : Shape → Start → Tree (List Value)
start_tree shape start = record { paths = map (λ s. s.path) start.shots; fields = shown_fields shape start.shots }

-- the hosts of its contexts
abbrev pub start_places : Start → Tree ℕ
start_places start = record { paths = map (λ x. x.path) start.places; fields = shown_host start.places }

-- it fits a shape and a count of hosts
pub record IsStart (shape : Shape) (count : ℕ) (start : Start) : Type 0 where
  pub tree : FitsShape shape (start_tree shape start)
  pub root : there (start_tree shape start) [] ≡ true
  pub places : map (λ x. x.path) start.places ≡ map (λ s. s.path) start.shots
  pub hosts : All (λ (x : Place). x.host.0 < count) start.places
  pub few : length start.shots ≤ START_CONTEXTS
  pub first_next : 1 ≤ start.next.0
  pub last_next : start.next.0 ≤ START_TICKET
