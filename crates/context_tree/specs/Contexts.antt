-- The tree of contexts as it is kept, and the tree that it stands for.
use Rattle.std.specs.Prelude.{◌<◌, ℕ, Bool, if◌then◌else◌, List, [], ◌∷◌, ◌++◌, length, map, Option, Some, None, IsSomeAnd, slice_set}
use Rattle.std.specs.FinMap as table
use Rattle.std.specs.List.{list_any}
use Rattle.std.specs.List.Sorted.{IsStrictlySortedBy}
use Rattle.std.specs.Map.{keys_of}
use Rattle.std.specs.Ordering.{match_ordering}
use Rattle.wave_base.specs.declared.path.Path.{Path}
use Rattle.wave_base.specs.declared.record.Record.{Record}
use Rattle.wave_base.specs.declared.shape.Shape.{Shape}
use Rattle.wave_base.specs.declared.shot.Shot.{Shot}
use Rattle.wave_base.specs.declared.value.Value.{Value}
use Rattle.wave_base.specs.Paths.{path_eq, path_cmp}
use Rattle.wave_base.specs.Starts.{shown_fields}
use Rattle.wave_base.specs.Tree.{Tree, put}

-- a finite map from paths to the values of fields: each context that is there, in path order; and the paths in the order in
-- which they joined
pub record Contexts : Type 0 where
  pub shots : List Shot
  pub joined : List Path

-- a context as it is kept at its path, without what it keeps of its children
abbrev pub shot_at : Path × Record → Shot
shot_at e = record { path = e.0; fields = e.1.fields }

-- what a map of records keeps, whose entries stand in the order in which they joined
abbrev pub in_order : List (Path × Record) → List (Path × Record)
in_order es = table.entries (table.from_entries {R = path_cmp} es)

abbrev pub contexts_of : List (Path × Record) → Contexts
contexts_of es = record { shots = map shot_at (in_order es); joined = keys_of es }

-- a path joins last, unless it is there
abbrev pub joins : List Path → Path → List Path
joins ps p = if list_any (path_eq p) ps then ps else ps ++ p ∷ []

abbrev pub as_pair : Shot → Path × List Value
as_pair s = (s.path, s.fields)

abbrev pub paths_of : Contexts → List Path
paths_of t = map (λ s. s.path) t.shots

abbrev pub is_there : Contexts → Path → Bool
is_there t p = list_any (path_eq p) (paths_of t)

-- the fields of a context that is there
abbrev pub fields_in : List Shot → Path → Option (List Value)
fields_in [] p = None
fields_in (s ∷ shots) p = if path_eq s.path p then Some s.fields else fields_in shots p

-- the context is there and has the field
abbrev pub HasField : Contexts → Path → ℕ → Type 0
HasField t p field = IsSomeAnd (fields_in t.shots p) (λ fields. field < length fields)

-- the tree that it stands for: what is not there has the initial fields of its class
abbrev pub tree_of : Shape → Contexts → Tree (List Value)
tree_of shape t = record { paths = paths_of t; fields = shown_fields shape t.shots }

-- one field of a context set
abbrev pub with_field : Tree (List Value) → Path → ℕ → Value → Tree (List Value)
with_field t p field value = put t p (slice_set (t.fields p) field value)

-- the contexts in path order, one of them with other fields
abbrev pub shots_with : Path → List Value → List Shot → List Shot
shots_with p fields [] = record { path = p; fields = fields } ∷ []
shots_with p fields (s ∷ shots) =
    match_ordering (path_cmp p s.path) (record { path = p; fields = fields } ∷ s ∷ shots) (record { path = s.path; fields = fields } ∷ shots) (s ∷ shots_with p fields shots)

-- a context that is there with other fields
abbrev pub with_fields : Contexts → Path → List Value → Contexts
with_fields t p fields = record { shots = shots_with p fields t.shots; joined = t.joined }

-- each context once, in path order
abbrev pub IsOrdered : List Shot → Type 0
IsOrdered shots = IsStrictlySortedBy path_cmp (map (λ s. s.path) shots)
