-- The hosts of contexts: a tree whose fields are hosts. And how many jobs entered a context.
use Rattle.std.specs.Prelude.{ℕ, if◌then◌else◌, List, [], ◌∷◌, Option, Some, None, count_by}
use Rattle.std.specs.List.{list_any}
use Rattle.wave_base.specs.declared.path.Path.{Path}
use Rattle.wave_base.specs.declared.outcome.EventResult.{EventResult}
use Rattle.wave_base.specs.declared.outcome.Outcome.{Outcome}
use Rattle.wave_base.specs.declared.outcome.Outcome.TheVariants.{Moved}
use Rattle.wave_base.specs.Paths.{path_eq, parent_of}
use Rattle.wave_base.specs.Tree.{Tree, there, enter, put}

-- a context that joins the tree is on the host where its parent is
abbrev pub with_context : Tree ℕ → Path → Tree ℕ
with_context t p = if there t p then t else put (enter t p) p (t.fields (parent_of p))

abbrev pub with_contexts : Tree ℕ → List Path → Tree ℕ
with_contexts t [] = t
with_contexts t (p ∷ ps) = with_contexts (with_context t p) ps

-- a move sets its context's host, and no other's
abbrev pub with_move : Tree ℕ → Option (Path × ℕ) → Tree ℕ
with_move t None = t
with_move t (Some m) = put t m.0 m.1

-- after a job that entered these paths and moved a context, or none
abbrev pub after_job : Tree ℕ → List Path → Option (Path × ℕ) → Tree ℕ
after_job t entered moved = with_move (with_contexts t entered) moved

-- after several jobs, one after the other
abbrev pub places_after : Tree ℕ → List (List Path × Option (Path × ℕ)) → Tree ℕ
places_after t [] = t
places_after t (x ∷ xs) = places_after (after_job t x.0 x.1) xs

-- the move that an outcome tells
abbrev pub move_in : Outcome → Option (Path × ℕ)
move_in (Moved p h) = Some (p, h.0)
move_in _ = None

abbrev pub move_of : EventResult → Option (Path × ℕ)
move_of r = move_in r.outcome

-- how many of these jobs entered a context
abbrev pub load_of : List (List Path) → Path → ℕ
load_of entered p = count_by (list_any (path_eq p)) entered
