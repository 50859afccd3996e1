-- A call under way on a tree, as it is kept, and what stands before each of its segments.
use Rattle.std.specs.Prelude.{◌≡◌, ℕ, Bool, true, false, List, [], ◌∷◌, ◌++◌, Option}
use Rattle.wave_base.specs.declared.outcome.EventResult.{EventResult}
use Rattle.wave_base.specs.declared.path.Path.{Path}
use Rattle.wave_base.specs.declared.shape.Shape.{Shape}
use Rattle.wave_base.specs.Tree.{Tree, there, enter}
use Rattle.wave_base.specs.Trees.{FitsShape}
use Rattle.service_code.specs.declared.program.Program.{Program}
use Rattle.service_verify.specs.Copies.{Trip, next_trip}
use Rattle.service_verify.specs.Segments.{Event}
use Rattle.service_verify.specs.Standing.{Stands}
use Rattle.service_verify.specs.Tours.{Fields}
use Rattle.code_actor.specs.Locks.{Locks, holds, has_entered}
use Rattle.code_runner.specs.declared.walk.Walk.{Walk}

-- the event of a trip, with its copies
abbrev pub event_of : Trip → Event
event_of t = record { box = t.tour.box; levels = t.levels }

-- the trip that a call under way on a tree stands for, over with a result or not
abbrev pub trip_of : Walk → Tree Fields → Option EventResult → Trip
trip_of w tree result = record {
  tour = record { box = w.event.event.box; tree = tree; entered = w.entered.items; segments = w.segments; result = result };
  levels = w.event.event.levels;
}

-- The event stands where it runs, in a context that is there, on a tree of the shape; it has entered what it holds, and the
-- segment to come keeps the protocol of the tree.
pub record Walks (program : Program) (t : Trip) : Type 0 where
  pub path : Path
  pub calls : ℕ
  pub stands : Stands program path calls (event_of t)
  pub fits : FitsShape program.shape t.tour.tree
  pub here : there t.tour.tree path ≡ true
  pub known : (q : Path) → holds t.tour q ≡ true → has_entered t.tour q ≡ true
  pub locks : Locks t.tour (next_trip program t).tour

-- the paths and the tree once the event came into a context, which it had entered or enters now
abbrev pub paths_into : Bool → List Path → Path → List Path
paths_into true entered p = entered
paths_into false entered p = entered ++ p ∷ []

abbrev pub tree_into : Bool → Tree Fields → Path → Tree Fields
tree_into true tree p = tree
tree_into false tree p = enter tree p
