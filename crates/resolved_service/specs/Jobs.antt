-- What the jobs of a script mean: each one whole, on a tree.
use Rattle.std.specs.Prelude.{ℕ, List, [], ◌∷◌, map, filter, slice_get, Option, Some, None, if◌then◌else◌}
use Rattle.wave_base.specs.declared.limits.TheConstants.{TICKS}
use Rattle.wave_base.specs.declared.call.Call.{Call}
use Rattle.wave_base.specs.declared.numbers.Host.{Host}
use Rattle.wave_base.specs.declared.outcome.EventResult.{EventResult}
use Rattle.wave_base.specs.declared.outcome.Outcome.{Outcome}
use Rattle.wave_base.specs.declared.outcome.Outcome.TheVariants as out
use Rattle.wave_base.specs.declared.path.Path.{Path}
use Rattle.wave_base.specs.declared.shot.Shot.{Shot}
use Rattle.wave_base.specs.declared.value.Value.{Value}
use Rattle.wave_base.specs.Fold.{Ran}
use Rattle.wave_base.specs.Tree.{Tree, there, shots}
use Rattle.resolved_service.specs.declared.service.Event.{Event}
use Rattle.resolved_service.specs.declared.service.Resolved.{Resolved}
use Rattle.resolved_service.specs.Meaning as m
use Rattle.resolved_service.specs.World.{World}

-- an event begins at the root, which it has entered and holds
abbrev pub first_world : ℕ → Tree (List Value) → World
first_world generation tree = record {
  generation = generation;
  tree = tree;
  ticks = TICKS;
  entered = [] ∷ [];
  held = [] ∷ [];
  messages = [];
  created = [];
  changes = 0;
}

-- what a job does, and how often it changes its place
pub record Meant : Type 0 where
  pub ran : Ran (List Value) EventResult
  pub changes : ℕ

abbrev pub outcome_of_reply : Option Value → Outcome
outcome_of_reply None = out.Done
outcome_of_reply (Some x) = out.Reply x

abbrev pub event_end : Option Value → World → Meant
event_end reply w = record {
  ran = record { tree = w.tree; result = record { outcome = outcome_of_reply reply; messages = w.messages; created = w.created }; entered = w.entered };
  changes = w.changes;
}

-- where it traps, its changes stay, and what it sends and creates is dropped
abbrev pub meant_by : m.Outcome (Option Value) → Meant
meant_by (m.Done reply st) = event_end reply st.world
meant_by (m.Left (m.Returned reply) st) = event_end reply st.world
meant_by (m.Left (m.Finished reply) st) = event_end reply st.world
meant_by (m.Trapped k at w) = record {
  ran = record { tree = w.tree; result = record { outcome = out.Trapped (record { kind = k; at = at }); messages = []; created = [] }; entered = w.entered };
  changes = w.changes;
}

abbrev pub only : Outcome → EventResult
only outcome = record { outcome = outcome; messages = []; created = [] }

abbrev pub meant_event : Resolved → Option Event → Call → Tree (List Value) → Meant
meant_event service None call tree = record { ran = record { tree = tree; result = only out.Done; entered = [] }; changes = 0 }
meant_event service (Some e) call tree = meant_by (m.event_run service.methods TICKS e call.args (first_world call.generation tree))

-- a call of an event, whole
unfoldable pub call_meaning : Resolved → Tree (List Value) → Call → Meant
call_meaning service tree call = meant_event service (slice_get service.events call.event) call tree

-- a path, and all above it, from the root
abbrev pub fronts : Path → List Path
fronts [] = [] ∷ []
fronts (s ∷ p) = [] ∷ map (λ q. s ∷ q) (fronts p)

abbrev pub shot_of : Path × List Value → Shot
shot_of x = record { path = x.0; fields = x.1 }

-- a move enters what is there of its path and leaves the tree as it is
abbrev pub move_ran : Tree (List Value) → Path → Host → Ran (List Value) EventResult
move_ran tree p h = record { tree = tree; result = only (if there tree p then out.Moved p h else out.Absent p); entered = filter (there tree) (fronts p) }

-- a snapshot enters all contexts and leaves the tree as it is
abbrev pub snapshot_ran : Tree (List Value) → Ran (List Value) EventResult
snapshot_ran tree = record { tree = tree; result = only (out.Shots (map shot_of (shots tree))); entered = tree.paths }
