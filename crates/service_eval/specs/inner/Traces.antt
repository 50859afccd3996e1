-- What an event has done, as it is kept, and the state that it stands for.
use Rattle.std.specs.Prelude.{◌≡◌, List, Option, Result, Ok, Err}
use Rattle.wave_base.specs.declared.path.Path.{Path}
use Rattle.wave_base.specs.declared.span.Span.{Span}
use Rattle.wave_base.specs.declared.value.Value.{Value}
use Rattle.wave_base.specs.Tree.{Tree}
use Rattle.value_ops.specs.Kinds.{Answer}
use Rattle.resolved_service.specs.Meaning.{State, Leave, Returned, Finished, Outcome, Done, Trapped, Left}
use Rattle.resolved_service.specs.World.{World, after_change, entering}
use Rattle.service_eval.specs.declared.stop.Stop.{Stop}
use Rattle.service_eval.specs.declared.stop.Stop.TheVariants as stop
use Rattle.service_eval.specs.declared.trace.Trace.{Trace}

-- the world of an event on a tree; how often the event changed its place is not kept
abbrev pub world_of : Tree (List Value) → Trace → World
world_of tree t = record {
  generation = t.generation;
  tree = tree;
  ticks = t.ticks;
  entered = t.entered.items;
  held = t.held.items;
  messages = t.messages.items;
  created = t.created.items;
  changes = 0;
}

-- the same, but for how often the event changed its place
abbrev pub uncounted_world : World → World
uncounted_world w = record w { changes = 0 }

abbrev pub uncounted_outcome : {A : Type 0} → Outcome A → Outcome A
uncounted_outcome (Done a st) = Done a (record { locals = st.locals; world = uncounted_world st.world })
uncounted_outcome (Trapped k at w) = Trapped k at (uncounted_world w)
uncounted_outcome (Left l st) = Left l (record { locals = st.locals; world = uncounted_world st.world })

-- why nothing was done: a trap, and the world that it leaves, or want of memory, of which nothing is said
abbrev pub Traps : {A : Type 0} → Outcome A → Stop → World → Type 0
Traps out (stop.Trapped t) w = out ≡ Trapped t.kind t.at w
Traps out (stop.OutOfMemory _) w = Unit {0}
Traps out (stop.Ended _) w = ⊥

abbrev pub reply_of : Leave → Option Value
reply_of (Returned r) = r
reply_of (Finished r) = r

-- all is left out, with this reply and in this world, places uncounted
pub record Ends {A : Type 0} (out : Outcome A) (reply : Option Value) (w : World) : Type 0 where
  pub why : Leave
  pub state : State
  pub is : out ≡ Left why state
  pub replies : reply_of why ≡ reply
  pub leaves : state.world ≡ uncounted_world w

-- the same of a plain outcome, or the event was ended early
abbrev pub Fails : {A : Type 0} → Outcome A → Stop → World → Type 0
Fails out (stop.Trapped t) w = out ≡ Trapped t.kind t.at (uncounted_world w)
Fails out (stop.OutOfMemory _) w = Unit {0}
Fails out (stop.Ended reply) w = Ends out reply w

-- a change of the world, or its trap at a place, which leaves it
abbrev pub Changes : Answer World → Span → World → Result (Unit {0}) Stop → World → Type 0
Changes answer at before (Ok _) after = answer ≡ Ok after
Changes answer at before (Err (stop.Trapped t)) after = (answer ≡ Err t.kind) × (t.at ≡ at) × (after ≡ before)
Changes answer at before (Err (stop.OutOfMemory _)) after = Unit {0}
Changes answer at before (Err (stop.Ended _)) after = ⊥

-- a context is entered, which is a change of place; or a trap leaves the world
abbrev pub Enters : Path → World → Span → Result (Unit {0}) Stop → World → Type 0
Enters q before at (Ok u) after = Changes (entering q before) at before (Ok u) (after_change after)
Enters q before at (Err e) after = Changes (entering q before) at before (Err e) after
