-- Whole events: what they enter and hold on their way down, and what is left of them where they end or trap.
use Rattle.std.proofs.Common.{◌≡◌, ℕ, List, [], ◌∷◌, Option, Some, None, refl, Vec, Global}
use Rattle.std.specs.Prelude.{replicate, take, drop}
use Rattle.wave_base.specs.declared.call.Call.{Call}
use Rattle.wave_base.specs.declared.call.Message.{Message}
use Rattle.wave_base.specs.declared.outcome.Outcome.TheVariants as out
use Rattle.wave_base.specs.declared.path.Path.{Path}
use Rattle.wave_base.specs.declared.shot.Shot.{Shot}
use Rattle.wave_base.specs.declared.trap.TrapKind.TheVariants as trap
use Rattle.wave_base.specs.declared.value.Value.{Value}
use Rattle.wave_base.specs.Tree as t
use Rattle.wave_base.specs.Tree.{shots}
use Rattle.value_ops.specs.Operators.{operators, apply_row}
use Rattle.resolved_service.specs.Jobs.{first_world, Meant, meant_by, call_meaning, only, move_ran, snapshot_ran}
use Rattle.resolved_service.specs.Meaning.{Outcome, Done, Trapped, Left, Returned, Finished, call_act, phases_run, event_run}
use Rattle.resolved_service.specs.World.{World, read_field, read_above, set_field, entering, sending, spawning}
use Rattle.tests_definitions.proofs.Market.{at, num, hall, stall, first_tree, service, buy, fall, leave, methods}

abbrev call : ℕ → ℕ → List Value → Call
call event generation args = record { event = event; args = args; generation = generation }

abbrev message : ℕ → Message
message n = record { label = 97 ∷ []; value = num n }

abbrev world_of : Outcome (Option Value) → World
world_of (Done r st) = st.world
world_of (Trapped k s w) = w
world_of (Left (Returned r) st) = st.world
world_of (Left (Finished r) st) = st.world

module _ (room : Vec (Unit {0}) Global) where
  -- ---- down, from context to context

  -- with forty ticks
  abbrev bought : Outcome (Option Value)
  bought = event_run (methods room) 40 (buy room) (num 1 ∷ num 4 ∷ []) (record (first_world 0 first_tree) { ticks = 40 })

  -- The call at the root enters hall 9 and its stalls 7 and 8; then hall 1, and from there stall 8 of it by a call; and then the stall that the hall's
  -- count, 20 + 4, tells when it is asked. All paths in that order.
  bought_enters : (world_of bought).entered ≡ [] ∷ hall 9 ∷ stall 9 7 ∷ stall 9 8 ∷ hall 1 ∷ stall 1 8 ∷ stall 1 24 ∷ []
  unfolding apply_row operators read_field read_above set_field entering sending call_act
  bought_enters = refl

  -- in the end it holds the last one alone
  bought_holds : (world_of bought).held ≡ stall 1 24 ∷ []
  unfolding apply_row operators read_field read_above set_field entering sending call_act
  bought_holds = refl

  -- its local was 96 and 49 before: the reply is what the last call gave, 50 - 4, and the field of the context where the event is by then
  bought_replies : (meant_by bought).ran.result ≡ record { outcome = out.Reply (num 92); messages = message 24 ∷ []; created = [] }
  unfolding apply_row operators read_field read_above set_field entering sending call_act
  bought_replies = refl

  bought_leaves : shots (meant_by bought).ran.tree ≡ ([], num 1 ∷ []) ∷ (hall 1, num 24 ∷ []) ∷ (stall 1 8, num 49 ∷ []) ∷ (stall 1 24, num 46 ∷ []) ∷ (hall 9, num 20 ∷ []) ∷ (stall 9 7, num 49 ∷ []) ∷ (stall 9 8, num 47 ∷ []) ∷ []
  unfolding apply_row operators read_field read_above set_field entering sending call_act
  bought_leaves = refl

  -- two for each of four calls, and one for each of two downs
  bought_changes : (meant_by bought).changes ≡ 10
  unfolding apply_row operators read_field read_above set_field entering sending call_act
  bought_changes = refl

  -- a tick for each of five calls, and none for a down
  bought_ticks : (world_of bought).ticks ≡ 35
  unfolding apply_row operators read_field read_above set_field entering sending call_act
  bought_ticks = refl

  -- After one down: the root and hall 9 with its stalls are given up, and then stall 8 is held beside the hall that called it. So what a down
  -- releases is released before its body runs, and after its own context was entered.
  abbrev first_down : Outcome (Option Value)
  first_down = event_run (methods room) 40 (record (buy room) { phases = take 1 (buy room).phases; last = None }) (num 1 ∷ num 4 ∷ []) (record (first_world 0 first_tree) { ticks = 40 })

  first_holds : (world_of first_down).held ≡ hall 1 ∷ stall 1 8 ∷ []
  unfolding apply_row operators read_field read_above set_field entering sending call_act
  first_holds = refl

  -- the key of the second down is read at the hall, and its trap would stand there: with count 20 it is stall 20
  abbrev from_hall : ℕ → World → Outcome (Option Value)
  from_hall n w = phases_run (call_act (methods room) n) n (drop 1 (buy room).phases) None (hall 1) (record { locals = num 1 ∷ num 4 ∷ num 0 ∷ []; world = w })

  key_at_hall : (world_of (from_hall 9 (record (first_world 0 first_tree) { ticks = 9; entered = [] ∷ hall 1 ∷ []; held = hall 1 ∷ [] }))).entered ≡ [] ∷ hall 1 ∷ stall 1 20 ∷ []
  unfolding apply_row operators read_field read_above set_field entering sending call_act
  key_at_hall = refl

  -- where 256 are entered it traps where the down stands, and nothing is given up
  abbrev no_way_down : Outcome (Option Value)
  no_way_down = from_hall 9 (record (first_world 0 first_tree) { ticks = 9; entered = replicate 256 []; held = [] ∷ hall 1 ∷ [] })

  traps_at_down : (meant_by no_way_down).ran.result.outcome ≡ out.Trapped (record { kind = trap.Reach; at = at 20 })
  unfolding read_field entering call_act
  traps_at_down = refl

  holds_as_before : (world_of no_way_down).held ≡ [] ∷ hall 1 ∷ []
  unfolding read_field entering call_act
  holds_as_before = refl

  -- a context that is held is gone into without being entered again
  into_held : (world_of (from_hall 9 (record (first_world 0 first_tree) { ticks = 9; entered = [] ∷ hall 1 ∷ stall 1 20 ∷ []; held = hall 1 ∷ stall 1 20 ∷ [] }))).entered ≡ [] ∷ hall 1 ∷ stall 1 20 ∷ []
  unfolding apply_row operators read_field read_above set_field entering sending call_act
  into_held = refl

  -- ---- where it traps

  -- The fields that it set stay, and what it entered; the message that it sent and the call that it created are dropped.
  abbrev fell : Outcome (Option Value)
  fell = event_run (methods room) 40 (fall room) (num 2 ∷ []) (first_world 0 first_tree)

  fell_kept : (world_of fell).messages ≡ message 2 ∷ []
  unfolding read_field set_field entering sending spawning
  fell_kept = refl

  fell_created : (world_of fell).created ≡ call 3 1 (num 2 ∷ []) ∷ []
  unfolding read_field set_field entering sending spawning
  fell_created = refl

  fell_gives : (meant_by fell).ran.result ≡ record { outcome = out.Trapped (record { kind = trap.Require; at = at 54 }); messages = []; created = [] }
  unfolding read_field set_field entering sending spawning
  fell_gives = refl

  fell_leaves : shots (meant_by fell).ran.tree ≡ ([], num 2 ∷ []) ∷ (hall 2, num 2 ∷ []) ∷ []
  unfolding read_field set_field entering sending spawning
  fell_leaves = refl

  fell_enters : (meant_by fell).ran.entered ≡ [] ∷ hall 2 ∷ []
  unfolding read_field set_field entering sending spawning
  fell_enters = refl

  fell_changes : (meant_by fell).changes ≡ 1
  unfolding read_field set_field entering sending spawning
  fell_changes = refl

  -- ---- where it ends

  -- it finishes in its first part: its value is the reply, and what it sent and created stays
  abbrev left : Outcome (Option Value)
  left = event_run (methods room) 40 (leave room) (num 2 ∷ []) (first_world 3 first_tree)

  left_gives : (meant_by left).ran.result ≡ record { outcome = out.Reply (num 7); messages = message 2 ∷ []; created = call 3 4 (num 2 ∷ []) ∷ [] }
  unfolding read_field set_field entering sending spawning
  left_gives = refl

  -- what stands behind is left out: the field, and the way down
  left_leaves : shots (meant_by left).ran.tree ≡ ([], num 0 ∷ []) ∷ []
  unfolding read_field set_field entering sending spawning
  left_leaves = refl

  -- an event of generation 4 creates nothing, and what it sent before is dropped too
  left_last : (meant_by (event_run (methods room) 40 (leave room) (num 2 ∷ []) (first_world 4 first_tree))).ran.result ≡ only (out.Trapped (record { kind = trap.Generation; at = at 62 }))
  unfolding read_field set_field entering sending spawning
  left_last = refl

  -- without a value it is done; a value is the reply
  done : (meant_by (Done None (record { locals = []; world = first_world 0 first_tree }))).ran.result ≡ only out.Done
  done = refl

  finished : (meant_by (Left (Finished None) (record { locals = []; world = first_world 0 first_tree }))).ran.result ≡ only out.Done
  finished = refl

  returned : (meant_by (Left (Returned (Some (num 6))) (record { locals = []; world = first_world 0 first_tree }))).ran.result ≡ only (out.Reply (num 6))
  returned = refl

  -- ---- by a call

  -- it has entered the root and holds it, and has 100,000 ticks; its locals behind the arguments are blank
  abbrev added : Meant
  added = call_meaning (service room) (record { paths = [] ∷ hall 1 ∷ []; fields = λ p. num 40 ∷ [] }) (call 3 2 (num 2 ∷ []))

  added_gives : added.ran.result ≡ only out.Done
  unfolding apply_row operators read_field set_field call_meaning
  added_gives = refl

  added_enters : added.ran.entered ≡ [] ∷ []
  unfolding apply_row operators read_field set_field call_meaning
  added_enters = refl

  added_leaves : shots added.ran.tree ≡ ([], num 42 ∷ []) ∷ (hall 1, num 40 ∷ []) ∷ []
  unfolding apply_row operators read_field set_field call_meaning
  added_leaves = refl

  -- the call's generation is the event's: of generation 4 it creates nothing
  of_last_generation : (call_meaning (service room) first_tree (call 2 4 (num 2 ∷ []))).ran.result ≡ only (out.Trapped (record { kind = trap.Generation; at = at 62 }))
  unfolding read_field set_field entering sending spawning call_meaning
  of_last_generation = refl

  -- a number that no event has does nothing, and enters nothing
  no_event : (call_meaning (service room) first_tree (call 9 0 [])).ran.entered ≡ []
  unfolding call_meaning
  no_event = refl

-- ---- moves and snapshots

abbrev tree : t.Tree (List Value)
tree = record { paths = [] ∷ hall 1 ∷ stall 1 7 ∷ hall 2 ∷ []; fields = first_tree.fields }

-- a move enters its path from the root on; one of what is not there enters what is there of it
moves : (move_ran tree (stall 1 7) (record { 0 = 2 })).entered ≡ [] ∷ hall 1 ∷ stall 1 7 ∷ []
moves = refl

moves_to : (move_ran tree (stall 1 7) (record { 0 = 2 })).result ≡ only (out.Moved (stall 1 7) (record { 0 = 2 }))
moves_to = refl

misses : (move_ran tree (stall 2 7) (record { 0 = 2 })).entered ≡ [] ∷ hall 2 ∷ []
misses = refl

misses_it : (move_ran tree (stall 2 7) (record { 0 = 2 })).result ≡ only (out.Absent (stall 2 7))
misses_it = refl

-- a snapshot enters all, and tells all fields in path order
shows : (snapshot_ran tree).entered ≡ [] ∷ hall 1 ∷ stall 1 7 ∷ hall 2 ∷ []
shows = refl

abbrev shot : Path → ℕ → Shot
shot p n = record { path = p; fields = num n ∷ [] }

shows_fields : (snapshot_ran tree).result ≡ only (out.Shots (shot [] 0 ∷ shot (hall 1) 20 ∷ shot (stall 1 7) 50 ∷ shot (hall 2) 20 ∷ []))
shows_fields = refl
