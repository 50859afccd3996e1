-- What an event does to the tree and to the outside, step by step.
use Rattle.std.proofs.Common.{◌≡◌, ℕ, Bool, true, false, List, [], ◌∷◌, pos, negsuc, refl}
use Rattle.std.specs.Prelude.{replicate, map, Ok, Err, is_ok}
use Rattle.wave_base.specs.declared.call.Call.{Call}
use Rattle.wave_base.specs.declared.call.Message.{Message}
use Rattle.wave_base.specs.declared.path.Path.{Path}
use Rattle.wave_base.specs.declared.path.Step.{Step}
use Rattle.wave_base.specs.declared.trap.TrapKind.TheVariants as trap
use Rattle.wave_base.specs.declared.value.Value.{Value}
use Rattle.wave_base.specs.declared.value.Value.TheVariants as v
use Rattle.resolved_service.specs.World.{World, is_true, child, ticking, after_change, entering, releasing, sending, spawning, read_field, read_above, set_field}

abbrev num : ℕ → Value
num n = v.Int (pos n)

abbrev step : ℕ → ℕ → Step
step c k = record { class = record { 0 = c }; key = pos k }

abbrev hall : ℕ → Path
hall n = step 1 n ∷ []

abbrev stall : ℕ → ℕ → Path
stall n k = step 1 n ∷ step 2 k ∷ []

abbrev number_at : Path → List Value
number_at [] = num 40 ∷ num 41 ∷ []
number_at (s ∷ []) = num 50 ∷ num 51 ∷ []
number_at (s ∷ r ∷ p) = num 60 ∷ num 61 ∷ []

abbrev message : ℕ → Message
message n = record { label = 97 ∷ []; value = num n }

abbrev call : ℕ → Call
call n = record { event = n; args = []; generation = 3 }

-- an event of generation 2 which has entered the root, two halls and a stall, and holds all but the second hall
abbrev world : World
world = record {
  generation = 2;
  tree = record { paths = [] ∷ hall 1 ∷ stall 1 7 ∷ hall 2 ∷ []; fields = number_at };
  ticks = 9;
  entered = [] ∷ hall 1 ∷ hall 2 ∷ stall 1 7 ∷ [];
  held = [] ∷ hall 1 ∷ stall 1 7 ∷ [];
  messages = message 1 ∷ [];
  created = call 1 ∷ [];
  changes = 5;
}

-- ---- values

-- a truth value that is true, and nothing else
truths : map is_true (v.Bool true ∷ v.Bool false ∷ num 1 ∷ v.Str (116 ∷ []) ∷ []) ≡ true ∷ false ∷ false ∷ false ∷ []
truths = refl

-- the child's step comes last, with its class and the key's number
child_of_hall : child (hall 1) 2 (num 7) ≡ stall 1 7
child_of_hall = refl

child_below_zero : child [] 1 (v.Int (negsuc 2)) ≡ record { class = record { 0 = 1 }; key = negsuc 2 } ∷ []
child_below_zero = refl

-- ---- ticks

-- one tick less, and nothing else
one_tick : ticking world ≡ Ok (record world { ticks = 8 })
one_tick = refl

last_tick : ticking (record world { ticks = 1 }) ≡ Ok (record world { ticks = 0 })
last_tick = refl

no_tick : ticking (record world { ticks = 0 }) ≡ Err trap.Ticks
no_tick = refl

-- ---- into a context

one_change : after_change world ≡ record world { changes = 6 }
one_change = refl

-- into one that is held: nothing is entered anew, but the place changes
into_held : entering (stall 1 7) world ≡ Ok (record world { changes = 6 })
unfolding entering
into_held = refl

-- into a new one: it joins the tree at its place in the order, and comes last of those that are entered and held
into_new : entering (stall 1 3) world ≡ Ok (record world {
  tree = record { paths = [] ∷ hall 1 ∷ stall 1 3 ∷ stall 1 7 ∷ hall 2 ∷ []; fields = number_at };
  entered = [] ∷ hall 1 ∷ hall 2 ∷ stall 1 7 ∷ stall 1 3 ∷ [];
  held = [] ∷ hall 1 ∷ stall 1 7 ∷ stall 1 3 ∷ [];
  changes = 6;
})
unfolding entering
into_new = refl

-- into one that is in the tree and was not entered: the tree stays
into_old : entering (hall 2) (record world { entered = [] ∷ []; held = [] ∷ [] }) ≡ Ok (record world { entered = [] ∷ hall 2 ∷ []; held = [] ∷ hall 2 ∷ []; changes = 6 })
unfolding entering
into_old = refl

-- at most 256 are entered: the 256th is, and the 257th is not
abbrev entered_before : ℕ → World
entered_before n = record world { entered = replicate n [] }

abbrev enters : ℕ → Path → Bool
enters n p = is_ok (entering p (entered_before n))

the_256th : enters 255 (stall 1 3) ≡ true
unfolding entering
the_256th = refl

the_257th : entering (stall 1 3) (entered_before 256) ≡ Err trap.Reach
unfolding entering
the_257th = refl

-- what is held can still be gone into
held_at_256 : enters 256 (hall 1) ≡ true
unfolding entering
held_at_256 = refl

-- ---- down for good

-- All that lies above the child, or beside it, is given up; the child and what lies below it stay held. And nothing else changes: what
-- was entered stays so, and the place has not changed.
down_gives_up : releasing (hall 1) (record world { held = [] ∷ hall 1 ∷ hall 2 ∷ stall 1 7 ∷ stall 2 7 ∷ [] }) ≡ record world { held = hall 1 ∷ stall 1 7 ∷ [] }
down_gives_up = refl

-- further down the hall is given up too
down_again : releasing (stall 1 7) world ≡ record world { held = stall 1 7 ∷ [] }
down_again = refl

-- of the root's subtree all stays
at_the_root : releasing [] world ≡ world
at_the_root = refl

-- ---- what is sent and created

-- behind those before it
sends : sending (98 ∷ []) (num 2) world ≡ Ok (record world { messages = message 1 ∷ record { label = 98 ∷ []; value = num 2 } ∷ [] })
unfolding sending
sends = refl

-- the 64th is sent, and the 65th is not
the_64th : is_ok (sending (98 ∷ []) (num 2) (record world { messages = replicate 63 (message 1) })) ≡ true
unfolding sending
the_64th = refl

the_65th : sending (98 ∷ []) (num 2) (record world { messages = replicate 64 (message 1) }) ≡ Err trap.Sends
unfolding sending
the_65th = refl

-- behind those before it, and a generation later than the event
creates : spawning 6 (num 2 ∷ []) world ≡ Ok (record world { created = call 1 ∷ record { event = 6; args = num 2 ∷ []; generation = 3 } ∷ [] })
unfolding spawning
creates = refl

-- the fourth is created, and the fifth is not
the_fourth : is_ok (spawning 6 [] (record world { created = call 1 ∷ call 2 ∷ call 3 ∷ [] })) ≡ true
unfolding spawning
the_fourth = refl

the_fifth : spawning 6 [] (record world { created = call 1 ∷ call 2 ∷ call 3 ∷ call 4 ∷ [] }) ≡ Err trap.Spawns
unfolding spawning
the_fifth = refl

-- an event of generation 3 creates one of generation 4, which creates none, however few it has created
last_generation : spawning 6 [] (record world { generation = 3; created = [] }) ≡ Ok (record world { generation = 3; created = record { event = 6; args = []; generation = 4 } ∷ [] })
unfolding spawning
last_generation = refl

none_later : spawning 6 [] (record world { generation = 4; created = [] }) ≡ Err trap.Generation
unfolding spawning
none_later = refl

-- the generation is told before the number
both_too_many : spawning 6 [] (record world { generation = 4; created = call 1 ∷ call 2 ∷ call 3 ∷ call 4 ∷ [] }) ≡ Err trap.Generation
unfolding spawning
both_too_many = refl

-- ---- fields

-- an own field, and those of the root, of the hall and of the stall itself, by their levels
own_field : read_field 1 (stall 1 7) world ≡ num 61
unfolding read_field
own_field = refl

by_level : read_above 0 1 (stall 1 7) world ∷ read_above 1 0 (stall 1 7) world ∷ read_above 2 0 (stall 1 7) world ∷ [] ≡ num 41 ∷ num 50 ∷ num 60 ∷ []
unfolding read_above read_field
by_level = refl

-- one field of one context changes
abbrev set : World
set = set_field 1 (num 9) (hall 1) world

fields_after : map (λ p. set.tree.fields p) ([] ∷ hall 1 ∷ hall 2 ∷ stall 1 7 ∷ []) ≡ (num 40 ∷ num 41 ∷ []) ∷ (num 50 ∷ num 9 ∷ []) ∷ (num 50 ∷ num 51 ∷ []) ∷ (num 60 ∷ num 61 ∷ []) ∷ []
unfolding set_field
fields_after = refl

paths_after : set.tree.paths ≡ world.tree.paths
unfolding set_field
paths_after = refl
