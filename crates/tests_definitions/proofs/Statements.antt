-- Statements and expressions that no example near the meaning has: what is above, loops, maps, what is created, and what is left out.
use Rattle.std.proofs.Common.{◌≡◌, ℕ, true, false, List, [], ◌∷◌, Option, Some, None, pos, refl}
use Rattle.wave_base.specs.declared.call.Call.{Call}
use Rattle.wave_base.specs.declared.path.Path.{Path}
use Rattle.wave_base.specs.declared.span.Span.{Span}
use Rattle.wave_base.specs.declared.trap.TrapKind.{TrapKind}
use Rattle.wave_base.specs.declared.trap.TrapKind.TheVariants as trap
use Rattle.wave_base.specs.declared.value.Value.{Value}
use Rattle.wave_base.specs.declared.value.Value.TheVariants as v
use Rattle.value_ops.specs.Operators.{operators, apply_row}
use Rattle.resolved_service.specs.Jobs.{first_world}
use Rattle.resolved_service.specs.Meaning.{Act, Outcome, Done, Trapped, Left, Returned, Finished, value, effects, while_turns}
use Rattle.resolved_service.specs.Steps.{Steps, no_steps, SetLocal, SetField, PutLocal, PutField, CutLocal, CutField, If, While, Require, Spawn, Return, Finish, Else, no_else, otherwise}
use Rattle.resolved_service.specs.Steps as s
use Rattle.resolved_service.specs.View.{Tree, Trees, no_trees, tree, Const, Local, Field, Above, Op, And, Or}
use Rattle.resolved_service.specs.World.{World, read_field, read_above, set_field, spawning}
use Rattle.tests_definitions.proofs.Market.{at, num, hall, stall}

abbrev number : ℕ → ℕ → Tree
number c n = Const (at c) (num n)

abbrev yes : Tree
yes = Const (at 90) (v.Bool true)

abbrev no : Tree
no = Const (at 90) (v.Bool false)

abbrev two : Tree → Tree → Trees
two a b = tree a (tree b no_trees)

abbrev by_zero : ℕ → Tree
by_zero c = Op (at c) 3 (two (number c 1) (number c 0))

abbrev just : s.Step → Steps
just x = s.step x no_steps

abbrev no_call : ℕ → Path → List Value → Act (Option Value)
no_call m p given st = Done None st

-- the root has 40 and a map, the hall 50 and a map, the stall 60 and a map: each with the keys 2 and 6
abbrev pairs : Value
pairs = v.Map ((pos 2, pos 20) ∷ (pos 6, pos 60) ∷ [])

abbrev fields_at : Path → List Value
fields_at [] = num 40 ∷ pairs ∷ []
fields_at (s ∷ []) = num 50 ∷ pairs ∷ []
fields_at (s ∷ r ∷ p) = num 60 ∷ pairs ∷ []

abbrev world : ℕ → World
world ticks = record (first_world 3 (record { paths = [] ∷ hall 1 ∷ stall 1 7 ∷ []; fields = fields_at })) { ticks = ticks }

-- what came of statements in the stall: the locals, the ticks left, the fields of the hall and the stall; or the trap, the ticks and the stall's fields
pub data Came : Type 0 where
  Ran : List Value → ℕ → List Value → List Value → Came
  Fell : TrapKind → Span → ℕ → List Value → Came
  Gave Ended : Option Value → ℕ → List Value → Came

abbrev came : {A : Type 0} → Outcome A → Came
came (Done x st) = Ran st.locals st.world.ticks (st.world.tree.fields (hall 1)) (st.world.tree.fields (stall 1 7))
came (Trapped k s w) = Fell k s w.ticks (w.tree.fields (stall 1 7))
came (Left (Returned r) st) = Gave r st.world.ticks (st.world.tree.fields (stall 1 7))
came (Left (Finished r) st) = Ended r st.world.ticks (st.world.tree.fields (stall 1 7))

-- so many ticks are left, and so many turns of a loop can follow
abbrev run : ℕ → Steps → List Value → Came
run ticks ss locals = came (effects no_call ticks (stall 1 7) ss (record { locals = locals; world = world ticks }))

-- ---- what is above

abbrev worth : Tree → Outcome Value
worth e = value no_call (stall 1 7) e (record { locals = []; world = world 9 })

abbrev value_of : Outcome Value → Value
value_of (Done x st) = x
value_of _ = v.Str []

-- by levels, the root's being 0: and not by how far it is up
from_root : value_of (worth (Above (at 1) 0 0)) ≡ num 40
unfolding read_above read_field
from_root = refl

from_hall : value_of (worth (Above (at 1) 1 0)) ≡ num 50
unfolding read_above read_field
from_hall = refl

own : value_of (worth (Field (at 1) 0)) ≡ num 60
unfolding read_field
own = refl

-- ---- what is left out of an expression

-- the right operand of `||` where the left one is true, and of `&&` where it is false
or_left : value_of (worth (Or (at 1) yes (by_zero 2))) ≡ v.Bool true
or_left = refl

or_right : value_of (worth (Or (at 1) no yes)) ≡ v.Bool true
or_right = refl

or_neither : value_of (worth (Or (at 1) no no)) ≡ v.Bool false
or_neither = refl

and_right : value_of (worth (And (at 1) yes no)) ≡ v.Bool false
and_right = refl

and_both : value_of (worth (And (at 1) yes yes)) ≡ v.Bool true
and_both = refl

and_traps : came (worth (And (at 1) yes (by_zero 2))) ≡ Fell trap.DivZero (at 2) 9 (num 60 ∷ pairs ∷ [])
unfolding apply_row operators
and_traps = refl

-- ---- loops: while i < 3 { i = i + 1; }

abbrev counts : Steps
counts = just (While (at 30) (Op (at 31) 9 (two (Local (at 31) 0) (number 32 3))) (just (SetLocal (at 33) 0 (Op (at 34) 0 (two (Local (at 34) 0) (number 35 1))))))

-- three turns, a tick each, and none for the test that is false
three_turns : run 9 counts (num 0 ∷ []) ≡ Ran (num 3 ∷ []) 6 (num 50 ∷ pairs ∷ []) (num 60 ∷ pairs ∷ [])
unfolding apply_row operators while_turns
three_turns = refl

no_turn : run 9 counts (num 3 ∷ []) ≡ Ran (num 3 ∷ []) 9 (num 50 ∷ pairs ∷ []) (num 60 ∷ pairs ∷ [])
unfolding apply_row operators while_turns
no_turn = refl

-- with as many ticks as turns it comes to its end
just_enough : run 3 counts (num 0 ∷ []) ≡ Ran (num 3 ∷ []) 0 (num 50 ∷ pairs ∷ []) (num 60 ∷ pairs ∷ [])
unfolding apply_row operators while_turns
just_enough = refl

-- with one fewer it traps where the loop stands
one_too_few : run 2 counts (num 0 ∷ []) ≡ Fell trap.Ticks (at 30) 0 (num 60 ∷ pairs ∷ [])
unfolding apply_row operators while_turns
one_too_few = refl

-- without any, a test that is false is no turn
none_needed : run 0 counts (num 3 ∷ []) ≡ Ran (num 3 ∷ []) 0 (num 50 ∷ pairs ∷ []) (num 60 ∷ pairs ∷ [])
unfolding apply_row operators while_turns
none_needed = refl

-- the tick comes before the body: the field is set by two turns and not by a third
abbrev sets : Steps
sets = just (While (at 30) yes (just (SetField (at 33) 0 (Op (at 34) 0 (two (Field (at 34) 0) (number 35 1))))))

tick_first : run 2 sets [] ≡ Fell trap.Ticks (at 30) 0 (num 62 ∷ pairs ∷ [])
unfolding apply_row operators while_turns read_field set_field
tick_first = refl

-- the test comes before the tick
test_first : run 0 (just (While (at 30) (Op (at 31) 9 (two (by_zero 31) (number 32 3))) no_steps)) [] ≡ Fell trap.DivZero (at 31) 0 (num 60 ∷ pairs ∷ [])
unfolding apply_row operators while_turns
test_first = refl

-- a `return` within leaves the loop and the method; a `finish` the event
returns : run 9 (s.step (While (at 30) yes (just (Return (at 33) (Some (number 34 4))))) (just (SetField (at 36) 0 (number 37 9)))) [] ≡ Gave (Some (num 4)) 8 (num 60 ∷ pairs ∷ [])
unfolding while_turns
returns = refl

finishes : run 9 (s.step (Finish (at 33) None) (just (SetField (at 36) 0 (number 37 9)))) [] ≡ Ended None 9 (num 60 ∷ pairs ∷ [])
finishes = refl

-- ---- either block, or none

abbrev either : Tree → Else → Steps
either test other = just (If (at 40) test (just (SetLocal (at 41) 0 (number 42 1))) other)

abbrev second : Else
second = otherwise (just (SetLocal (at 43) 0 (number 44 2)))

first_block : run 9 (either yes second) (num 0 ∷ []) ≡ Ran (num 1 ∷ []) 9 (num 50 ∷ pairs ∷ []) (num 60 ∷ pairs ∷ [])
first_block = refl

second_block : run 9 (either no second) (num 0 ∷ []) ≡ Ran (num 2 ∷ []) 9 (num 50 ∷ pairs ∷ []) (num 60 ∷ pairs ∷ [])
second_block = refl

no_block : run 9 (either no no_else) (num 0 ∷ []) ≡ Ran (num 0 ∷ []) 9 (num 50 ∷ pairs ∷ []) (num 60 ∷ pairs ∷ [])
no_block = refl

-- ---- maps

-- into the own field's map, at its place in the order: 4 goes to 44; no other field or context changes
puts_field : run 9 (just (PutField (at 50) 1 (number 51 4) (number 52 44))) [] ≡ Ran [] 9 (num 50 ∷ pairs ∷ []) (num 60 ∷ v.Map ((pos 2, pos 20) ∷ (pos 4, pos 44) ∷ (pos 6, pos 60) ∷ []) ∷ [])
unfolding apply_row operators read_field set_field
puts_field = refl

-- in the place of the pair that has the key
puts_again : run 9 (just (PutField (at 50) 1 (number 51 6) (number 52 44))) [] ≡ Ran [] 9 (num 50 ∷ pairs ∷ []) (num 60 ∷ v.Map ((pos 2, pos 20) ∷ (pos 6, pos 44) ∷ []) ∷ [])
unfolding apply_row operators read_field set_field
puts_again = refl

-- the key comes before the value
key_first : run 9 (just (PutField (at 50) 1 (by_zero 51) (by_zero 52))) [] ≡ Fell trap.DivZero (at 51) 9 (num 60 ∷ pairs ∷ [])
unfolding apply_row operators
key_first = refl

cuts_field : run 9 (just (CutField (at 50) 1 (number 51 2))) [] ≡ Ran [] 9 (num 50 ∷ pairs ∷ []) (num 60 ∷ v.Map ((pos 6, pos 60) ∷ []) ∷ [])
unfolding apply_row operators read_field set_field
cuts_field = refl

-- into a local, and out of it: the fields stay
puts_local : run 9 (just (PutLocal (at 50) 1 (number 51 4) (number 52 44))) (num 0 ∷ pairs ∷ []) ≡ Ran (num 0 ∷ v.Map ((pos 2, pos 20) ∷ (pos 4, pos 44) ∷ (pos 6, pos 60) ∷ []) ∷ []) 9 (num 50 ∷ pairs ∷ []) (num 60 ∷ pairs ∷ [])
unfolding apply_row operators
puts_local = refl

cuts_local : run 9 (just (CutLocal (at 50) 1 (number 51 6))) (num 0 ∷ pairs ∷ []) ≡ Ran (num 0 ∷ v.Map ((pos 2, pos 20) ∷ []) ∷ []) 9 (num 50 ∷ pairs ∷ []) (num 60 ∷ pairs ∷ [])
unfolding apply_row operators
cuts_local = refl

-- ---- what is created

abbrev created : Outcome (Unit {0}) → List Call
created (Done x st) = st.world.created
created _ = []

abbrev spawns : Steps
spawns = just (Spawn (at 60) 7 (two (number 61 1) (number 62 2)))

-- by an event of generation 3, one of generation 4 with its arguments in order
created_last : created (effects no_call 9 [] spawns (record { locals = []; world = world 9 })) ≡ record { event = 7; args = num 1 ∷ num 2 ∷ []; generation = 4 } ∷ []
unfolding spawning
created_last = refl

-- by an event of generation 4 none, where the statement stands
created_none : came (effects no_call 9 [] spawns (record { locals = []; world = record (world 9) { generation = 4 } })) ≡ Fell trap.Generation (at 60) 9 (num 60 ∷ pairs ∷ [])
unfolding spawning
created_none = refl

-- its arguments come before that
arguments_first : came (effects no_call 9 [] (just (Spawn (at 60) 7 (two (number 61 1) (by_zero 62)))) (record { locals = []; world = record (world 9) { generation = 4 } })) ≡ Fell trap.DivZero (at 62) 9 (num 60 ∷ pairs ∷ [])
unfolding apply_row operators spawning
arguments_first = refl

-- ---- what is demanded

demands_true : run 9 (just (Require (at 70) yes)) [] ≡ Ran [] 9 (num 50 ∷ pairs ∷ []) (num 60 ∷ pairs ∷ [])
demands_true = refl

demands_false : run 9 (just (Require (at 70) no)) [] ≡ Fell trap.Require (at 70) 9 (num 60 ∷ pairs ∷ [])
demands_false = refl
