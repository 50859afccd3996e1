-- Calls of methods, at the context itself and at a child.
use Rattle.std.proofs.Common.{◌≡◌, ℕ, List, [], ◌∷◌, Option, Some, refl, Vec, Global}
use Rattle.std.specs.Prelude.{replicate}
use Rattle.wave_base.specs.declared.path.Path.{Path}
use Rattle.wave_base.specs.declared.span.Span.{Span}
use Rattle.wave_base.specs.declared.trap.TrapKind.{TrapKind}
use Rattle.wave_base.specs.declared.trap.TrapKind.TheVariants as trap
use Rattle.wave_base.specs.declared.value.Value.{Value}
use Rattle.wave_base.specs.Tree as t
use Rattle.wave_base.specs.Tree.{shots}
use Rattle.value_ops.specs.Operators.{operators, apply_row}
use Rattle.resolved_service.specs.Jobs.{first_world}
use Rattle.resolved_service.specs.Meaning.{State, Outcome, Done, Trapped, Left, Returned, Finished, value, call_act, nowhere}
use Rattle.resolved_service.specs.View.{Tree, Trees, no_trees, tree, Const, Local, Call, Child, Op}
use Rattle.resolved_service.specs.World.{World, read_field, set_field, entering}
use Rattle.tests_definitions.proofs.Market.{at, num, hall, stall, first_tree, methods}

abbrev one : Tree → Trees
one a = tree a no_trees

abbrev number : ℕ → ℕ → Tree
number c n = Const (at c) (num n)

-- what a call comes to: a value, a trap with its place, or that the rest is left out
pub data Came : Type 0 where
  Gave : Value → Came
  Fell : TrapKind → Span → Came
  Ended : Option Value → Came

pub record Shown : Type 0 where
  pub came : Came
  pub locals : List Value
  pub ticks : ℕ
  pub entered : List Path
  pub held : List Path
  pub changes : ℕ
  pub shots : List (Path × List Value)

abbrev of_world : Came → List Value → World → Shown
of_world came locals w = record { came = came; locals = locals; ticks = w.ticks; entered = w.entered; held = w.held; changes = w.changes; shots = shots w.tree }

abbrev shown : Outcome Value → Shown
shown (Done x st) = of_world (Gave x) st.locals st.world
shown (Trapped k s w) = of_world (Fell k s) [] w
shown (Left (Returned r) st) = of_world (Ended r) st.locals st.world
shown (Left (Finished r) st) = of_world (Ended r) st.locals st.world

-- an event whose locals are 2 and 5, and which has three ticks
abbrev begins : State
begins = record { locals = num 2 ∷ num 5 ∷ []; world = record (first_world 0 first_tree) { ticks = 3 } }

-- one that is in the first hall's stall 7, which it has entered
abbrev in_stall : State
in_stall = record {
  locals = num 2 ∷ num 5 ∷ [];
  world = record (first_world 0 first_tree) { ticks = 3; tree = t.enter (t.enter first_tree (hall 1)) (stall 1 7); entered = [] ∷ hall 1 ∷ stall 1 7 ∷ []; held = stall 1 7 ∷ []; changes = 2 };
}

module _ (room : Vec (Unit {0}) Global) where
  abbrev run : ℕ → Path → Tree → State → Shown
  run depth p e st = shown (value (call_act (methods room) depth) p e st)

  -- what is shown of an event that stays in stall 7, where that many are left, with that many ticks
  abbrev stays : Came → List Value → ℕ → ℕ → Shown
  stays came locals ticks left = record {
    came = came;
    locals = locals;
    ticks = ticks;
    entered = [] ∷ hall 1 ∷ stall 1 7 ∷ [];
    held = stall 1 7 ∷ [];
    changes = 2;
    shots = ([], num 0 ∷ []) ∷ (hall 1, num 20 ∷ []) ∷ (stall 1 7, num left ∷ []) ∷ [];
  }

  abbrev locals : List Value
  locals = num 2 ∷ num 5 ∷ []

  -- ---- a call of the context's own

  -- take(2): 50 - 2 is the value and the field; a tick; and the caller's locals are as they were
  takes : run 9 (stall 1 7) (Call (at 60) 0 (one (Local (at 61) 0))) in_stall ≡ stays (Gave (num 48)) locals 2 48
  unfolding apply_row operators read_field set_field call_act
  takes = refl

  -- more(5) calls take(5), and so two ticks are taken: 50 - 5 + 1
  calls_on : run 9 (stall 1 7) (Call (at 60) 1 (one (Local (at 61) 1))) in_stall ≡ stays (Gave (num 46)) locals 1 45
  unfolding apply_row operators read_field set_field call_act
  calls_on = refl

  -- what stands behind a `return` is left out, in the method alone: the field is 5, and the value 3
  returns : run 9 (stall 1 7) (Call (at 60) 3 (one (Local (at 61) 1))) in_stall ≡ stays (Gave (num 3)) locals 2 5
  unfolding apply_row operators read_field set_field call_act
  returns = refl

  -- `finish` in a method ends the event: nothing is added to it
  finishes : run 9 (stall 1 7) (Op (at 59) 0 (tree (Call (at 60) 4 (one (Local (at 61) 1))) (one (number 62 1)))) in_stall ≡ stays (Ended (Some (num 5))) locals 2 50
  unfolding apply_row operators read_field set_field call_act
  finishes = refl

  -- a method's locals behind its parameters begin with their kinds' blanks, whatever the caller's are
  begins_blank : run 9 (stall 1 7) (Call (at 60) 5 (one (Local (at 61) 1))) in_stall ≡ stays (Gave (num 1)) locals 2 50
  unfolding apply_row operators read_field set_field call_act
  begins_blank = refl

  -- what has no value is worth nothing
  no_method : run 9 (stall 1 7) (Call (at 60) 99 no_trees) in_stall ≡ stays (Gave (num 0)) locals 2 50
  unfolding call_act
  no_method = refl

  -- its arguments come before its tick: where both would trap the argument does, and no tick is taken
  argument_first : run 9 (stall 1 7) (Call (at 60) 0 (one (Op (at 61) 3 (tree (number 61 1) (one (number 62 0)))))) in_stall ≡ stays (Fell trap.DivZero (at 61)) [] 3 50
  unfolding apply_row operators call_act
  argument_first = refl

  -- without a tick it traps at the call's place
  no_tick : run 9 (stall 1 7) (Call (at 60) 0 (one (Local (at 61) 0))) (record in_stall { world = record in_stall.world { ticks = 0 } }) ≡ stays (Fell trap.Ticks (at 60)) [] 0 50
  unfolding call_act
  no_tick = refl

  -- each call within a call has one tick less to go by: with two this call of a call has its value, with one it has none
  two_deep : (run 2 (stall 1 7) (Call (at 60) 1 (one (Local (at 61) 1))) in_stall).came ≡ Gave (num 46)
  unfolding apply_row operators read_field set_field call_act
  two_deep = refl

  one_deep : (run 1 (stall 1 7) (Call (at 60) 1 (one (Local (at 61) 1))) in_stall).came ≡ Fell trap.Ticks nowhere
  unfolding apply_row operators read_field set_field call_act
  one_deep = refl

  -- ---- a call of a child's

  -- both(7) at the first hall: stall 7 gives 49 and stall 8 gives 47. Each is entered and held behind those before, each call changes the place
  -- twice, and the three calls take three ticks. What was held stays held.
  both_stalls : run 9 (hall 1) (Call (at 60) 2 (one (number 61 7))) (record begins { world = record begins.world { tree = t.enter first_tree (hall 1); entered = [] ∷ hall 1 ∷ []; held = hall 1 ∷ []; changes = 1 } })
      ≡ record {
        came = Gave (num 96);
        locals = locals;
        ticks = 0;
        entered = [] ∷ hall 1 ∷ stall 1 7 ∷ stall 1 8 ∷ [];
        held = hall 1 ∷ stall 1 7 ∷ stall 1 8 ∷ [];
        changes = 5;
        shots = ([], num 0 ∷ []) ∷ (hall 1, num 20 ∷ []) ∷ (stall 1 7, num 49 ∷ []) ∷ (stall 1 8, num 47 ∷ []) ∷ [];
      }
  unfolding apply_row operators read_field set_field entering call_act
  both_stalls = refl

  -- both(8) goes into stall 8 twice, and enters it once: 49 and 46
  one_stall : run 9 (hall 1) (Call (at 60) 2 (one (number 61 8))) (record begins { world = record begins.world { tree = t.enter first_tree (hall 1); entered = [] ∷ hall 1 ∷ []; held = hall 1 ∷ []; changes = 1 } })
      ≡ record {
        came = Gave (num 95);
        locals = locals;
        ticks = 0;
        entered = [] ∷ hall 1 ∷ stall 1 8 ∷ [];
        held = hall 1 ∷ stall 1 8 ∷ [];
        changes = 5;
        shots = ([], num 0 ∷ []) ∷ (hall 1, num 20 ∷ []) ∷ (stall 1 8, num 46 ∷ []) ∷ [];
      }
  unfolding apply_row operators read_field set_field entering call_act
  one_stall = refl

  -- the third call finds no tick: what the second one did stays, and stall 8 is not entered
  third_call : run 9 (hall 1) (Call (at 60) 2 (one (number 61 7))) (record begins { world = record begins.world { ticks = 2; tree = t.enter first_tree (hall 1); entered = [] ∷ hall 1 ∷ []; held = hall 1 ∷ []; changes = 1 } })
      ≡ record {
        came = Fell trap.Ticks (at 26);
        locals = [];
        ticks = 0;
        entered = [] ∷ hall 1 ∷ stall 1 7 ∷ [];
        held = hall 1 ∷ stall 1 7 ∷ [];
        changes = 3;
        shots = ([], num 0 ∷ []) ∷ (hall 1, num 20 ∷ []) ∷ (stall 1 7, num 49 ∷ []) ∷ [];
      }
  unfolding apply_row operators read_field set_field entering call_act
  third_call = refl

  abbrev by_zero : ℕ → Tree
  by_zero c = Op (at c) 3 (tree (number c 1) (one (number c 0)))

  -- the key comes before the arguments, the arguments before the tick, the tick before the way in
  key_first : (run 9 (hall 1) (Child (at 60) 2 0 (by_zero 61) (one (by_zero 62))) begins).came ≡ Fell trap.DivZero (at 61)
  unfolding apply_row operators call_act
  key_first = refl

  then_arguments : (run 9 (hall 1) (Child (at 60) 2 0 (number 61 7) (one (by_zero 62))) (record begins { world = record begins.world { ticks = 0 } })).came ≡ Fell trap.DivZero (at 62)
  unfolding apply_row operators call_act
  then_arguments = refl

  then_tick : (run 9 (hall 1) (Child (at 60) 2 0 (number 61 7) (one (number 62 1))) (record begins { world = record begins.world { ticks = 0; entered = replicate 256 [] } })).came ≡ Fell trap.Ticks (at 60)
  unfolding call_act
  then_tick = refl

  -- where 256 are entered no other child is, at the call's place; and the tick is taken
  then_way_in : (run 9 (hall 1) (Child (at 60) 2 0 (number 61 7) (one (number 62 1))) (record begins { world = record begins.world { entered = replicate 256 [] } })).came ≡ Fell trap.Reach (at 60)
  unfolding entering call_act
  then_way_in = refl
