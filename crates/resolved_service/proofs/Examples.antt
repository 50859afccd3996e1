-- Small statements, computed.
use Rattle.std.proofs.Common.{◌≡◌, ℕ, pos, false, List, [], ◌∷◌, Option, None, refl}
use Rattle.wave_base.specs.declared.path.Path.{Path}
use Rattle.wave_base.specs.declared.span.Span.{Span}
use Rattle.wave_base.specs.declared.trap.TrapKind.TheVariants as trap
use Rattle.wave_base.specs.declared.value.Value.{Value}
use Rattle.wave_base.specs.declared.value.Value.TheVariants.{Int, Bool as Truth}
use Rattle.wave_base.specs.Tree as t
use Rattle.value_ops.specs.Operators.{operators, apply_row}
use Rattle.resolved_service.specs.Jobs.{first_world}
use Rattle.resolved_service.specs.Meaning.{Act, Outcome, Done, Trapped, value, effects, while_turns}
use Rattle.resolved_service.specs.Steps.{Steps, no_steps, step, SetLocal, SetField, For, Require, Send}
use Rattle.resolved_service.specs.View.{Tree, Trees, no_trees, tree, Const, Local, Field, Op, And}
use Rattle.resolved_service.specs.World.{World, read_field, set_field, sending}

abbrev at : ℕ → Span
at c = record { line = 1; col = c }

abbrev num : ℕ → Value
num n = Int (pos n)

abbrev two : Tree → Tree → Trees
two a b = tree a (tree b no_trees)

abbrev no_call : ℕ → Path → List Value → Act (Option Value)
no_call m p given st = Done None st

-- a root with one field
abbrev world : ℕ → World
world n = first_world 0 (t.bare (λ p. num n ∷ []))

abbrev outcome_fields : {A : Type 0} → Outcome A → List Value
outcome_fields (Done a st) = st.world.tree.fields []
outcome_fields (Trapped k s w) = w.tree.fields []
outcome_fields _ = []

abbrev locals_of : {A : Type 0} → Outcome A → List Value
locals_of (Done a st) = st.locals
locals_of _ = []

abbrev run : Steps → List Value → ℕ → Outcome (Unit {0})
run ss locals n = effects no_call 100 [] ss (record { locals = locals; world = world n })

-- n = n + 1
abbrev counts : Steps
counts = step (SetField (at 58) 0 (Op (at 62) 0 (two (Field (at 62) 0) (Const (at 66) (num 1))))) no_steps

one_more : unfold apply_row operators read_field set_field in (outcome_fields (run counts [] 6) ≡ num 7 ∷ [])
unfolding apply_row operators read_field set_field
one_more = refl

-- the greatest number plus 1: the trap stands where the operand starts, and the field stays
traps : unfold apply_row operators read_field set_field in (run counts [] 9223372036854775807 ≡ Trapped trap.Overflow (at 62) (world 9223372036854775807))
unfolding apply_row operators read_field set_field
traps = refl

-- the right operand of `&&` isn't touched where the left one is false
leaves_out : value no_call [] (And (at 1) (Const (at 1) (Truth false)) (Op (at 2) 3 (two (Const (at 2) (num 1)) (Const (at 6) (num 0))))) (record { locals = []; world = world 0 }) ≡ Done (Truth false) (record { locals = []; world = world 0 })
leaves_out = refl

-- for i in 2 to 5 { s = s + i; i = 9; }: the body's change of i doesn't matter to the count
abbrev sums : Steps
sums =
    step (For (at 1) 1 (Const (at 2) (num 2)) (Const (at 3) (num 5))
    (step (SetLocal (at 4) 0 (Op (at 5) 0 (two (Local (at 5) 0) (Local (at 6) 3)))) (step (SetLocal (at 7) 3 (Const (at 8) (num 9))) no_steps)))
    no_steps

sum_of : unfold apply_row operators while_turns in (locals_of (run sums (num 0 ∷ num 0 ∷ num 0 ∷ num 0 ∷ []) 0) ≡ num 9 ∷ num 5 ∷ num 5 ∷ num 9 ∷ [])
unfolding apply_row operators while_turns
sum_of = refl

-- a condition that is false ends the event; what was sent before stays in the world, and the event drops it
abbrev asks : Steps
asks = step (Send (at 1) (97 ∷ []) (Const (at 2) (num 3))) (step (Require (at 5) (Const (at 6) (Truth false))) no_steps)

stops : unfold sending in (run asks [] 0 ≡ Trapped trap.Require (at 5) (record (world 0) { messages = record { label = 97 ∷ []; value = num 3 } ∷ [] }))
unfolding sending
stops = refl
