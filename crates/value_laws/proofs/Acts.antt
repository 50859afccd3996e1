-- Worlds that are bounded, and the parts of the meaning that keep them so.
use Rattle.std.proofs.Common.{ℕ, zero, suc, ◌+◌, pos, Bool, true, false, nat_lt, ◌==◌, if◌then◌else◌, List, [], ◌∷◌, ◌++◌, length, get_or, drop, map, slice_set, Option, Some, None, Ok, Err, All, FitsSigned, w64, arith}
use Rattle.std.proofs.lemmas.List.Elements.{All-append, All-head, All-tail, All-cons, All-nil, All-push, All-set}
use Rattle.std.proofs.lemmas.Map.Views.{All-insert_key}
use Rattle.wave_base.proofs.Places.{table_none}
use Rattle.wave_base.specs.declared.limits.TheConstants.{CONTEXTS, MESSAGES, SPAWNS, GENERATION}
use Rattle.wave_base.specs.declared.path.Path.{Path}
use Rattle.wave_base.specs.declared.path.Step.{Step as PathStep}
use Rattle.wave_base.specs.declared.span.Span.{Span}
use Rattle.wave_base.specs.declared.trap.TrapKind.TheVariants as trap
use Rattle.wave_base.specs.declared.value.Kind.{Kind}
use Rattle.wave_base.specs.declared.value.Kind.TheVariants as k
use Rattle.wave_base.specs.declared.value.Value.{Value}
use Rattle.wave_base.specs.declared.value.Value.TheVariants.{Int, Bool as Truth, Str, Map}
use Rattle.wave_base.specs.Paths.{path_eq, path_cmp}
use Rattle.wave_base.specs.Text.{IsPrintable, IsText}
use Rattle.value_ops.specs.Kinds.{Answer}
use Rattle.value_ops.specs.Operators.{apply_row}
use Rattle.resolved_service.specs.Meaning.{State, Leave, Returned, Finished, Outcome, Done, Trapped, Left, Act, and_then, ◌>>◌, give, answer, with_world, tick, enter_at, choose, set_local, put_field, demand, row_add, row_lt, while_turns, for_test, for_body, with_blanks}
use Rattle.resolved_service.specs.World.{World, blank_of, nothing, is_true, key_of, child, after_tick, after_change, with_entered, has, entering, sending, spawning, read_field, read_above, set_field}
use Rattle.snapshot_text.specs.Shots.{IsValue}
use Rattle.value_laws.proofs.Rows.{IsGiven, row_given}
use Rattle.value_laws.specs.Values.{IsKeyed, AreValues, BoundedContexts, BoundedCall, BoundedMessage}

-- ---- values

pub nothing_is : IsValue nothing
nothing_is = record { sfits = omega arith }

blank_is : (kind : Kind) → IsValue (blank_of kind)
blank_is k.Int = record { sfits = omega arith }
blank_is k.Bool = tt
blank_is k.Text = record { printable = All-nil IsPrintable; short = omega arith }
blank_is k.Map = (table_none, All-nil (λ p. FitsSigned w64 p.0 × FitsSigned w64 p.1))

blanks_are : (kinds : List Kind) → AreValues (map blank_of kinds)
blanks_are [] = All-nil IsValue
blanks_are (kind ∷ kinds) = All-cons IsValue (blank_of kind) (map blank_of kinds) (blank_is kind) (blanks_are kinds)

pub with_blanks_are : (given : List Value) (kinds : List Kind) → AreValues given → AreValues (with_blanks given kinds)
with_blanks_are given kinds h = All-append IsValue given (map blank_of (drop (length given) kinds)) h (blanks_are (drop (length given) kinds))

-- what is read of values is one, also where nothing is
pub one_of : (xs : List Value) (i : ℕ) → AreValues xs → IsValue (get_or xs i nothing)
one_of [] i h = nothing_is
one_of (x ∷ xs) zero h = All-head IsValue x xs h
one_of (x ∷ xs) (suc i) h = one_of xs i (All-tail IsValue x xs h)

key_is : (v : Value) → IsValue v → FitsSigned w64 (key_of v)
key_is (Int n) h = h
key_is (Truth b) h = record { sfits = omega arith }
key_is (Str s) h = record { sfits = omega arith }
key_is (Map m) h = record { sfits = omega arith }

pub child_is : (p : Path) (class : ℕ) (v : Value) → IsKeyed p → IsValue v → IsKeyed (child p class v)
child_is p class v h g = All-push (λ (s : PathStep). FitsSigned w64 s.key) p _ h (key_is v g)

pub two_are : (a b : Value) → IsValue a → IsValue b → AreValues (a ∷ b ∷ [])
two_are a b f g = All-cons IsValue a (b ∷ []) f (All-cons IsValue b [] g (All-nil IsValue))

pub three_are : (a b c : Value) → IsValue a → IsValue b → IsValue c → AreValues (a ∷ b ∷ c ∷ [])
three_are a b c f g h = All-cons IsValue a (b ∷ c ∷ []) f (two_are b c g h)

-- ---- worlds

pub record IsBounded (w : World) : Type 0 where
  pub tree : BoundedContexts w.tree
  pub entered : All IsKeyed w.entered
  pub messages : All BoundedMessage w.messages
  pub created : All BoundedCall w.created

pub record Sound (st : State) : Type 0 where
  pub locals : AreValues st.locals
  pub world : IsBounded st.world

abbrev pub IsMaybe : Option Value → Type 0
IsMaybe None = Unit {0}
IsMaybe (Some v) = IsValue v

abbrev pub IsLeave : Leave → Type 0
IsLeave (Returned r) = IsMaybe r
IsLeave (Finished r) = IsMaybe r

abbrev pub Any : {A : Type 0} → A → Type 0
Any a = Unit {0}

-- what is left is bounded, and S holds of what it is worth
abbrev pub Good : {A : Type 0} → (A → Type 0) → Outcome A → Type 0
Good S (Done a st) = S a × Sound st
Good S (Trapped k at w) = IsBounded w
Good S (Left l st) = IsLeave l × Sound st

abbrev pub Safe : {A : Type 0} → (A → Type 0) → Act A → Type 0
Safe S a = (st : State) → Sound st → Good S (a st)

pub then_good : {A B : Type 0} (S : A → Type 0) (T : B → Type 0) (o : Outcome A) (f : A → Act B) → Good S o → ((a : A) → S a → Safe T (f a)) → Good T (and_then o f)
then_good S T (Done a st) f h g = g a h.0 st h.1
then_good S T (Trapped k at w) f h g = h
then_good S T (Left l st) f h g = h

pub choose_good : {A : Type 0} (S : A → Type 0) (b : Bool) (x y : Act A) → Safe S x → Safe S y → Safe S (choose b x y)
choose_good S true x y h g = h
choose_good S false x y h g = g

pub answer_good : (a : Answer Value) (at : Span) → IsGiven a → Safe IsValue (answer a at)
answer_good (Ok v) at g st h = (g, h)
answer_good (Err t) at g st h = h.world

-- what an operator gives, and what is done with it
pub answered : (row : ℕ) (operands : List Value) (at : Span) → AreValues operands → (f : Value → Act (Unit {0})) → ((v : Value) → IsValue v → Safe Any (f v)) → Safe Any (λ st. and_then (answer (apply_row row operands) at st) f)
answered row operands at a f g st h = then_good IsValue Any (answer (apply_row row operands) at st) f (answer_good (apply_row row operands) at (row_given row operands a) st h) g

pub set_good : (slot : ℕ) (v : Value) → IsValue v → Safe Any (set_local slot v)
set_good slot v g st h = (tt, record { locals = All-set IsValue st.locals slot v g h.locals; world = h.world })

moved : (w : World) → IsBounded w → IsBounded (after_change w)
moved w h = record { tree = h.tree; entered = h.entered; messages = h.messages; created = h.created }

pub back_good : {A : Type 0} (S : A → Type 0) (a : A) (st : State) → S a → Sound st → Good S (Done a (record { locals = st.locals; world = after_change st.world }))
back_good S a st s h = (s, record { locals = h.locals; world = moved st.world h.world })

entered_good : (q : Path) (w : World) → IsKeyed q → IsBounded w → IsBounded (with_entered q w)
entered_good q w g h = record {
  tree = record { fields = (h.tree).fields; paths = All-insert_key path_cmp q IsKeyed w.tree.paths (h.tree).paths g };
  entered = All-push IsKeyed w.entered q h.entered g;
  messages = h.messages;
  created = h.created;
}

pub enter_good : (q : Path) (at : Span) → IsKeyed q → Safe Any (enter_at q at)
unfolding entering
enter_good q at g st h =
    elim (has st.world.held q) as (λ b. Good Any (with_world (if b then Ok (after_change st.world) else (if nat_lt (length st.world.entered) CONTEXTS then Ok (after_change (with_entered q st.world)) else Err trap.Reach)) at st)) [
      | true ↦ (tt, record { locals = h.locals; world = moved st.world h.world })
      | false ↦ elim (nat_lt (length st.world.entered) CONTEXTS) as (λ b. Good Any (with_world (if b then Ok (after_change (with_entered q st.world)) else Err trap.Reach) at st)) [
        | true ↦ (tt, record { locals = h.locals; world = moved (with_entered q st.world) (entered_good q st.world g h.world) })
        | false ↦ h.world
      ]
    ]

pub send_good : (label : List ℕ) (x : Value) (at : Span) → IsText label → IsValue x → Safe Any (λ st. with_world (sending label x st.world) at st)
unfolding sending
send_good label x at f g st h =
    elim (nat_lt (length st.world.messages) MESSAGES) as (λ b. Good Any (with_world (if b then Ok (record st.world { messages = st.world.messages ++ record { label = label; value = x } ∷ [] }) else Err trap.Sends) at st)) [
      | true ↦ (
        tt,
        record {
          locals = h.locals;
          world = record { tree = (h.world).tree; entered = (h.world).entered; messages = All-push BoundedMessage st.world.messages _ (h.world).messages (record { label = f; value = g }); created = (h.world).created };
        },
      )
      | false ↦ h.world
    ]

pub spawn_good : (event : ℕ) (args : List Value) (at : Span) → AreValues args → Safe Any (λ st. with_world (spawning event args st.world) at st)
unfolding spawning
spawn_good event args at g st h =
    elim (st.world.generation == GENERATION) as (λ b. Good Any (with_world (if b then Err trap.Generation else (if nat_lt (length st.world.created) SPAWNS then Ok (record st.world { created = st.world.created ++ record { event = event; args = args; generation = suc st.world.generation } ∷ [] }) else Err trap.Spawns)) at st)) [
      | true ↦ h.world
      | false ↦ elim (nat_lt (length st.world.created) SPAWNS) as (λ b. Good Any (with_world (if b then Ok (record st.world { created = st.world.created ++ record { event = event; args = args; generation = suc st.world.generation } ∷ [] }) else Err trap.Spawns) at st)) [
        | true ↦ (
          tt,
          record {
            locals = h.locals;
            world = record { tree = (h.world).tree; entered = (h.world).entered; messages = (h.world).messages; created = All-push BoundedCall st.world.created _ (h.world).created g };
          },
        )
        | false ↦ h.world
      ]
    ]

pub demand_good : (b : Bool) (at : Span) → Safe Any (demand b at)
demand_good true at st h = (tt, h)
demand_good false at st h = h.world

took_good : (n : ℕ) (at : Span) (st : State) → Sound st → Good Any (with_world (after_tick n st.world) at st)
took_good zero at st h = h.world
took_good (suc n) at st h = (tt, record { locals = h.locals; world = record { tree = (h.world).tree; entered = (h.world).entered; messages = (h.world).messages; created = (h.world).created } })

pub tick_good : (at : Span) → Safe Any (tick at)
tick_good at st h = took_good st.world.ticks at st h

pub field_is : (f : ℕ) (p : Path) (w : World) → IsBounded w → IsValue (read_field f p w)
unfolding read_field
field_is f p w h = one_of (w.tree.fields p) f ((h.tree).fields p)

pub above_is : (level f : ℕ) (p : Path) (w : World) → IsBounded w → IsValue (read_above level f p w)
unfolding read_above
above_is level f p w h = field_is f _ w h

pub put_good : (f : ℕ) (p : Path) (v : Value) → IsValue v → Safe Any (put_field f p v)
unfolding set_field
put_good f p v g st h = (
  tt,
  record {
    locals = h.locals;
    world = record {
      tree = record { fields = λ q. at_path q (path_eq p q); paths = ((h.world).tree).paths };
      entered = (h.world).entered;
      messages = (h.world).messages;
      created = (h.world).created;
    };
  },
)
  where
    at_path : (q : Path) (b : Bool) → AreValues (if b then slice_set (st.world.tree.fields p) f v else st.world.tree.fields q)
    at_path q true = All-set IsValue (st.world.tree.fields p) f v g (((h.world).tree).fields p)
    at_path q false = ((h.world).tree).fields q

-- ---- loops

pub while_good : (n : ℕ) (test : Act Value) (body : Act (Unit {0})) (at : Span) → Safe IsValue test → Safe Any body → Safe Any (while_turns n test body at)
unfolding while_turns
while_good zero test body at t b st h = then_good IsValue Any (test st) _ (t st h) (λ x _. choose_good Any (is_true x) (tick at) (give tt) (tick_good at) (λ st h. (tt, h)))
while_good (suc n) test body at t b st h =
    then_good IsValue Any (test st) _ (t st h)
    (λ x _. choose_good Any (is_true x) (tick at >> (body >> while_turns n test body at)) (give tt)
    (λ st h. then_good Any Any (tick at st) _ (tick_good at st h)
    (λ u _ st h. then_good Any Any (body st) _ (b st h)
    (λ u _. while_good n test body at t b)))
    (λ st h. (tt, h)))

pub for_good : (counter : ℕ) (at : Span) (body : Act (Unit {0})) → Safe Any body → Safe Any (for_body counter at body)
for_good counter at body b st h =
    then_good Any Any (body _) _ (b _ (set_good (counter + 2) (get_or st.locals counter nothing) (one_of st.locals counter h.locals) st h).1)
    (λ u _ st h. answered row_add (get_or st.locals counter nothing ∷ Int (pos 1) ∷ []) at (two_are _ _ (one_of st.locals counter h.locals) (record { sfits = omega arith })) (set_local counter) (set_good counter) st h)

pub test_good : (counter : ℕ) (at : Span) → Safe IsValue (for_test counter at)
test_good counter at st h =
    answer_good _ at (row_given row_lt (get_or st.locals counter nothing ∷ get_or st.locals (counter + 1) nothing ∷ []) (two_are _ _ (one_of st.locals counter h.locals) (one_of st.locals (counter + 1) h.locals))) st h
