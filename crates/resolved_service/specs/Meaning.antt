-- What expressions, statements, calls and events mean: by recursion on the resolved tree and the ticks that are left.
use Rattle.std.specs.Prelude.{ℕ, zero, suc, ◌+◌, pos, Bool, true, false, List, [], ◌∷◌, ◌++◌, length, drop, map, get_or, slice_get, slice_set, Option, Some, None, unwrap_or, Ok, Err}
use Rattle.wave_base.specs.declared.path.Path.{Path}
use Rattle.wave_base.specs.declared.span.Span.{Span}
use Rattle.wave_base.specs.declared.trap.TrapKind.{TrapKind}
use Rattle.wave_base.specs.declared.trap.TrapKind.TheVariants as trap
use Rattle.wave_base.specs.declared.value.Kind.{Kind}
use Rattle.wave_base.specs.declared.value.Value.{Value}
use Rattle.wave_base.specs.declared.value.Value.TheVariants.{Int, Bool as Truth}
use Rattle.value_ops.specs.Kinds.{Answer}
use Rattle.value_ops.specs.Operators.{apply_row}
pub use Rattle.value_ops.specs.Operators.{row_add, row_lt, row_put, row_cut}
use Rattle.resolved_service.specs.declared.service.Event.{Event}
use Rattle.resolved_service.specs.declared.service.Last.{Last}
use Rattle.resolved_service.specs.declared.service.Method.{Method}
use Rattle.resolved_service.specs.declared.service.Phase.{Phase}
use Rattle.resolved_service.specs.Steps.{Step, SetLocal, SetField, PutLocal, PutField, CutLocal, CutField, If, While, For, Require, Send, Spawn, Do, Return, Finish, Steps, no_steps, step, Else, no_else, otherwise, steps_in}
use Rattle.resolved_service.specs.View.{Tree, Const, Local, Field, Above, Op, And, Or, Call, Child, Trees, no_trees, tree, tree_of}
use Rattle.resolved_service.specs.World.{World, blank_of, nothing, is_true, child, ticking, after_change, entering, releasing, sending, spawning, read_field, read_above, set_field}

pub record State : Type 0 where
  pub locals : List Value
  pub world : World

-- why the rest of a body is left out: its method returns, or its event is finished
pub data Leave : Type 0 where
  Returned Finished : Option Value → Leave

-- a value and the new state; or a trap with its place, and the world that it leaves; or the rest is left out
pub data Outcome (A : Type 0) : Type 0 where
  Done : A → State → Outcome A
  Trapped : TrapKind → Span → World → Outcome A
  Left : Leave → State → Outcome A

abbrev pub Act : Type 0 → Type 0
Act A = State → Outcome A

abbrev pub and_then : {A B : Type 0} → Outcome A → (A → Act B) → Outcome B
and_then (Done a st) f = f a st
and_then (Trapped k at w) f = Trapped k at w
and_then (Left l st) f = Left l st

infixl 10 ◌>>=◌
abbrev pub ◌>>=◌ : {A B : Type 0} → Act A → (A → Act B) → Act B
p >>= f = λ st. and_then (p st) f

infixl 10 ◌>>◌
abbrev pub ◌>>◌ : {A B : Type 0} → Act A → Act B → Act B
p >> q = p >>= (λ _. q)

abbrev pub give : {A : Type 0} → A → Act A
give a = λ st. Done a st

-- a value, or its trap
abbrev pub answer : Answer Value → Span → Act Value
answer (Ok value) at st = Done value st
answer (Err k) at st = Trapped k at st.world

-- a change of the world, or its trap
abbrev pub with_world : Answer World → Span → Act (Unit {0})
with_world (Ok w) at st = Done tt (record { locals = st.locals; world = w })
with_world (Err k) at st = Trapped k at st.world

abbrev pub tick : Span → Act (Unit {0})
tick at st = with_world (ticking st.world) at st

abbrev pub enter_at : Path → Span → Act (Unit {0})
enter_at q at st = with_world (entering q st.world) at st

abbrev pub back : Act (Unit {0})
back st = Done tt (record { locals = st.locals; world = after_change st.world })

abbrev pub release : Path → Act (Unit {0})
release q st = Done tt (record { locals = st.locals; world = releasing q st.world })

abbrev pub choose : {A : Type 0} → Bool → Act A → Act A → Act A
choose true a b = a
choose false a b = b

abbrev pub get_local : ℕ → Act Value
get_local slot st = Done (get_or st.locals slot nothing) st

abbrev pub set_local : ℕ → Value → Act (Unit {0})
set_local slot value st = Done tt (record { locals = slice_set st.locals slot value; world = st.world })

abbrev pub get_field : ℕ → Path → Act Value
get_field f p st = Done (read_field f p st.world) st

abbrev pub get_above : ℕ → ℕ → Path → Act Value
get_above level f p st = Done (read_above level f p st.world) st

abbrev pub put_field : ℕ → Path → Value → Act (Unit {0})
put_field f p value st = Done tt (record { locals = st.locals; world = set_field f value p st.world })

abbrev pub demand : Bool → Span → Act (Unit {0})
demand true at st = Done tt st
demand false at st = Trapped trap.Require at st.world

-- the rest of a body is left out
abbrev pub leave : (Option Value → Leave) → Option Value → Act (Unit {0})
leave why r st = Left (why r) st

-- what a call is worth as an operand: a checked one has a value
abbrev pub worth : Option Value → Value
worth r = unwrap_or r nothing

-- ---- expressions at a path, by what a call is worth

module _ (call : ℕ → Path → List Value → Act (Option Value)) (p : Path) where
  abbrev mutual
    pub value : Tree → Act Value
    value (Const at literal) = give literal
    value (Local at slot) = get_local slot
    value (Field at f) = get_field f p
    value (Above at level f) = get_above level f p
    value (Op at row args) = do
      operands ← values args
      answer (apply_row row operands) at
    value (And at left right) = do
      a ← value left
      choose (is_true a) (value right) (give (Truth false))
    value (Or at left right) = do
      a ← value left
      choose (is_true a) (give (Truth true)) (value right)
    value (Call at method args) = do
      given ← values args
      tick at
      result ← call method p given
      give (worth result)
    value (Child at class method key args) = do
      k ← value key
      given ← values args
      tick at
      enter_at (child p class k) at
      result ← call method (child p class k) given
      back
      give (worth result)

    pub values : Trees → Act (List Value)
    values no_trees = give []
    values (tree t ts) = do
      first ← value t
      others ← values ts
      give (first ∷ others)

-- ---- loops

-- at most so many turns of a loop; where none is left, there is no tick for one more
unfoldable pub while_turns : ℕ → Act Value → Act (Unit {0}) → Span → Act (Unit {0})
while_turns zero test body at = do
  t ← test
  choose (is_true t) (tick at) (give tt)
while_turns (suc n) test body at = do
  t ← test
  choose (is_true t) (tick at >> (body >> while_turns n test body at)) (give tt)

-- a loop over numbers: the counter's slot, and behind it those of the bound and the name
module _ (counter : ℕ) (at : Span) where
  abbrev pub for_test : Act Value
  for_test = do
    i ← get_local counter
    bound ← get_local (counter + 1)
    answer (apply_row row_lt (i ∷ bound ∷ [])) at

  abbrev pub for_body : Act (Unit {0}) → Act (Unit {0})
  for_body body = do
    i ← get_local counter
    set_local (counter + 2) i
    body
    j ← get_local counter
    next ← answer (apply_row row_add (j ∷ Int (pos 1) ∷ [])) at
    set_local counter next

-- ---- statements at a path, where each loop makes at most n turns

module _ (call : ℕ → Path → List Value → Act (Option Value)) (n : ℕ) (p : Path) where
  -- a value that may be left out
  abbrev pub maybe_value : Option Tree → Act (Option Value)
  maybe_value None = give None
  maybe_value (Some e) = value call p e >>= (λ x. give (Some x))

  abbrev mutual
    pub effect : Step → Act (Unit {0})
    effect (SetLocal at slot e) = value call p e >>= set_local slot
    effect (SetField at f e) = value call p e >>= put_field f p
    effect (PutLocal at slot key e) = do
      k ← value call p key
      x ← value call p e
      m ← get_local slot
      more ← answer (apply_row row_put (m ∷ k ∷ x ∷ [])) at
      set_local slot more
    effect (PutField at f key e) = do
      k ← value call p key
      x ← value call p e
      m ← get_field f p
      more ← answer (apply_row row_put (m ∷ k ∷ x ∷ [])) at
      put_field f p more
    effect (CutLocal at slot key) = do
      k ← value call p key
      m ← get_local slot
      less ← answer (apply_row row_cut (m ∷ k ∷ [])) at
      set_local slot less
    effect (CutField at f key) = do
      k ← value call p key
      m ← get_field f p
      less ← answer (apply_row row_cut (m ∷ k ∷ [])) at
      put_field f p less
    effect (If at test body other) = do
      t ← value call p test
      choose (is_true t) (effects body) (else_effect other)
    effect (While at test body) = while_turns n (value call p test) (effects body) at
    effect (For at counter from to body) = do
      a ← value call p from
      set_local counter a
      b ← value call p to
      set_local (counter + 1) b
      while_turns n (for_test counter at) (for_body counter at (effects body)) at
    effect (Require at test) = value call p test >>= (λ t. demand (is_true t) at)
    effect (Send at label e) = value call p e >>= (λ x st. with_world (sending label x st.world) at st)
    effect (Spawn at event args) = values call p args >>= (λ given st. with_world (spawning event given st.world) at st)
    effect (Do at e) = value call p e >> give tt
    effect (Return at e) = maybe_value e >>= leave Returned
    effect (Finish at e) = maybe_value e >>= leave Finished

    pub effects : Steps → Act (Unit {0})
    effects no_steps = give tt
    effects (step s ss) = effect s >> effects ss

    pub else_effect : Else → Act (Unit {0})
    else_effect no_else = give tt
    else_effect (otherwise ss) = effects ss

  -- what is returned or replied, if anything
  abbrev pub last_value : Option Last → Act (Option Value)
  last_value None = give None
  last_value (Some last) = value call p (tree_of last.value) >>= (λ x. give (Some x))

-- ---- calls

-- the locals that follow the arguments
abbrev pub with_blanks : List Value → List Kind → List Value
with_blanks given kinds = given ++ map blank_of (drop (length given) kinds)

-- a method runs with locals of its own, and gives back the caller's
abbrev pub with_locals : List Value → Outcome (Option Value) → Outcome (Option Value)
with_locals locals (Done result st) = Done result (record { locals = locals; world = st.world })
with_locals locals (Trapped k at w) = Trapped k at w
with_locals locals (Left (Returned result) st) = Done result (record { locals = locals; world = st.world })
with_locals locals (Left (Finished result) st) = Left (Finished result) (record { locals = locals; world = st.world })

abbrev pub run_method : (ℕ → Path → List Value → Act (Option Value)) → ℕ → Option Method → Path → List Value → Act (Option Value)
run_method call n None p given st = Done None st
run_method call n (Some m) p given st =
    with_locals st.locals ((effects call n p (steps_in m.body) >> last_value call n p m.last) (record { locals = with_blanks given m.locals; world = st.world }))

abbrev pub nowhere : Span
nowhere = record { line = 0; col = 0 }

-- a call before which so many ticks were left: it took one of them, so there was one
unfoldable pub call_act : List Method → ℕ → ℕ → Path → List Value → Act (Option Value)
call_act methods zero m p given st = Trapped trap.Ticks nowhere st.world
call_act methods (suc n) m p given st = run_method (call_act methods n) n (slice_get methods m) p given st

-- ---- events

-- the phases one after the other, each at its context, and then the reply
abbrev pub phases_run : (ℕ → Path → List Value → Act (Option Value)) → ℕ → List Phase → Option Last → Path → Act (Option Value)
phases_run call n [] last p = last_value call n p last
phases_run call n (f ∷ fs) last p = do
  k ← value call p (tree_of f.key)
  enter_at (child p f.class.0 k) f.at
  release (child p f.class.0 k)
  effects call n (child p f.class.0 k) (steps_in f.body)
  phases_run call n fs last (child p f.class.0 k)

-- an event with its arguments as locals, where so many ticks are left
abbrev pub event_run : List Method → ℕ → Event → List Value → World → Outcome (Option Value)
event_run methods n e given w =
    (effects (call_act methods n) n [] (steps_in e.here) >> phases_run (call_act methods n) n e.phases e.last [])
    (record { locals = with_blanks given e.locals; world = w })
