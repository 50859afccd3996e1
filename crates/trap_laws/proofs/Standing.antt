-- What holds of each trap that can come of an event and of methods holds of the trap of an event: its ticks end before its fuel does.
use Rattle.std.proofs.Common.{◌≡◌, ℕ, zero, suc, ◌+◌, ◌≤◌, pos, Bool, true, false, nat_lt, ◌==◌, if◌then◌else◌, List, [], ◌∷◌, ◌++◌, length, get_or, slice_get, Option, Some, None, Ok, Err, refl, arith}
use Rattle.wave_base.specs.declared.limits.TheConstants.{CONTEXTS, MESSAGES, SPAWNS, GENERATION}
use Rattle.wave_base.specs.declared.path.Path.{Path}
use Rattle.wave_base.specs.declared.span.Span.{Span}
use Rattle.wave_base.specs.declared.trap.Trap.{Trap}
use Rattle.wave_base.specs.declared.trap.TrapKind.{TrapKind}
use Rattle.wave_base.specs.declared.trap.TrapKind.TheVariants as trap
use Rattle.wave_base.specs.declared.value.Value.{Value}
use Rattle.wave_base.specs.declared.value.Value.TheVariants.{Int, Bool as Truth}
use Rattle.value_ops.specs.Kinds.{Answer}
use Rattle.value_ops.specs.Operators.{apply_row}
use Rattle.resolved_service.specs.declared.service.Event.{Event}
use Rattle.resolved_service.specs.declared.service.Last.{Last}
use Rattle.resolved_service.specs.declared.service.Method.{Method}
use Rattle.resolved_service.specs.declared.service.Phase.{Phase}
use Rattle.resolved_service.specs.Meaning.{State, Returned, Finished, Outcome, Done, Trapped, Left, Act, and_then, ◌>>=◌, ◌>>◌, give, answer, with_world, tick, enter_at, choose, set_local, put_field, demand, row_add, row_lt, row_put, row_cut, worth, value, values, while_turns, for_test, for_body, maybe_value, effect, effects, else_effect, last_value, with_locals, with_blanks, run_method, call_act, phases_run, event_run}
use Rattle.resolved_service.specs.Steps.{Step, SetLocal, SetField, PutLocal, PutField, CutLocal, CutField, If, While, For, Require, Send, Spawn, Do, Return, Finish, Steps, no_steps, step, Else, no_else, otherwise, steps_in}
use Rattle.resolved_service.specs.View.{Tree, Const, Local, Field, Above, Op, And, Or, Call, Child, Trees, no_trees, tree, tree_of}
use Rattle.resolved_service.specs.World.{World, nothing, is_true, child, after_tick, after_change, with_entered, has, entering, sending, spawning, read_field, set_field}
use Rattle.trap_laws.specs.Traps.{of_operators, traps_at, tree_traps, trees_traps, maybe_traps, step_traps, steps_traps, else_traps, last_traps, method_traps, phases_traps, event_traps}
use Rattle.trap_laws.proofs.Rows.{is_operators, IsOperators, row_raises}

module _ (P : Trap → Type 0) where
  -- of each of them
  abbrev pub Each : List Trap → Type 0
  Each [] = Unit {0}
  Each (x ∷ xs) = P x × Each xs

  left : (xs ys : List Trap) → Each (xs ++ ys) → Each xs
  left [] ys e = tt
  left (x ∷ xs) ys e = (e.0, left xs ys e.1)

  right : (xs ys : List Trap) → Each (xs ++ ys) → Each ys
  right [] ys e = e
  right (x ∷ xs) ys e = right xs ys e.1

  -- at most so many ticks are left; or it is such a trap
  abbrev pub Good : {A : Type 0} → ℕ → Outcome A → Type 0
  Good k (Done a st) = st.world.ticks ≤ k
  Good k (Trapped t at w) = P (record { kind = t; at = at })
  Good k (Left l st) = st.world.ticks ≤ k

  -- a trap of this kind there
  abbrev At : TrapKind → Span → Type 0
  At kind at = P (record { kind = kind; at = at })

  -- all that operators raise there
  abbrev Ops : Span → Type 0
  Ops at = (kind : TrapKind) → is_operators kind ≡ true → At kind at

  ops : (at : Span) (rest : List Trap) → Each (traps_at at of_operators ++ rest) → Ops at
  ops at rest e trap.Overflow i = e.0
  ops at rest e trap.DivZero i = e.1.0
  ops at rest e trap.Absent i = e.1.1.0
  ops at rest e trap.Full i = e.1.1.1.0
  ops at rest e trap.TooLong i = e.1.1.1.1.0
  ops at rest e trap.Require i = cc
  ops at rest e trap.Ticks i = cc
  ops at rest e trap.Sends i = cc
  ops at rest e trap.Spawns i = cc
  ops at rest e trap.Generation i = cc
  ops at rest e trap.Reach i = cc

  abbrev Safe : {A : Type 0} → ℕ → Act A → Type 0
  Safe k a = (st : State) → st.world.ticks ≤ k → Good k (a st)

  weaker : {A : Type 0} (i j : ℕ) (o : Outcome A) → i ≤ j → Good i o → Good j o
  weaker i j (Done a st) l h = omega (arith, h)
  weaker i j (Trapped t at w) l h = h
  weaker i j (Left x st) l h = omega (arith, h)

  then_good : {A B : Type 0} (j : ℕ) (o : Outcome A) (f : A → Act B) → Good j o → ((a : A) → Safe j (f a)) → Good j (and_then o f)
  then_good j (Done a st) f h g = g a st h
  then_good j (Trapped t at w) f h g = h
  then_good j (Left l st) f h g = h

  choose_good : {A : Type 0} (j : ℕ) (b : Bool) (x y : Act A) → Safe j x → Safe j y → Safe j (choose b x y)
  choose_good j true x y h k = h
  choose_good j false x y h k = k

  answer_good : (j : ℕ) (a : Answer Value) (at : Span) → IsOperators a → Ops at → Safe j (answer a at)
  answer_good j (Ok v) at i e st h = h
  answer_good j (Err t) at i e st h = e t i

  answered : (j row : ℕ) (operands : List Value) (at : Span) → Ops at → (f : Value → Act (Unit {0})) → ((v : Value) → Safe j (f v)) → Safe j (λ st. and_then (answer (apply_row row operands) at st) f)
  answered j row operands at e f h st l = then_good j (answer (apply_row row operands) at st) f (answer_good j (apply_row row operands) at (row_raises row operands) e st l) h

  enter_good : (j : ℕ) (q : Path) (at : Span) → At trap.Reach at → Safe j (enter_at q at)
  unfolding entering
  enter_good j q at e st h =
      elim (has st.world.held q) as (λ b. Good j (with_world (if b then Ok (after_change st.world) else (if nat_lt (length st.world.entered) CONTEXTS then Ok (after_change (with_entered q st.world)) else Err trap.Reach)) at st)) [
        | true ↦ h
        | false ↦ elim (nat_lt (length st.world.entered) CONTEXTS) as (λ b. Good j (with_world (if b then Ok (after_change (with_entered q st.world)) else Err trap.Reach) at st)) [ true ↦ h | false ↦ e ]
      ]

  send_good : (j : ℕ) (label : List ℕ) (x : Value) (at : Span) → At trap.Sends at → Safe j (λ st. with_world (sending label x st.world) at st)
  unfolding sending
  send_good j label x at e st h =
      elim (nat_lt (length st.world.messages) MESSAGES) as (λ b. Good j (with_world (if b then Ok (record st.world { messages = st.world.messages ++ record { label = label; value = x } ∷ [] }) else Err trap.Sends) at st)) [ true ↦ h | false ↦ e ]

  spawn_good : (j event : ℕ) (args : List Value) (at : Span) → At trap.Generation at × At trap.Spawns at → Safe j (λ st. with_world (spawning event args st.world) at st)
  unfolding spawning
  spawn_good j event args at e st h =
      elim (st.world.generation == GENERATION) as (λ b. Good j (with_world (if b then Err trap.Generation else (if nat_lt (length st.world.created) SPAWNS then Ok (record st.world { created = st.world.created ++ record { event = event; args = args; generation = suc st.world.generation } ∷ [] }) else Err trap.Spawns)) at st)) [
        | true ↦ e.0
        | false ↦ elim (nat_lt (length st.world.created) SPAWNS) as (λ b. Good j (with_world (if b then Ok (record st.world { created = st.world.created ++ record { event = event; args = args; generation = suc st.world.generation } ∷ [] }) else Err trap.Spawns) at st)) [ true ↦ h | false ↦ e.1 ]
      ]

  demand_good : (j : ℕ) (b : Bool) (at : Span) → At trap.Require at → Safe j (demand b at)
  demand_good j true at e st h = h
  demand_good j false at e st h = e

  -- behind a tick fewer ticks are left
  took_good : {B : Type 0} (n j : ℕ) (st : State) (at : Span) → At trap.Ticks at → (f : Unit {0} → Act B) → n ≤ j → ((i : ℕ) → suc i ≤ j → Safe i (f tt)) → Good j (and_then (with_world (after_tick n st.world) at st) f)
  took_good zero j st at e f l h = e
  took_good (suc n) j st at e f l h =
      let after : State = record { locals = st.locals; world = record st.world { ticks = n } } in
      weaker n j (f tt after) (omega arith) (h n l after (omega arith))

  tick_good : {B : Type 0} (j : ℕ) (at : Span) → At trap.Ticks at → (f : Unit {0} → Act B) → ((i : ℕ) → suc i ≤ j → Safe i (f tt)) → Safe j (tick at >>= f)
  tick_good j at e f h st l = took_good st.world.ticks j st at e f l h

  took_self : (n j : ℕ) (st : State) (at : Span) → At trap.Ticks at → n ≤ j → Good j (with_world (after_tick n st.world) at st)
  took_self zero j st at e l = e
  took_self (suc n) j st at e l = omega arith

  -- ---- loops

  while_good : (n j : ℕ) → (test : Act Value) (body : Act (Unit {0})) (at : Span) → At trap.Ticks at → ((i : ℕ) → i ≤ j → Safe i test) → ((i : ℕ) → i ≤ j → Safe i body) → Safe j (while_turns n test body at)
  unfolding while_turns
  while_good zero j test body at e t b st h =
      then_good j (test st) _ (t j (omega arith) st h) (λ x. choose_good j (is_true x) (tick at) (give tt) (λ st h. took_self st.world.ticks j st at e h) (λ st h. h))
  while_good (suc n) j test body at e t b st h =
      then_good j (test st) _ (t j (omega arith) st h)
      (λ x. choose_good j (is_true x) (tick at >> (body >> while_turns n test body at)) (give tt)
      (tick_good j at e (λ _. body >> while_turns n test body at)
      (λ i f st h. then_good i (body st) (λ _. while_turns n test body at) (b i (omega arith) st h)
      (λ u. while_good n i test body at e (λ m g. t m (omega arith)) (λ m g. b m (omega arith)))))
      (λ st h. h))

  for_good : (j counter : ℕ) (at : Span) → Ops at → (body : Act (Unit {0})) → Safe j body → Safe j (for_body counter at body)
  for_good j counter at e body b st h =
      then_good j (body _) _ (b _ h) (λ u st h. answered j row_add (get_or st.locals counter (Int (pos 0)) ∷ Int (pos 1) ∷ []) at e (set_local counter) (λ v st h. h) st h)

  test_good : (j counter : ℕ) (at : Span) → Ops at → Safe j (for_test counter at)
  test_good j counter at e st h = answer_good j _ at (row_raises row_lt (get_or st.locals counter nothing ∷ get_or st.locals (counter + 1) nothing ∷ [])) e st h

  -- ---- expressions and statements, where the calls that are met are good with one tick less

  module _ (call : ℕ → Path → List Value → Act (Option Value)) (k : ℕ) (calls : (m : ℕ) (q : Path) (given : List Value) (i : ℕ) → suc i ≤ k → Safe i (call m q given)) where
    module _ (p : Path) where
      mutual
        value_good : (t : Tree) → Each (tree_traps t) → (j : ℕ) → j ≤ k → Safe j (value call p t)
        value_good (Const at v) e j l st h = h
        value_good (Local at slot) e j l st h = h
        value_good (Field at f) e j l st h = h
        value_good (Above at level f) e j l st h = h
        value_good (Op at row ts) e j l st h = then_good j (values call p ts st) _ (values_good ts (right (traps_at at of_operators) (trees_traps ts) e) j l st h)
            (λ xs. answer_good j (apply_row row xs) at (row_raises row xs) (ops at (trees_traps ts) e))
        value_good (And at a b) e j l st h =
            then_good j (value call p a st) _ (value_good a (left (tree_traps a) (tree_traps b) e) j l st h)
            (λ x. choose_good j (is_true x) (value call p b) (give (Truth false)) (value_good b (right (tree_traps a) (tree_traps b) e) j l) (λ st h. h))
        value_good (Or at a b) e j l st h =
            then_good j (value call p a st) _ (value_good a (left (tree_traps a) (tree_traps b) e) j l st h)
            (λ x. choose_good j (is_true x) (give (Truth true)) (value call p b) (λ st h. h) (value_good b (right (tree_traps a) (tree_traps b) e) j l))
        value_good (Call at m ts) e j l st h =
            then_good j (values call p ts st) _ (values_good ts e.1 j l st h)
            (λ given. tick_good j at e.0 (λ _. call m p given >>= (λ r. give (worth r)))
            (λ i f st h. then_good i (call m p given st) _ (calls m p given i (omega arith) st h) (λ r st h. h)))
        value_good (Child at class m key ts) e j l st h =
            let below = e.1.1 in
            then_good j (value call p key st) _ (value_good key (left (tree_traps key) (trees_traps ts) below) j l st h)
            (λ c st h. then_good j (values call p ts st) _ (values_good ts (right (tree_traps key) (trees_traps ts) below) j l st h)
            (λ given. tick_good j at e.0 _
            (λ i f st h. then_good i (enter_at (child p class c) at st) _ (enter_good i (child p class c) at e.1.0 st h)
            (λ u st h. then_good i (call m (child p class c) given st) _ (calls m (child p class c) given i (omega arith) st h) (λ r st h. h)))))

        values_good : (ts : Trees) → Each (trees_traps ts) → (j : ℕ) → j ≤ k → Safe j (values call p ts)
        values_good no_trees e j l st h = h
        values_good (tree t ts) e j l st h =
            then_good j (value call p t st) _ (value_good t (left (tree_traps t) (trees_traps ts) e) j l st h)
            (λ v st h. then_good j (values call p ts st) _ (values_good ts (right (tree_traps t) (trees_traps ts) e) j l st h) (λ vs st h. h))

      module _ (n : ℕ) where
        maybe_good : (o : Option Tree) → Each (maybe_traps o) → (j : ℕ) → j ≤ k → Safe j (maybe_value call n p o)
        maybe_good None e j l st h = h
        maybe_good (Some t) e j l st h = then_good j (value call p t st) _ (value_good t e j l st h) (λ x st h. h)

        mutual
          unfolding set_field read_field

          effect_good : (s : Step) → Each (step_traps s) → (j : ℕ) → j ≤ k → Safe j (effect call n p s)
          effect_good (SetLocal at slot t) e j l st h = then_good j (value call p t st) _ (value_good t e j l st h) (λ v st h. h)
          effect_good (SetField at f t) e j l st h = then_good j (value call p t st) _ (value_good t e j l st h) (λ v st h. h)
          effect_good (PutLocal at slot key t) e j l st h =
              let both = right (traps_at at of_operators) (tree_traps key ++ tree_traps t) e in
              then_good j (value call p key st) _ (value_good key (left (tree_traps key) (tree_traps t) both) j l st h)
              (λ x st h. then_good j (value call p t st) _ (value_good t (right (tree_traps key) (tree_traps t) both) j l st h)
              (λ y st h. answered j row_put (get_or st.locals slot nothing ∷ x ∷ y ∷ []) at (ops at (tree_traps key ++ tree_traps t) e) (set_local slot) (λ v st h. h) st h))
          effect_good (PutField at f key t) e j l st h =
              let both = right (traps_at at of_operators) (tree_traps key ++ tree_traps t) e in
              then_good j (value call p key st) _ (value_good key (left (tree_traps key) (tree_traps t) both) j l st h)
              (λ x st h. then_good j (value call p t st) _ (value_good t (right (tree_traps key) (tree_traps t) both) j l st h)
              (λ y st h. answered j row_put (read_field f p st.world ∷ x ∷ y ∷ []) at (ops at (tree_traps key ++ tree_traps t) e) (put_field f p) (λ v st h. h) st h))
          effect_good (CutLocal at slot key) e j l st h =
              then_good j (value call p key st) _ (value_good key (right (traps_at at of_operators) (tree_traps key) e) j l st h)
              (λ x st h. answered j row_cut (get_or st.locals slot nothing ∷ x ∷ []) at (ops at (tree_traps key) e) (set_local slot) (λ v st h. h) st h)
          effect_good (CutField at f key) e j l st h =
              then_good j (value call p key st) _ (value_good key (right (traps_at at of_operators) (tree_traps key) e) j l st h)
              (λ x st h. answered j row_cut (read_field f p st.world ∷ x ∷ []) at (ops at (tree_traps key) e) (put_field f p) (λ v st h. h) st h)
          effect_good (If at test body other) e j l st h =
              let first = left (tree_traps test ++ steps_traps body) (else_traps other) e in
              then_good j (value call p test st) _ (value_good test (left (tree_traps test) (steps_traps body) first) j l st h)
              (λ t. choose_good j (is_true t) (effects call n p body) (else_effect call n p other) (effects_good body (right (tree_traps test) (steps_traps body) first) j l) (else_good other (right (tree_traps test ++ steps_traps body) (else_traps other) e) j l))
          effect_good (While at test body) e j l st h =
              while_good n j (value call p test) (effects call n p body) at e.0
              (λ i f. value_good test (left (tree_traps test) (steps_traps body) e.1) i (omega arith)) (λ i f. effects_good body (right (tree_traps test) (steps_traps body) e.1) i (omega arith)) st h
          effect_good (For at counter from to body) e j l st h =
              let rest = right (traps_at at of_operators) (tree_traps from ++ tree_traps to ++ steps_traps body) e.1 in
              let bounds = left (tree_traps from ++ tree_traps to) (steps_traps body) rest in
              let counts = ops at (tree_traps from ++ tree_traps to ++ steps_traps body) e.1 in
              then_good j (value call p from st) _ (value_good from (left (tree_traps from) (tree_traps to) bounds) j l st h)
              (λ a st h. then_good j (value call p to _) _ (value_good to (right (tree_traps from) (tree_traps to) bounds) j l _ h)
              (λ b st h. while_good n j (for_test counter at) (for_body counter at (effects call n p body)) at e.0
              (λ i f. test_good i counter at counts) (λ i f. for_good i counter at counts (effects call n p body) (effects_good body (right (tree_traps from ++ tree_traps to) (steps_traps body) rest) i (omega arith))) _ h))
          effect_good (Require at t) e j l st h = then_good j (value call p t st) _ (value_good t e.1 j l st h) (λ x. demand_good j (is_true x) at e.0)
          effect_good (Send at label t) e j l st h = then_good j (value call p t st) _ (value_good t e.1 j l st h) (λ x. send_good j label x at e.0)
          effect_good (Spawn at event ts) e j l st h = then_good j (values call p ts st) _ (values_good ts e.1.1 j l st h) (λ given. spawn_good j event given at (e.0, e.1.0))
          effect_good (Do at t) e j l st h = then_good j (value call p t st) _ (value_good t e j l st h) (λ v st h. h)
          effect_good (Return at o) e j l st h = then_good j (maybe_value call n p o st) _ (maybe_good o e j l st h) (λ r st h. h)
          effect_good (Finish at o) e j l st h = then_good j (maybe_value call n p o st) _ (maybe_good o e j l st h) (λ r st h. h)

          effects_good : (ss : Steps) → Each (steps_traps ss) → (j : ℕ) → j ≤ k → Safe j (effects call n p ss)
          effects_good no_steps e j l st h = h
          effects_good (step s ss) e j l st h = then_good j (effect call n p s st) _ (effect_good s (left (step_traps s) (steps_traps ss) e) j l st h) (λ u. effects_good ss (right (step_traps s) (steps_traps ss) e) j l)

          else_good : (o : Else) → Each (else_traps o) → (j : ℕ) → j ≤ k → Safe j (else_effect call n p o)
          else_good no_else e j l st h = h
          else_good (otherwise ss) e j l st h = effects_good ss e j l st h

        last_good : (last : Option Last) → Each (last_traps last) → (j : ℕ) → j ≤ k → Safe j (last_value call n p last)
        last_good None e j l st h = h
        last_good (Some last) e j l st h = then_good j (value call p (tree_of last.value) st) _ (value_good (tree_of last.value) e j l st h) (λ x st h. h)

    module _ (n : ℕ) where
      with_locals_good : (j : ℕ) (ls : List Value) (o : Outcome (Option Value)) → Good j o → Good j (with_locals ls o)
      with_locals_good j ls (Done r st) h = h
      with_locals_good j ls (Trapped t at w) h = h
      with_locals_good j ls (Left (Returned r) st) h = h
      with_locals_good j ls (Left (Finished r) st) h = h

      method_good : (o : Option Method) → ((m : Method) → o ≡ Some m → Each (method_traps m)) → (p : Path) (given : List Value) (j : ℕ) → j ≤ k → Safe j (run_method call n o p given)
      method_good None e p given j l st h = h
      method_good (Some m) e p given j l st h =
          let places = e m refl in
          with_locals_good j st.locals _ (then_good j (effects call n p (steps_in m.body) (record { locals = with_blanks given m.locals; world = st.world })) _
          (effects_good p n (steps_in m.body) (left (steps_traps (steps_in m.body)) (last_traps m.last) places) j l _ h)
          (λ u. last_good p n m.last (right (steps_traps (steps_in m.body)) (last_traps m.last) places) j l))

      phases_good : (fs : List Phase) (last : Option Last) → Each (phases_traps fs) → Each (last_traps last) → (p : Path) (j : ℕ) → j ≤ k → Safe j (phases_run call n fs last p)
      phases_good [] last e e' p j l st h = last_good p n last e' j l st h
      phases_good (f ∷ fs) last e e' p j l st h =
          let key = tree_traps (tree_of f.key) in
          let body = steps_traps (steps_in f.body) in
          let here = left (key ++ body) (phases_traps fs) e.1 in
          then_good j (value call p (tree_of f.key) st) _ (value_good p (tree_of f.key) (left key body here) j l st h)
          (λ c st h. then_good j (enter_at (child p f.class.0 c) f.at st) _ (enter_good j (child p f.class.0 c) f.at e.0 st h)
          (λ u st h. then_good j (effects call n (child p f.class.0 c) (steps_in f.body) _) _ (effects_good (child p f.class.0 c) n (steps_in f.body) (right key body here) j l _ h)
          (λ u. phases_good fs last (right (key ++ body) (phases_traps fs) e.1) e' (child p f.class.0 c) j l)))

  -- ---- calls and events

  module _ (methods : List Method) (places : (k : ℕ) (m : Method) → slice_get methods k ≡ Some m → Each (method_traps m)) where
    called_good : (n j : ℕ) → suc j ≤ n → (m : ℕ) (q : Path) (given : List Value) → Safe j (call_act methods n m q given)
    unfolding call_act
    called_good zero j l m q given = absurd (omega arith)
    called_good (suc n) j l m q given =
        method_good (call_act methods n) j (λ m q given i e. called_good n i (omega arith) m q given) n (slice_get methods m) (places m) q given j (omega arith)

    pub event_good : (n : ℕ) (e : Event) (given : List Value) (w : World) → w.ticks ≤ n → Each (event_traps e) → Good w.ticks (event_run methods n e given w)
    event_good n e given w l h =
        let j = w.ticks in
        let calls : (m : ℕ) (q : Path) (given : List Value) (i : ℕ) → suc i ≤ j → Safe i (call_act methods n m q given) = λ m q given i f. called_good n i (omega arith) m q given in
        let here = steps_traps (steps_in e.here) in
        let phases = phases_traps e.phases in
        let first = left (here ++ phases) (last_traps e.last) h in
        then_good j (effects (call_act methods n) n [] (steps_in e.here) (record { locals = with_blanks given e.locals; world = w })) _
        (effects_good (call_act methods n) j calls [] n (steps_in e.here) (left here phases first) j (omega arith) _ (omega arith))
        (λ u. phases_good (call_act methods n) j calls n e.phases e.last (right here phases first) (right (here ++ phases) (last_traps e.last) h) [] j (omega arith))
