-- With as much fuel as there are ticks, more fuel makes no difference.
use Rattle.std.proofs.Common.{◌≡◌, ℕ, zero, suc, ◌≤◌, pos, Bool, true, false, nat_lt, ◌==◌, if◌then◌else◌, List, [], ◌∷◌, ◌++◌, length, get_or, slice_get, Option, Some, None, Ok, Err, refl, ap, subst, arith}
use Rattle.wave_base.specs.declared.limits.TheConstants.{CONTEXTS, MESSAGES, SPAWNS, GENERATION}
use Rattle.wave_base.specs.declared.path.Path.{Path}
use Rattle.wave_base.specs.declared.span.Span.{Span}
use Rattle.wave_base.specs.declared.trap.TrapKind.TheVariants as trap
use Rattle.wave_base.specs.declared.value.Value.{Value}
use Rattle.wave_base.specs.declared.value.Value.TheVariants.{Int, Bool as Truth}
use Rattle.value_ops.specs.Kinds.{Answer}
use Rattle.value_ops.specs.Operators.{apply_row}
use Rattle.resolved_service.specs.declared.service.Event.{Event}
use Rattle.resolved_service.specs.declared.service.Last.{Last}
use Rattle.resolved_service.specs.declared.service.Method.{Method}
use Rattle.resolved_service.specs.declared.service.Phase.{Phase}
use Rattle.resolved_service.specs.Meaning.{State, Returned, Finished, Outcome, Done, Trapped, Left, Act, and_then, ◌>>=◌, ◌>>◌, give, answer, with_world, tick, enter_at, choose, set_local, put_field, demand, leave, row_add, row_put, row_cut, worth, value, values, while_turns, for_test, for_body, maybe_value, effect, effects, else_effect, last_value, with_locals, with_blanks, run_method, call_act, phases_run, event_run}
use Rattle.resolved_service.specs.Steps.{Step, SetLocal, SetField, PutLocal, PutField, CutLocal, CutField, If, While, For, Require, Send, Spawn, Do, Return, Finish, Steps, no_steps, step, Else, no_else, otherwise, steps_in}
use Rattle.resolved_service.specs.View.{Tree, Const, Local, Field, Above, Op, And, Or, Call, Child, Trees, no_trees, tree, tree_of}
use Rattle.resolved_service.specs.World.{World, nothing, is_true, child, after_tick, after_change, with_entered, has, entering, sending, spawning, read_field, set_field}

-- at most so many ticks are left
abbrev Few : {A : Type 0} → ℕ → Outcome A → Type 0
Few k (Done a st) = st.world.ticks ≤ k
Few k (Trapped t at w) = Unit {0}
Few k (Left l st) = st.world.ticks ≤ k

-- the same outcome, after which at most so many ticks are left
abbrev Same : {A : Type 0} → ℕ → Outcome A → Outcome A → Type 0
Same k o o' = (o ≡ o') × Few k o

abbrev Like : {A : Type 0} → ℕ → Act A → Act A → Type 0
Like k a a' = (st : State) → st.world.ticks ≤ k → Same k (a st) (a' st)

weaker : {A : Type 0} (i j : ℕ) (o o' : Outcome A) → i ≤ j → Same i o o' → Same j o o'
weaker i j (Done a st) o' l h = let few : st.world.ticks ≤ i = h.1 in (h.0, omega arith)
weaker i j (Trapped t at w) o' l h = h
weaker i j (Left x st) o' l h = let few : st.world.ticks ≤ i = h.1 in (h.0, omega arith)

then_like : {A B : Type 0} (j : ℕ) (o o' : Outcome A) (f f' : A → Act B) → Same j o o' → ((a : A) → Like j (f a) (f' a)) → Same j (and_then o f) (and_then o' f')
then_like j (Done a st) o' f f' h g = subst (λ x. Same j (f a st) (and_then x f')) h.0 (g a st h.1)
then_like j (Trapped t at w) o' f f' h g = (ap (λ x. and_then x f') h.0, tt)
then_like j (Left l st) o' f f' h g = (ap (λ x. and_then x f') h.0, h.1)

give_like : {A : Type 0} (j : ℕ) (a : A) → Like j (give a) (give a)
give_like j a st h = (refl, h)

choose_like : {A : Type 0} (j : ℕ) (b : Bool) (x x' y y' : Act A) → Like j x x' → Like j y y' → Like j (choose b x y) (choose b x' y')
choose_like j true x x' y y' h k = h
choose_like j false x x' y y' h k = k

answer_like : (j : ℕ) (a : Answer Value) (at : Span) → Like j (answer a at) (answer a at)
answer_like j (Ok v) at st h = (refl, h)
answer_like j (Err t) at st h = (refl, tt)

answered : (j : ℕ) (a : Answer Value) (at : Span) (f : Value → Act (Unit {0})) → ((v : Value) → Like j (f v) (f v)) → Like j (λ st. and_then (answer a at st) f) (λ st. and_then (answer a at st) f)
answered j a at f h st l = then_like j (answer a at st) (answer a at st) f f (answer_like j a at st l) h

enter_like : (j : ℕ) (q : Path) (at : Span) → Like j (enter_at q at) (enter_at q at)
unfolding entering
enter_like j q at st h = (
  refl,
  elim (has st.world.held q) as (λ b. Few j (with_world (if b then Ok (after_change st.world) else (if nat_lt (length st.world.entered) CONTEXTS then Ok (after_change (with_entered q st.world)) else Err trap.Reach)) at st)) [
    | true ↦ h
    | false ↦ elim (nat_lt (length st.world.entered) CONTEXTS) as (λ b. Few j (with_world (if b then Ok (after_change (with_entered q st.world)) else Err trap.Reach) at st)) [ true ↦ h | false ↦ tt ]
  ],
)

send_like : (j : ℕ) (label : List ℕ) (x : Value) (at : Span) → Like j (λ st. with_world (sending label x st.world) at st) (λ st. with_world (sending label x st.world) at st)
unfolding sending
send_like j label x at st h = (
  refl,
  elim (nat_lt (length st.world.messages) MESSAGES) as (λ b. Few j (with_world (if b then Ok (record st.world { messages = st.world.messages ++ record { label = label; value = x } ∷ [] }) else Err trap.Sends) at st)) [ true ↦ h | false ↦ tt ],
)

spawn_like : (j event : ℕ) (args : List Value) (at : Span) → Like j (λ st. with_world (spawning event args st.world) at st) (λ st. with_world (spawning event args st.world) at st)
unfolding spawning
spawn_like j event args at st h = (
  refl,
  elim (st.world.generation == GENERATION) as (λ b. Few j (with_world (if b then Err trap.Generation else (if nat_lt (length st.world.created) SPAWNS then Ok (record st.world { created = st.world.created ++ record { event = event; args = args; generation = suc st.world.generation } ∷ [] }) else Err trap.Spawns)) at st)) [
    | true ↦ tt
    | false ↦ elim (nat_lt (length st.world.created) SPAWNS) as (λ b. Few j (with_world (if b then Ok (record st.world { created = st.world.created ++ record { event = event; args = args; generation = suc st.world.generation } ∷ [] }) else Err trap.Spawns) at st)) [ true ↦ h | false ↦ tt ]
  ],
)

demand_like : (j : ℕ) (b : Bool) (at : Span) → Like j (demand b at) (demand b at)
demand_like j true at st h = (refl, h)
demand_like j false at st h = (refl, tt)

-- behind a tick fewer ticks are left
took_like : {B : Type 0} (n j : ℕ) (st : State) (at : Span) (f f' : Unit {0} → Act B) → n ≤ j → ((i : ℕ) → suc i ≤ j → Like i (f tt) (f' tt)) → Same j (and_then (with_world (after_tick n st.world) at st) f) (and_then (with_world (after_tick n st.world) at st) f')
took_like zero j st at f f' l h = (refl, tt)
took_like (suc n) j st at f f' l h =
    let after : State = record { locals = st.locals; world = record st.world { ticks = n } } in
    weaker n j (f tt after) (f' tt after) (omega arith) (h n l after (omega arith))

tick_like : {B : Type 0} (j : ℕ) (at : Span) (f f' : Unit {0} → Act B) → ((i : ℕ) → suc i ≤ j → Like i (f tt) (f' tt)) → Like j (tick at >>= f) (tick at >>= f')
tick_like j at f f' h st l = took_like st.world.ticks j st at f f' l h

took_self : (n j : ℕ) (st : State) (at : Span) → n ≤ j → Same j (with_world (after_tick n st.world) at st) (with_world (after_tick n st.world) at st)
took_self zero j st at l = (refl, tt)
took_self (suc n) j st at l = (refl, omega arith)

-- where no tick is left, nothing comes behind it
no_tick : (n j : ℕ) (st : State) (at : Span) (f : Unit {0} → Act (Unit {0})) → n ≤ j → j ≤ 0 → Same j (with_world (after_tick n st.world) at st) (and_then (with_world (after_tick n st.world) at st) f) × Same j (and_then (with_world (after_tick n st.world) at st) f) (with_world (after_tick n st.world) at st)
no_tick zero j st at f l e = ((refl, tt), (refl, tt))
no_tick (suc n) j st at f l e = absurd (omega arith)

-- ---- loops

while_like : (n n' j : ℕ) → j ≤ n → j ≤ n' → (test test' : Act Value) (body body' : Act (Unit {0})) (at : Span) → ((i : ℕ) → i ≤ j → Like i test test') → ((i : ℕ) → i ≤ j → Like i body body') → Like j (while_turns n test body at) (while_turns n' test' body' at)
unfolding while_turns
while_like zero zero j l l' test test' body body' at t b st h =
    then_like j (test st) (test' st) _ _ (t j (omega arith) st h) (λ x. choose_like j (is_true x) (tick at) (tick at) (give tt) (give tt) (λ st h. took_self st.world.ticks j st at h) (give_like j tt))
while_like zero (suc n') j l l' test test' body body' at t b st h =
    then_like j (test st) (test' st) _ _ (t j (omega arith) st h) (λ x. choose_like j (is_true x) (tick at) (tick at >> (body' >> while_turns n' test' body' at)) (give tt) (give tt) (λ st h. (no_tick st.world.ticks j st at (λ _. body' >> while_turns n' test' body' at) h l).0) (give_like j tt))
while_like (suc n) zero j l l' test test' body body' at t b st h =
    then_like j (test st) (test' st) _ _ (t j (omega arith) st h) (λ x. choose_like j (is_true x) (tick at >> (body >> while_turns n test body at)) (tick at) (give tt) (give tt) (λ st h. (no_tick st.world.ticks j st at (λ _. body >> while_turns n test body at) h l').1) (give_like j tt))
while_like (suc n) (suc n') j l l' test test' body body' at t b st h =
    then_like j (test st) (test' st) _ _ (t j (omega arith) st h)
    (λ x. choose_like j (is_true x) (tick at >> (body >> while_turns n test body at)) (tick at >> (body' >> while_turns n' test' body' at)) (give tt) (give tt)
    (tick_like j at (λ _. body >> while_turns n test body at) (λ _. body' >> while_turns n' test' body' at)
    (λ i e st h. then_like i (body st) (body' st) (λ _. while_turns n test body at) (λ _. while_turns n' test' body' at) (b i (omega arith) st h)
    (λ u. while_like n n' i (omega arith) (omega arith) test test' body body' at (λ m f. t m (omega arith)) (λ m f. b m (omega arith)))))
    (give_like j tt))

for_like : (j counter : ℕ) (at : Span) (body body' : Act (Unit {0})) → Like j body body' → Like j (for_body counter at body) (for_body counter at body')
for_like j counter at body body' b st h =
    then_like j (body _) (body' _) _ _ (b _ h) (λ u st h. answered j (apply_row row_add (get_or st.locals counter (Int (pos 0)) ∷ Int (pos 1) ∷ [])) at (set_local counter) (λ v st h. (refl, h)) st h)

test_like : (j counter : ℕ) (at : Span) → Like j (for_test counter at) (for_test counter at)
test_like j counter at st h = answer_like j _ at st h

-- ---- expressions and statements, where the calls that are met agree with one tick less

module _ (call call' : ℕ → Path → List Value → Act (Option Value)) (k : ℕ) (calls : (m : ℕ) (q : Path) (given : List Value) (i : ℕ) → suc i ≤ k → Like i (call m q given) (call' m q given)) where
  module _ (p : Path) where
    mutual
      value_like : (t : Tree) (j : ℕ) → j ≤ k → Like j (value call p t) (value call' p t)
      value_like (Const at v) j l st h = (refl, h)
      value_like (Local at slot) j l st h = (refl, h)
      value_like (Field at f) j l st h = (refl, h)
      value_like (Above at level f) j l st h = (refl, h)
      value_like (Op at row ts) j l st h = then_like j (values call p ts st) (values call' p ts st) _ _ (values_like ts j l st h) (λ ops. answer_like j (apply_row row ops) at)
      value_like (And at a b) j l st h = then_like j (value call p a st) (value call' p a st) _ _ (value_like a j l st h) (λ x. choose_like j (is_true x) (value call p b) (value call' p b) (give (Truth false)) (give (Truth false)) (value_like b j l) (give_like j (Truth false)))
      value_like (Or at a b) j l st h = then_like j (value call p a st) (value call' p a st) _ _ (value_like a j l st h) (λ x. choose_like j (is_true x) (give (Truth true)) (give (Truth true)) (value call p b) (value call' p b) (give_like j (Truth true)) (value_like b j l))
      value_like (Call at m ts) j l st h =
          then_like j (values call p ts st) (values call' p ts st) _ _ (values_like ts j l st h)
          (λ given. tick_like j at (λ _. call m p given >>= (λ r. give (worth r))) (λ _. call' m p given >>= (λ r. give (worth r)))
          (λ i e st h. then_like i (call m p given st) (call' m p given st) _ _ (calls m p given i (omega arith) st h) (λ r. give_like i (worth r))))
      value_like (Child at class m key ts) j l st h =
          then_like j (value call p key st) (value call' p key st) _ _ (value_like key j l st h)
          (λ c st h. then_like j (values call p ts st) (values call' p ts st) _ _ (values_like ts j l st h)
          (λ given. tick_like j at _ _
          (λ i e st h. then_like i (enter_at (child p class c) at st) (enter_at (child p class c) at st) _ _ (enter_like i (child p class c) at st h)
          (λ u st h. then_like i (call m (child p class c) given st) (call' m (child p class c) given st) _ _ (calls m (child p class c) given i (omega arith) st h) (λ r st h. (refl, h))))))

      values_like : (ts : Trees) (j : ℕ) → j ≤ k → Like j (values call p ts) (values call' p ts)
      values_like no_trees j l st h = (refl, h)
      values_like (tree t ts) j l st h =
          then_like j (value call p t st) (value call' p t st) _ _ (value_like t j l st h) (λ v st h. then_like j (values call p ts st) (values call' p ts st) _ _ (values_like ts j l st h) (λ vs. give_like j (v ∷ vs)))

    module _ (n n' : ℕ) (few : k ≤ n) (few' : k ≤ n') where
      maybe_like : (e : Option Tree) (j : ℕ) → j ≤ k → Like j (maybe_value call n p e) (maybe_value call' n' p e)
      maybe_like None j l st h = (refl, h)
      maybe_like (Some e) j l st h = then_like j (value call p e st) (value call' p e st) _ _ (value_like e j l st h) (λ x. give_like j (Some x))

      mutual
        unfolding set_field read_field

        effect_like : (s : Step) (j : ℕ) → j ≤ k → Like j (effect call n p s) (effect call' n' p s)
        effect_like (SetLocal at slot e) j l st h = then_like j (value call p e st) (value call' p e st) _ _ (value_like e j l st h) (λ v st h. (refl, h))
        effect_like (SetField at f e) j l st h = then_like j (value call p e st) (value call' p e st) _ _ (value_like e j l st h) (λ v st h. (refl, h))
        effect_like (PutLocal at slot key e) j l st h =
            then_like j (value call p key st) (value call' p key st) _ _ (value_like key j l st h)
            (λ x st h. then_like j (value call p e st) (value call' p e st) _ _ (value_like e j l st h) (λ y st h. answered j (apply_row row_put (get_or st.locals slot nothing ∷ x ∷ y ∷ [])) at (set_local slot) (λ v st h. (refl, h)) st h))
        effect_like (PutField at f key e) j l st h =
            then_like j (value call p key st) (value call' p key st) _ _ (value_like key j l st h)
            (λ x st h. then_like j (value call p e st) (value call' p e st) _ _ (value_like e j l st h) (λ y st h. answered j (apply_row row_put (read_field f p st.world ∷ x ∷ y ∷ [])) at (put_field f p) (λ v st h. (refl, h)) st h))
        effect_like (CutLocal at slot key) j l st h = then_like j (value call p key st) (value call' p key st) _ _ (value_like key j l st h) (λ x st h. answered j (apply_row row_cut (get_or st.locals slot nothing ∷ x ∷ [])) at (set_local slot) (λ v st h. (refl, h)) st h)
        effect_like (CutField at f key) j l st h = then_like j (value call p key st) (value call' p key st) _ _ (value_like key j l st h) (λ x st h. answered j (apply_row row_cut (read_field f p st.world ∷ x ∷ [])) at (put_field f p) (λ v st h. (refl, h)) st h)
        effect_like (If at test body other) j l st h =
            then_like j (value call p test st) (value call' p test st) _ _ (value_like test j l st h)
            (λ t. choose_like j (is_true t) (effects call n p body) (effects call' n' p body) (else_effect call n p other) (else_effect call' n' p other) (effects_like body j l) (else_like other j l))
        effect_like (While at test body) j l st h = while_like n n' j (omega arith) (omega arith) (value call p test) (value call' p test) (effects call n p body) (effects call' n' p body) at (λ i e. value_like test i (omega arith)) (λ i e. effects_like body i (omega arith)) st h
        effect_like (For at counter from to body) j l st h =
            then_like j (value call p from st) (value call' p from st) _ _ (value_like from j l st h)
            (λ a st h. then_like j (value call p to _) (value call' p to _) _ _ (value_like to j l _ h)
            (λ b st h. while_like n n' j (omega arith) (omega arith) (for_test counter at) (for_test counter at) (for_body counter at (effects call n p body)) (for_body counter at (effects call' n' p body)) at
            (λ i e. test_like i counter at) (λ i e. for_like i counter at (effects call n p body) (effects call' n' p body) (effects_like body i (omega arith))) _ h))
        effect_like (Require at e) j l st h = then_like j (value call p e st) (value call' p e st) _ _ (value_like e j l st h) (λ t. demand_like j (is_true t) at)
        effect_like (Send at label e) j l st h = then_like j (value call p e st) (value call' p e st) _ _ (value_like e j l st h) (λ x. send_like j label x at)
        effect_like (Spawn at event ts) j l st h = then_like j (values call p ts st) (values call' p ts st) _ _ (values_like ts j l st h) (λ given. spawn_like j event given at)
        effect_like (Do at e) j l st h = then_like j (value call p e st) (value call' p e st) _ _ (value_like e j l st h) (λ v. give_like j tt)
        effect_like (Return at e) j l st h = then_like j (maybe_value call n p e st) (maybe_value call' n' p e st) (leave Returned) (leave Returned) (maybe_like e j l st h) (λ r st h. (refl, h))
        effect_like (Finish at e) j l st h = then_like j (maybe_value call n p e st) (maybe_value call' n' p e st) (leave Finished) (leave Finished) (maybe_like e j l st h) (λ r st h. (refl, h))

        effects_like : (ss : Steps) (j : ℕ) → j ≤ k → Like j (effects call n p ss) (effects call' n' p ss)
        effects_like no_steps j l st h = (refl, h)
        effects_like (step s ss) j l st h = then_like j (effect call n p s st) (effect call' n' p s st) _ _ (effect_like s j l st h) (λ u. effects_like ss j l)

        else_like : (o : Else) (j : ℕ) → j ≤ k → Like j (else_effect call n p o) (else_effect call' n' p o)
        else_like no_else j l st h = (refl, h)
        else_like (otherwise ss) j l st h = effects_like ss j l st h

      last_like : (last : Option Last) (j : ℕ) → j ≤ k → Like j (last_value call n p last) (last_value call' n' p last)
      last_like None j l st h = (refl, h)
      last_like (Some last) j l st h = then_like j (value call p (tree_of last.value) st) (value call' p (tree_of last.value) st) _ _ (value_like (tree_of last.value) j l st h) (λ x. give_like j (Some x))

  module _ (n n' : ℕ) (few : k ≤ n) (few' : k ≤ n') where
    few_locals : (j : ℕ) (ls : List Value) (o : Outcome (Option Value)) → Few j o → Few j (with_locals ls o)
    few_locals j ls (Done r st) h = h
    few_locals j ls (Trapped t at w) h = tt
    few_locals j ls (Left (Returned r) st) h = h
    few_locals j ls (Left (Finished r) st) h = h

    method_like : (m : Option Method) (p : Path) (given : List Value) (j : ℕ) → j ≤ k → Like j (run_method call n m p given) (run_method call' n' m p given)
    method_like None p given j l st h = (refl, h)
    method_like (Some m) p given j l st h =
        let inner : Same j ((effects call n p (steps_in m.body) >> last_value call n p m.last) (record { locals = with_blanks given m.locals; world = st.world })) ((effects call' n' p (steps_in m.body) >> last_value call' n' p m.last) (record { locals = with_blanks given m.locals; world = st.world })) =
        then_like j (effects call n p (steps_in m.body) _) (effects call' n' p (steps_in m.body) _) _ _ (effects_like p n n' few few' (steps_in m.body) j l _ h) (λ u. last_like p n n' few few' m.last j l) in
        (ap (with_locals st.locals) inner.0, few_locals j st.locals _ inner.1)

    phases_like : (fs : List Phase) (last : Option Last) (p : Path) (j : ℕ) → j ≤ k → Like j (phases_run call n fs last p) (phases_run call' n' fs last p)
    phases_like [] last p j l st h = last_like p n n' few few' last j l st h
    phases_like (f ∷ fs) last p j l st h =
        then_like j (value call p (tree_of f.key) st) (value call' p (tree_of f.key) st) _ _ (value_like p (tree_of f.key) j l st h)
        (λ c st h. then_like j (enter_at (child p f.class.0 c) f.at st) (enter_at (child p f.class.0 c) f.at st) _ _ (enter_like j (child p f.class.0 c) f.at st h)
        (λ u st h. then_like j (effects call n (child p f.class.0 c) (steps_in f.body) _) (effects call' n' (child p f.class.0 c) (steps_in f.body) _) _ _ (effects_like (child p f.class.0 c) n n' few few' (steps_in f.body) j l _ h)
        (λ u. phases_like fs last (child p f.class.0 c) j l)))

-- ---- calls and events

module _ (methods : List Method) where
  called_like : (n n' j : ℕ) → suc j ≤ n → suc j ≤ n' → (m : ℕ) (q : Path) (given : List Value) → Like j (call_act methods n m q given) (call_act methods n' m q given)
  unfolding call_act
  called_like zero n' j l l' m q given = absurd (omega arith)
  called_like (suc n) zero j l l' m q given = absurd (omega arith)
  called_like (suc n) (suc n') j l l' m q given =
      method_like (call_act methods n) (call_act methods n') j (λ m q given i e. called_like n n' i (omega arith) (omega arith) m q given) n n' (omega arith) (omega arith) (slice_get methods m) q given j (omega arith)

  pub enough_fuel : (n n' : ℕ) (e : Event) (given : List Value) (w : World) → w.ticks ≤ n → w.ticks ≤ n' → event_run methods n e given w ≡ event_run methods n' e given w
  enough_fuel n n' e given w l l' =
      let j = w.ticks in
      let calls : (m : ℕ) (q : Path) (given : List Value) (i : ℕ) → suc i ≤ j → Like i (call_act methods n m q given) (call_act methods n' m q given) = λ m q given i f. called_like n n' i (omega arith) (omega arith) m q given in
      (then_like j (effects (call_act methods n) n [] (steps_in e.here) _) (effects (call_act methods n') n' [] (steps_in e.here) _) _ _
      (effects_like (call_act methods n) (call_act methods n') j calls [] n n' l l' (steps_in e.here) j (omega arith) (record { locals = with_blanks given e.locals; world = w }) (omega arith))
      (λ u. phases_like (call_act methods n) (call_act methods n') j calls n n' l l' e.phases e.last [] j (omega arith))).0
