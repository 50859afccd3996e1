-- What acts do doesn't depend on how often the event changed its place, nor on fuel beyond the ticks that are left.
use Rattle.std.proofs.Common.{◌≡◌, ℕ, zero, suc, ◌≤◌, pos, Bool, true, false, nat_lt, ◌==◌, if◌then◌else◌, List, [], ◌∷◌, ◌++◌, length, get_or, Option, Some, None, Ok, Err, refl, sym, ap, subst, ◌∙◌, arith}
use Rattle.std.specs.Prelude.{slice_get}
use Rattle.wave_base.specs.declared.limits.TheConstants.{CONTEXTS, MESSAGES, SPAWNS, GENERATION}
use Rattle.wave_base.specs.declared.path.Path.{Path}
use Rattle.wave_base.specs.declared.span.Span.{Span}
use Rattle.wave_base.specs.declared.trap.TrapKind.TheVariants as trap
use Rattle.wave_base.specs.declared.value.Value.{Value}
use Rattle.wave_base.specs.declared.value.Value.TheVariants.{Int, Bool as Truth}
use Rattle.value_ops.specs.Kinds.{Answer}
use Rattle.value_ops.specs.Operators.{apply_row}
use Rattle.resolved_service.specs.declared.service.Last.{Last}
use Rattle.resolved_service.specs.declared.service.Method.{Method}
use Rattle.resolved_service.specs.declared.service.Phase.{Phase}
use Rattle.resolved_service.specs.Meaning.{State, Returned, Finished, Outcome, Done, Trapped, Left, Act, and_then, ◌>>=◌, ◌>>◌, give, answer, with_world, tick, enter_at, choose, set_local, put_field, demand, leave, row_add, row_put, row_cut, worth, value, values, while_turns, for_test, for_body, maybe_value, effect, effects, else_effect, last_value, with_locals, with_blanks, run_method, call_act, phases_run}
use Rattle.resolved_service.specs.Steps.{Step, SetLocal, SetField, PutLocal, PutField, CutLocal, CutField, If, While, For, Require, Send, Spawn, Do, Return, Finish, Steps, no_steps, step, Else, no_else, otherwise, steps_in}
use Rattle.resolved_service.specs.View.{Tree, Const, Local, Field, Above, Op, And, Or, Call, Child, Trees, no_trees, tree, tree_of}
use Rattle.resolved_service.specs.World.{nothing, is_true, child, after_tick, after_change, with_entered, has, entering, sending, spawning, read_field, read_above, set_field}
use Rattle.service_eval.specs.inner.Traces.{uncounted_world, uncounted_outcome}

-- at most so many ticks are left
abbrev pub Few : {A : Type 0} → ℕ → Outcome A → Type 0
Few k (Done a st) = st.world.ticks ≤ k
Few k (Trapped t at w) = Unit {0}
Few k (Left l st) = st.world.ticks ≤ k

-- the same outcome, changes of place uncounted, after which at most so many ticks are left
abbrev pub Same : {A : Type 0} → ℕ → Outcome A → Outcome A → Type 0
Same k o o' = (uncounted_outcome o ≡ uncounted_outcome o') × Few k o

-- another number of changes of place
abbrev pub counted : ℕ → State → State
counted c st = record { locals = st.locals; world = record st.world { changes = c } }

abbrev pub Like : {A : Type 0} → ℕ → Act A → Act A → Type 0
Like k a a' = (st : State) (c : ℕ) → st.world.ticks ≤ k → Same k (a st) (a' (counted c st))

pub weaker : {A : Type 0} (i j : ℕ) (o o' : Outcome A) → i ≤ j → Same i o o' → Same j o o'
weaker i j (Done a st) o' l h = let few : st.world.ticks ≤ i = h.1 in (h.0, omega arith)
weaker i j (Trapped t at w) o' l h = h
weaker i j (Left x st) o' l h = let few : st.world.ticks ≤ i = h.1 in (h.0, omega arith)

-- states that differ in the number of changes alone
abbrev blank : State → State
blank st = record { locals = st.locals; world = uncounted_world st.world }

recounted : (s s' : State) → blank s ≡ blank s' → counted s'.world.changes s ≡ s'
recounted s s' e = ap (counted s'.world.changes) e

pub then_like : {A B : Type 0} (j : ℕ) (o o' : Outcome A) (f f' : A → Act B) → Same j o o' → ((a : A) → Like j (f a) (f' a)) → Same j (and_then o f) (and_then o' f')
then_like j (Done a st) (Done b s) f f' h g =
    let is : uncounted_outcome (Done a st) ≡ uncounted_outcome (Done b s) = h.0 in
    let x : a ≡ b = cc in
    let y : blank st ≡ blank s = cc in
    subst (λ z. Same j (f a st) (f' z s)) x (subst (λ z. Same j (f a st) (f' a z)) (recounted st s y) (g a st s.world.changes h.1))
then_like {A} j (Done a st) (Trapped t at w) f f' h g = let is : ◌≡◌ {A = Outcome A} (uncounted_outcome (Done a st)) (uncounted_outcome (Trapped t at w)) = h.0 in absurd cc
then_like {A} j (Done a st) (Left l s) f f' h g = let is : ◌≡◌ {A = Outcome A} (uncounted_outcome (Done a st)) (uncounted_outcome (Left l s)) = h.0 in absurd cc
then_like {A} j (Trapped t at w) (Done b s) f f' h g = let is : ◌≡◌ {A = Outcome A} (uncounted_outcome (Trapped t at w)) (uncounted_outcome (Done b s)) = h.0 in absurd cc
then_like {A} j (Trapped t at w) (Trapped t' at' w') f f' h g =
    let is : ◌≡◌ {A = Outcome A} (uncounted_outcome (Trapped t at w)) (uncounted_outcome (Trapped t' at' w')) = h.0 in
    let x : t ≡ t' = cc in
    let y : at ≡ at' = cc in
    let z : uncounted_world w ≡ uncounted_world w' = cc in
    ((λ i. Trapped (x i) (y i) (z i)), tt)
then_like {A} j (Trapped t at w) (Left l s) f f' h g = let is : ◌≡◌ {A = Outcome A} (uncounted_outcome (Trapped t at w)) (uncounted_outcome (Left l s)) = h.0 in absurd cc
then_like {A} j (Left l st) (Done b s) f f' h g = let is : ◌≡◌ {A = Outcome A} (uncounted_outcome (Left l st)) (uncounted_outcome (Done b s)) = h.0 in absurd cc
then_like {A} j (Left l st) (Trapped t at w) f f' h g = let is : ◌≡◌ {A = Outcome A} (uncounted_outcome (Left l st)) (uncounted_outcome (Trapped t at w)) = h.0 in absurd cc
then_like {A} j (Left l st) (Left l' s) f f' h g =
    let is : ◌≡◌ {A = Outcome A} (uncounted_outcome (Left l st)) (uncounted_outcome (Left l' s)) = h.0 in
    let x : l ≡ l' = cc in
    let y : blank st ≡ blank s = cc in
    ((λ i. Left (x i) (y i)), h.1)

pub give_like : {A : Type 0} (j : ℕ) (a : A) → Like j (give a) (give a)
give_like j a st c h = (refl, h)

pub choose_like : {A : Type 0} (j : ℕ) (b : Bool) (x x' y y' : Act A) → Like j x x' → Like j y y' → Like j (choose b x y) (choose b x' y')
choose_like j true x x' y y' h k = h
choose_like j false x x' y y' h k = k

pub answer_like : (j : ℕ) (a : Answer Value) (at : Span) → Like j (answer a at) (answer a at)
answer_like j (Ok v) at st c h = (refl, h)
answer_like j (Err t) at st c h = (refl, tt)

pub answered : (j : ℕ) (a : Answer Value) (at : Span) (f : Value → Act (Unit {0})) → ((v : Value) → Like j (f v) (f v)) → Like j (λ st. and_then (answer a at st) f) (λ st. and_then (answer a at st) f)
answered j a at f h st c l = then_like j (answer a at st) (answer a at (counted c st)) f f (answer_like j a at st c l) h

pub enter_like : (j : ℕ) (q : Path) (at : Span) → Like j (enter_at q at) (enter_at q at)
unfolding entering
enter_like j q at st c h =
    let w = st.world in
    let w' = (counted c st).world in
    elim (has st.world.held q) as (λ b. Same j (with_world (if b then Ok (after_change w) else (if nat_lt (length w.entered) CONTEXTS then Ok (after_change (with_entered q w)) else Err trap.Reach)) at st) (with_world (if b then Ok (after_change w') else (if nat_lt (length w.entered) CONTEXTS then Ok (after_change (with_entered q w')) else Err trap.Reach)) at (counted c st))) [
      | true ↦ (refl, h)
      | false ↦ elim (nat_lt (length w.entered) CONTEXTS) as (λ b. Same j (with_world (if b then Ok (after_change (with_entered q w)) else Err trap.Reach) at st) (with_world (if b then Ok (after_change (with_entered q w')) else Err trap.Reach) at (counted c st))) [ true ↦ (refl, h) | false ↦ (refl, tt) ]
    ]

pub send_like : (j : ℕ) (label : List ℕ) (x : Value) (at : Span) → Like j (λ st. with_world (sending label x st.world) at st) (λ st. with_world (sending label x st.world) at st)
unfolding sending
send_like j label x at st c h =
    let w = st.world in
    let w' = (counted c st).world in
    let sent = w.messages ++ record { label = label; value = x } ∷ [] in
    elim (nat_lt (length w.messages) MESSAGES) as (λ b. Same j (with_world (if b then Ok (record w { messages = sent }) else Err trap.Sends) at st) (with_world (if b then Ok (record w' { messages = sent }) else Err trap.Sends) at (counted c st))) [ true ↦ (refl, h) | false ↦ (refl, tt) ]

pub spawn_like : (j event : ℕ) (args : List Value) (at : Span) → Like j (λ st. with_world (spawning event args st.world) at st) (λ st. with_world (spawning event args st.world) at st)
unfolding spawning
spawn_like j event args at st c h =
    let w = st.world in
    let w' = (counted c st).world in
    let made = w.created ++ record { event = event; args = args; generation = suc w.generation } ∷ [] in
    elim (w.generation == GENERATION) as (λ b. Same j (with_world (if b then Err trap.Generation else (if nat_lt (length w.created) SPAWNS then Ok (record w { created = made }) else Err trap.Spawns)) at st) (with_world (if b then Err trap.Generation else (if nat_lt (length w.created) SPAWNS then Ok (record w' { created = made }) else Err trap.Spawns)) at (counted c st))) [
      | true ↦ (refl, tt)
      | false ↦ elim (nat_lt (length w.created) SPAWNS) as (λ b. Same j (with_world (if b then Ok (record w { created = made }) else Err trap.Spawns) at st) (with_world (if b then Ok (record w' { created = made }) else Err trap.Spawns) at (counted c st))) [ true ↦ (refl, h) | false ↦ (refl, tt) ]
    ]

pub demand_like : (j : ℕ) (b : Bool) (at : Span) → Like j (demand b at) (demand b at)
demand_like j true at st c h = (refl, h)
demand_like j false at st c h = (refl, tt)

-- behind a tick fewer ticks are left
took_like : {B : Type 0} (n j : ℕ) (st : State) (c : ℕ) (at : Span) (f f' : Unit {0} → Act B) → n ≤ j → ((i : ℕ) → suc i ≤ j → Like i (f tt) (f' tt)) → Same j (and_then (with_world (after_tick n st.world) at st) f) (and_then (with_world (after_tick n (counted c st).world) at (counted c st)) f')
took_like zero j st c at f f' l h = (refl, tt)
took_like (suc n) j st c at f f' l h =
    let after : State = record { locals = st.locals; world = record st.world { ticks = n } } in
    weaker n j (f tt after) (f' tt (counted c after)) (omega arith) (h n l after c (omega arith))

pub tick_like : {B : Type 0} (j : ℕ) (at : Span) (f f' : Unit {0} → Act B) → ((i : ℕ) → suc i ≤ j → Like i (f tt) (f' tt)) → Like j (tick at >>= f) (tick at >>= f')
tick_like j at f f' h st c l = took_like st.world.ticks j st c at f f' l h

took_self : (n j : ℕ) (st : State) (c : ℕ) (at : Span) → n ≤ j → Same j (with_world (after_tick n st.world) at st) (with_world (after_tick n (counted c st).world) at (counted c st))
took_self zero j st c at l = (refl, tt)
took_self (suc n) j st c at l = (refl, omega arith)

-- where no tick is left, nothing comes behind it
no_tick : (n j : ℕ) (st : State) (c : ℕ) (at : Span) (f : Unit {0} → Act (Unit {0})) → n ≤ j → j ≤ 0 → Same j (with_world (after_tick n st.world) at st) (and_then (with_world (after_tick n (counted c st).world) at (counted c st)) f) × Same j (and_then (with_world (after_tick n st.world) at st) f) (with_world (after_tick n (counted c st).world) at (counted c st))
no_tick zero j st c at f l e = ((refl, tt), (refl, tt))
no_tick (suc n) j st c at f l e = absurd (omega arith)

-- ---- loops

while_like : (n n' j : ℕ) → j ≤ n → j ≤ n' → (test test' : Act Value) (body body' : Act (Unit {0})) (at : Span) → ((i : ℕ) → i ≤ j → Like i test test') → ((i : ℕ) → i ≤ j → Like i body body') → Like j (while_turns n test body at) (while_turns n' test' body' at)
unfolding while_turns
while_like zero zero j l l' test test' body body' at t b st c h =
    then_like j (test st) (test' (counted c st)) _ _ (t j (omega arith) st c h) (λ x. choose_like j (is_true x) (tick at) (tick at) (give tt) (give tt) (λ st c h. took_self st.world.ticks j st c at h) (give_like j tt))
while_like zero (suc n') j l l' test test' body body' at t b st c h =
    then_like j (test st) (test' (counted c st)) _ _ (t j (omega arith) st c h) (λ x. choose_like j (is_true x) (tick at) (tick at >> (body' >> while_turns n' test' body' at)) (give tt) (give tt) (λ st c h. (no_tick st.world.ticks j st c at (λ _. body' >> while_turns n' test' body' at) h l).0) (give_like j tt))
while_like (suc n) zero j l l' test test' body body' at t b st c h =
    then_like j (test st) (test' (counted c st)) _ _ (t j (omega arith) st c h) (λ x. choose_like j (is_true x) (tick at >> (body >> while_turns n test body at)) (tick at) (give tt) (give tt) (λ st c h. (no_tick st.world.ticks j st c at (λ _. body >> while_turns n test body at) h l').1) (give_like j tt))
while_like (suc n) (suc n') j l l' test test' body body' at t b st c h =
    then_like j (test st) (test' (counted c st)) _ _ (t j (omega arith) st c h)
    (λ x. choose_like j (is_true x) (tick at >> (body >> while_turns n test body at)) (tick at >> (body' >> while_turns n' test' body' at)) (give tt) (give tt)
    (tick_like j at (λ _. body >> while_turns n test body at) (λ _. body' >> while_turns n' test' body' at)
    (λ i e st c h. then_like i (body st) (body' (counted c st)) (λ _. while_turns n test body at) (λ _. while_turns n' test' body' at) (b i (omega arith) st c h)
    (λ u. while_like n n' i (omega arith) (omega arith) test test' body body' at (λ m f. t m (omega arith)) (λ m f. b m (omega arith)))))
    (give_like j tt))

-- a loop, and its test and its first turn: where as many turns are left as ticks, one more makes no difference
pub turns_like : (n j : ℕ) → j ≤ n → (test : Act Value) (body : Act (Unit {0})) (at : Span) → ((i : ℕ) → i ≤ j → Like i test test) → ((i : ℕ) → i ≤ j → Like i body body) → Like j (while_turns n test body at) (test >>= (λ t. choose (is_true t) (tick at >> (body >> while_turns n test body at)) (give tt)))
unfolding while_turns
turns_like n j l test body at t b = while_like n (suc n) j l (omega arith) test test body body at t b

for_like : (j counter : ℕ) (at : Span) (body body' : Act (Unit {0})) → Like j body body' → Like j (for_body counter at body) (for_body counter at body')
for_like j counter at body body' b st c h =
    then_like j (body _) (body' _) _ _ (b _ c h) (λ u st c h. answered j (apply_row row_add (get_or st.locals counter (Int (pos 0)) ∷ Int (pos 1) ∷ [])) at (set_local counter) (λ v st c h. (refl, h)) st c h)

test_like : (j counter : ℕ) (at : Span) → Like j (for_test counter at) (for_test counter at)
test_like j counter at st c h = answer_like j _ at st c h

-- ---- expressions and statements, where the calls that are met agree with one tick less

module _ (call call' : ℕ → Path → List Value → Act (Option Value)) (k : ℕ) (calls : (m : ℕ) (q : Path) (given : List Value) (i : ℕ) → suc i ≤ k → Like i (call m q given) (call' m q given)) where
  module _ (p : Path) where
    mutual
      unfolding read_field read_above

      value_like : (t : Tree) (j : ℕ) → j ≤ k → Like j (value call p t) (value call' p t)
      value_like (Const at v) j l st c h = (refl, h)
      value_like (Local at slot) j l st c h = (refl, h)
      value_like (Field at f) j l st c h = (refl, h)
      value_like (Above at level f) j l st c h = (refl, h)
      value_like (Op at row ts) j l st c h = then_like j (values call p ts st) (values call' p ts (counted c st)) _ _ (values_like ts j l st c h) (λ ops. answer_like j (apply_row row ops) at)
      value_like (And at a b) j l st c h = then_like j (value call p a st) (value call' p a (counted c st)) _ _ (value_like a j l st c h) (λ x. choose_like j (is_true x) (value call p b) (value call' p b) (give (Truth false)) (give (Truth false)) (value_like b j l) (give_like j (Truth false)))
      value_like (Or at a b) j l st c h = then_like j (value call p a st) (value call' p a (counted c st)) _ _ (value_like a j l st c h) (λ x. choose_like j (is_true x) (give (Truth true)) (give (Truth true)) (value call p b) (value call' p b) (give_like j (Truth true)) (value_like b j l))
      value_like (Call at m ts) j l st c h =
          then_like j (values call p ts st) (values call' p ts (counted c st)) _ _ (values_like ts j l st c h)
          (λ given. tick_like j at (λ _. call m p given >>= (λ r. give (worth r))) (λ _. call' m p given >>= (λ r. give (worth r)))
          (λ i e st c h. then_like i (call m p given st) (call' m p given (counted c st)) _ _ (calls m p given i (omega arith) st c h) (λ r. give_like i (worth r))))
      value_like (Child at class m key ts) j l st c h =
          then_like j (value call p key st) (value call' p key (counted c st)) _ _ (value_like key j l st c h)
          (λ x st c h. then_like j (values call p ts st) (values call' p ts (counted c st)) _ _ (values_like ts j l st c h)
          (λ given. tick_like j at _ _
          (λ i e st c h. then_like i (enter_at (child p class x) at st) (enter_at (child p class x) at (counted c st)) _ _ (enter_like i (child p class x) at st c h)
          (λ u st c h. then_like i (call m (child p class x) given st) (call' m (child p class x) given (counted c st)) _ _ (calls m (child p class x) given i (omega arith) st c h) (λ r st c h. (refl, h))))))

      values_like : (ts : Trees) (j : ℕ) → j ≤ k → Like j (values call p ts) (values call' p ts)
      values_like no_trees j l st c h = (refl, h)
      values_like (tree t ts) j l st c h =
          then_like j (value call p t st) (value call' p t (counted c st)) _ _ (value_like t j l st c h) (λ v st c h. then_like j (values call p ts st) (values call' p ts (counted c st)) _ _ (values_like ts j l st c h) (λ vs. give_like j (v ∷ vs)))

    module _ (n n' : ℕ) (few : k ≤ n) (few' : k ≤ n') where
      maybe_like : (e : Option Tree) (j : ℕ) → j ≤ k → Like j (maybe_value call n p e) (maybe_value call' n' p e)
      maybe_like None j l st c h = (refl, h)
      maybe_like (Some e) j l st c h = then_like j (value call p e st) (value call' p e (counted c st)) _ _ (value_like e j l st c h) (λ x. give_like j (Some x))

      mutual
        unfolding set_field read_field

        effect_like : (s : Step) (j : ℕ) → j ≤ k → Like j (effect call n p s) (effect call' n' p s)
        effect_like (SetLocal at slot e) j l st c h = then_like j (value call p e st) (value call' p e (counted c st)) _ _ (value_like e j l st c h) (λ v st c h. (refl, h))
        effect_like (SetField at f e) j l st c h = then_like j (value call p e st) (value call' p e (counted c st)) _ _ (value_like e j l st c h) (λ v st c h. (refl, h))
        effect_like (PutLocal at slot key e) j l st c h =
            then_like j (value call p key st) (value call' p key (counted c st)) _ _ (value_like key j l st c h)
            (λ x st c h. then_like j (value call p e st) (value call' p e (counted c st)) _ _ (value_like e j l st c h) (λ y st c h. answered j (apply_row row_put (get_or st.locals slot nothing ∷ x ∷ y ∷ [])) at (set_local slot) (λ v st c h. (refl, h)) st c h))
        effect_like (PutField at f key e) j l st c h =
            then_like j (value call p key st) (value call' p key (counted c st)) _ _ (value_like key j l st c h)
            (λ x st c h. then_like j (value call p e st) (value call' p e (counted c st)) _ _ (value_like e j l st c h) (λ y st c h. answered j (apply_row row_put (read_field f p st.world ∷ x ∷ y ∷ [])) at (put_field f p) (λ v st c h. (refl, h)) st c h))
        effect_like (CutLocal at slot key) j l st c h = then_like j (value call p key st) (value call' p key (counted c st)) _ _ (value_like key j l st c h) (λ x st c h. answered j (apply_row row_cut (get_or st.locals slot nothing ∷ x ∷ [])) at (set_local slot) (λ v st c h. (refl, h)) st c h)
        effect_like (CutField at f key) j l st c h = then_like j (value call p key st) (value call' p key (counted c st)) _ _ (value_like key j l st c h) (λ x st c h. answered j (apply_row row_cut (read_field f p st.world ∷ x ∷ [])) at (put_field f p) (λ v st c h. (refl, h)) st c h)
        effect_like (If at test body other) j l st c h =
            then_like j (value call p test st) (value call' p test (counted c st)) _ _ (value_like test j l st c h)
            (λ t. choose_like j (is_true t) (effects call n p body) (effects call' n' p body) (else_effect call n p other) (else_effect call' n' p other) (effects_like body j l) (else_like other j l))
        effect_like (While at test body) j l st c h = while_like n n' j (omega arith) (omega arith) (value call p test) (value call' p test) (effects call n p body) (effects call' n' p body) at (λ i e. value_like test i (omega arith)) (λ i e. effects_like body i (omega arith)) st c h
        effect_like (For at counter from to body) j l st c h =
            then_like j (value call p from st) (value call' p from (counted c st)) _ _ (value_like from j l st c h)
            (λ a st c h. then_like j (value call p to _) (value call' p to _) _ _ (value_like to j l _ c h)
            (λ b st c h. while_like n n' j (omega arith) (omega arith) (for_test counter at) (for_test counter at) (for_body counter at (effects call n p body)) (for_body counter at (effects call' n' p body)) at
            (λ i e. test_like i counter at) (λ i e. for_like i counter at (effects call n p body) (effects call' n' p body) (effects_like body i (omega arith))) _ c h))
        effect_like (Require at e) j l st c h = then_like j (value call p e st) (value call' p e (counted c st)) _ _ (value_like e j l st c h) (λ t. demand_like j (is_true t) at)
        effect_like (Send at label e) j l st c h = then_like j (value call p e st) (value call' p e (counted c st)) _ _ (value_like e j l st c h) (λ x. send_like j label x at)
        effect_like (Spawn at event ts) j l st c h = then_like j (values call p ts st) (values call' p ts (counted c st)) _ _ (values_like ts j l st c h) (λ given. spawn_like j event given at)
        effect_like (Do at e) j l st c h = then_like j (value call p e st) (value call' p e (counted c st)) _ _ (value_like e j l st c h) (λ v. give_like j tt)
        effect_like (Return at e) j l st c h = then_like j (maybe_value call n p e st) (maybe_value call' n' p e (counted c st)) (leave Returned) (leave Returned) (maybe_like e j l st c h) (λ r st c h. (refl, h))
        effect_like (Finish at e) j l st c h = then_like j (maybe_value call n p e st) (maybe_value call' n' p e (counted c st)) (leave Finished) (leave Finished) (maybe_like e j l st c h) (λ r st c h. (refl, h))

        effects_like : (ss : Steps) (j : ℕ) → j ≤ k → Like j (effects call n p ss) (effects call' n' p ss)
        effects_like no_steps j l st c h = (refl, h)
        effects_like (step s ss) j l st c h = then_like j (effect call n p s st) (effect call' n' p s (counted c st)) _ _ (effect_like s j l st c h) (λ u. effects_like ss j l)

        else_like : (o : Else) (j : ℕ) → j ≤ k → Like j (else_effect call n p o) (else_effect call' n' p o)
        else_like no_else j l st c h = (refl, h)
        else_like (otherwise ss) j l st c h = effects_like ss j l st c h

      last_like : (last : Option Last) (j : ℕ) → j ≤ k → Like j (last_value call n p last) (last_value call' n' p last)
      last_like None j l st c h = (refl, h)
      last_like (Some last) j l st c h = then_like j (value call p (tree_of last.value) st) (value call' p (tree_of last.value) (counted c st)) _ _ (value_like (tree_of last.value) j l st c h) (λ x. give_like j (Some x))

  module _ (n n' : ℕ) (few : k ≤ n) (few' : k ≤ n') where
    inner_like : (j : ℕ) (ls : List Value) (o o' : Outcome (Option Value)) → Same j o o' → Same j (with_locals ls o) (with_locals ls o')
    inner_like j ls o o' h = (by_plain o o' h.0, few_locals o h.1)
      where
        few_locals : (o : Outcome (Option Value)) → Few j o → Few j (with_locals ls o)
        few_locals (Done r st) h = h
        few_locals (Trapped t at w) h = tt
        few_locals (Left (Returned r) st) h = h
        few_locals (Left (Finished r) st) h = h

        plainly : (o : Outcome (Option Value)) → uncounted_outcome (with_locals ls o) ≡ uncounted_outcome (with_locals ls (uncounted_outcome o))
        plainly (Done r st) = refl
        plainly (Trapped t at w) = refl
        plainly (Left (Returned r) st) = refl
        plainly (Left (Finished r) st) = refl

        by_plain : (o o' : Outcome (Option Value)) → uncounted_outcome o ≡ uncounted_outcome o' → uncounted_outcome (with_locals ls o) ≡ uncounted_outcome (with_locals ls o')
        by_plain o o' e = plainly o ∙ ap (λ x. uncounted_outcome (with_locals ls x)) e ∙ sym (plainly o')

    method_like : (m : Option Method) (p : Path) (given : List Value) (j : ℕ) → j ≤ k → Like j (run_method call n m p given) (run_method call' n' m p given)
    method_like None p given j l st c h = (refl, h)
    method_like (Some m) p given j l st c h =
        inner_like j st.locals _ _
        (then_like j (effects call n p (steps_in m.body) _) (effects call' n' p (steps_in m.body) _) _ _ (effects_like p n n' few few' (steps_in m.body) j l (record { locals = with_blanks given m.locals; world = st.world }) c h) (λ u. last_like p n n' few few' m.last j l))

    -- the way down and the phase's statements
    phase_like : (f : Phase) (q : Path) (rest rest' : Act (Option Value)) (j : ℕ) → j ≤ k → Like j rest rest' → Like j (effects call n q (steps_in f.body) >> rest) (effects call' n' q (steps_in f.body) >> rest')
    phase_like f q rest rest' j l r st c h =
        then_like j (effects call n q (steps_in f.body) st) (effects call' n' q (steps_in f.body) (counted c st)) _ _ (effects_like q n n' few few' (steps_in f.body) j l st c h) (λ u. r)

    phases_like : (fs : List Phase) (last : Option Last) (p : Path) (j : ℕ) → j ≤ k → Like j (phases_run call n fs last p) (phases_run call' n' fs last p)
    phases_like [] last p j l st c h = last_like p n n' few few' last j l st c h
    phases_like (f ∷ fs) last p j l st c h =
        then_like j (value call p (tree_of f.key) st) (value call' p (tree_of f.key) (counted c st)) _ _ (value_like p (tree_of f.key) j l st c h)
        (λ x st c h. then_like j (enter_at (child p f.class.0 x) f.at st) (enter_at (child p f.class.0 x) f.at (counted c st)) _ _ (enter_like j (child p f.class.0 x) f.at st c h)
        (λ u st c h. phase_like f (child p f.class.0 x) _ _ j l (phases_like fs last (child p f.class.0 x) j l) _ c h))

-- ---- calls

module _ (methods : List Method) where
  called_like : (n n' j : ℕ) → suc j ≤ n → suc j ≤ n' → (m : ℕ) (q : Path) (given : List Value) → Like j (call_act methods n m q given) (call_act methods n' m q given)
  unfolding call_act
  called_like zero n' j l l' m q given = absurd (omega arith)
  called_like (suc n) zero j l l' m q given = absurd (omega arith)
  called_like (suc n) (suc n') j l l' m q given =
      method_like (call_act methods n) (call_act methods n') j (λ m q given i e. called_like n n' i (omega arith) (omega arith) m q given) n n' (omega arith) (omega arith) (slice_get methods m) q given j (omega arith)

  -- a call, and its method's run with calls as deep as before
  pub run_like : (n j : ℕ) → suc j ≤ n → (m : ℕ) (q : Path) (given : List Value) → Like j (call_act methods n m q given) (run_method (call_act methods n) n (slice_get methods m) q given)
  unfolding call_act
  run_like zero j l m q given = absurd (omega arith)
  run_like (suc n) j l m q given =
      method_like (call_act methods n) (call_act methods (suc n)) j (λ m q given i e. called_like n (suc n) i (omega arith) (omega arith) m q given) n (suc n) (omega arith) (omega arith) (slice_get methods m) q given j (omega arith)

  -- what an act does twice is alike
  module _ (n : ℕ) where
    pub calls : (m : ℕ) (q : Path) (given : List Value) (i : ℕ) → suc i ≤ n → Like i (call_act methods n m q given) (call_act methods n m q given)
    calls m q given i e = called_like n n i e e m q given

    pub same_value : (p : Path) (t : Tree) (j : ℕ) → j ≤ n → Like j (value (call_act methods n) p t) (value (call_act methods n) p t)
    same_value p t j l = value_like (call_act methods n) (call_act methods n) n calls p t j l

    pub same_values : (p : Path) (ts : Trees) (j : ℕ) → j ≤ n → Like j (values (call_act methods n) p ts) (values (call_act methods n) p ts)
    same_values p ts j l = values_like (call_act methods n) (call_act methods n) n calls p ts j l

    pub same_effect : (p : Path) (s : Step) (j : ℕ) → j ≤ n → Like j (effect (call_act methods n) n p s) (effect (call_act methods n) n p s)
    same_effect p s j l = effect_like (call_act methods n) (call_act methods n) n calls p n n (omega arith) (omega arith) s j l

    pub same_effects : (p : Path) (ss : Steps) (j : ℕ) → j ≤ n → Like j (effects (call_act methods n) n p ss) (effects (call_act methods n) n p ss)
    same_effects p ss j l = effects_like (call_act methods n) (call_act methods n) n calls p n n (omega arith) (omega arith) ss j l

    pub same_phases : (fs : List Phase) (last : Option Last) (p : Path) (j : ℕ) → j ≤ n → Like j (phases_run (call_act methods n) n fs last p) (phases_run (call_act methods n) n fs last p)
    same_phases fs last p j l = phases_like (call_act methods n) (call_act methods n) n calls n n (omega arith) (omega arith) fs last p j l

    pub same_while : (p : Path) (test : Tree) (body : Steps) (at : Span) (j : ℕ) → j ≤ n → Like j (while_turns n (value (call_act methods n) p test) (effects (call_act methods n) n p body) at) (while_turns n (value (call_act methods n) p test) (effects (call_act methods n) n p body) at)
    same_while p test body at j l = while_like n n j l l _ _ _ _ at (λ i e. same_value p test i (omega arith)) (λ i e. same_effects p body i (omega arith))

    pub same_for : (p : Path) (counter : ℕ) (body : Steps) (at : Span) (j : ℕ) → j ≤ n → Like j (while_turns n (for_test counter at) (for_body counter at (effects (call_act methods n) n p body)) at) (while_turns n (for_test counter at) (for_body counter at (effects (call_act methods n) n p body)) at)
    same_for p counter body at j l = while_like n n j l l _ _ _ _ at (λ i e. test_like i counter at) (λ i e. for_like i counter at (effects (call_act methods n) n p body) (effects (call_act methods n) n p body) (same_effects p body i (omega arith)))

    -- loops and their first turns
    pub while_turn : (p : Path) (test : Tree) (body : Steps) (at : Span) (j : ℕ) → j ≤ n → Like j (while_turns n (value (call_act methods n) p test) (effects (call_act methods n) n p body) at) (value (call_act methods n) p test >>= (λ t. choose (is_true t) (tick at >> (effects (call_act methods n) n p body >> while_turns n (value (call_act methods n) p test) (effects (call_act methods n) n p body) at)) (give tt)))
    while_turn p test body at j l = turns_like n j l _ _ at (λ i e. same_value p test i (omega arith)) (λ i e. same_effects p body i (omega arith))

    pub for_turn : (p : Path) (counter : ℕ) (body : Steps) (at : Span) (j : ℕ) → j ≤ n → Like j (while_turns n (for_test counter at) (for_body counter at (effects (call_act methods n) n p body)) at) (for_test counter at >>= (λ t. choose (is_true t) (tick at >> (for_body counter at (effects (call_act methods n) n p body) >> while_turns n (for_test counter at) (for_body counter at (effects (call_act methods n) n p body)) at)) (give tt)))
    for_turn p counter body at j l = turns_like n j l _ _ at (λ i e. test_like i counter at) (λ i e. for_like i counter at (effects (call_act methods n) n p body) (effects (call_act methods n) n p body) (same_effects p body i (omega arith)))
