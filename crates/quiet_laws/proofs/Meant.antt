-- What each instruction does to the fields, and to which child it calls.
use Rattle.std.proofs.Common.{◌≡◌, ℕ, zero, suc, pos, ℤ, Bool, true, false, nat_lt, if◌then◌else◌, ◌==◌, List, [], ◌∷◌, ◌++◌, length, slice_get, slice_set, Option, Some, None, Ok, Err, refl, sym, ◌∙◌, ap, subst}
use Rattle.std.specs.Prelude.{codes}
use Rattle.wave_base.specs.declared.limits.TheConstants.{CONTEXTS, GENERATION, MESSAGES, SPAWNS}
use Rattle.wave_base.specs.declared.path.Class.{Class}
use Rattle.wave_base.specs.declared.pause.Pause.TheVariants as pause
use Rattle.wave_base.specs.declared.span.Span.{Span}
use Rattle.wave_base.specs.declared.trap.TrapKind.TheVariants as trap
use Rattle.wave_base.specs.declared.value.Kind.{Kind}
use Rattle.wave_base.specs.declared.value.Value.{Value}
use Rattle.wave_base.specs.declared.value.Value.TheVariants as v
use Rattle.value_ops.specs.Kinds.{Answer}
use Rattle.value_ops.specs.Operators.{operators, takes_of, apply_row}
use Rattle.downgrade_views.specs.Levels.{Level, field_at}
use Rattle.deferred_out.specs.Kept.{nothing}
use Rattle.service_code.specs.declared.instr.Instr.{Instr}
use Rattle.service_code.specs.declared.instr.Instr.TheVariants.{PushInt, PushBool, PushText, PushEmpty, Load, Store, Field, SetField, Above, Op, PutLocal, PutField, CutLocal, CutField, Jump, JumpFalse, Tick, Call as CallOwn, CallDown, Return, Pop, Require, Send, Spawn, Go, Reply, End}
use Rattle.service_code.specs.declared.program.Function.{Function}
use Rattle.service_code.specs.declared.program.Program.{Program}
use Rattle.service_verify.specs.Boxes.{Frame, Box}
use Rattle.service_verify.specs.Looks.{is_quiet}
use Rattle.service_verify.specs.Steps.{Move, Paused, act_move, acts, answer_move, box_in_call, entering, has_kinds, int_of, is_held, left, next_with, on_int, on_top, on_truth, put_row, cut_row, runs, step_to, taken_values, ticking, trap_move, truth_of, with_result, with_some}
use Rattle.service_verify.proofs.Samples.{function, market}
use Rattle.quiet_laws.specs.Harmless.{Leaves, IsHarmless, QuietOnesAreHarmless}

-- ---- what is quiet is harmless

module _ (fields : List Value) where
  abbrev L : Move → Type 0
  L m = Leaves fields m

  some_leaves : {A : Type 0} (o : Option A) (go : A → Move) → ((x : A) → L (go x)) → L (with_some o go)
  some_leaves None go h = tt
  some_leaves (Some x) go h = h x

  top_leaves : (s : List Value) (go : Value → List Value → Move) → ((x : Value) (s : List Value) → L (go x s)) → L (on_top s go)
  top_leaves [] go h = tt
  top_leaves (x ∷ s) go h = h x s

  int_leaves : (s : List Value) (go : ℤ → List Value → Move) → ((z : ℤ) (s : List Value) → L (go z s)) → L (on_int s go)
  int_leaves s go h = top_leaves s _ (λ x rest. some_leaves (int_of x) (λ z. go z rest) (λ z. h z rest))

  truth_leaves : (s : List Value) (go : Bool → List Value → Move) → ((c : Bool) (s : List Value) → L (go c s)) → L (on_truth s go)
  truth_leaves s go h = top_leaves s _ (λ x rest. some_leaves (truth_of x) (λ c. go c rest) (λ c. h c rest))

  if_leaves : (c : Bool) (x y : Move) → L x → L y → L (if c then x else y)
  if_leaves true x y h g = h
  if_leaves false x y h g = g

  answer_leaves : (a : Answer Value) (at : Span) (b : Box) (go : Value → Move) → ((x : Value) → L (go x)) → L (answer_move a at b fields go)
  answer_leaves (Ok x) at b go h = h x
  answer_leaves (Err t) at b go h = refl

  tick_leaves : (m : ℕ) (go : ℕ → Move) (stop : Move) → ((n : ℕ) → L (go n)) → L stop → L (ticking m go stop)
  tick_leaves zero go stop h g = g
  tick_leaves (suc n) go stop h g = h n

  result_leaves : (o : Option Kind) (s : List Value) (go : Option Value → Move) → ((x : Option Value) → L (go x)) → L (with_result o s go)
  result_leaves None s go h = h None
  result_leaves (Some kind) s go h = top_leaves s _ (λ x rest. h (Some x))

  module _ (program : Program) (levels : List Level) (at : Span) (f : Frame) (below : List Frame) (b : Box) where
    back_leaves : (bs : List Frame) (x : Option Value) → L (left program levels b f bs fields x)
    back_leaves [] x = tt
    back_leaves (g ∷ bs) x = if_leaves f.down _ _ refl refl

    harmless : (i : Instr) → is_quiet (λ g. true) i ≡ true → L (acts program levels i at f below b fields)
    harmless (PushInt n) q = refl
    harmless (PushBool c) q = refl
    harmless (PushText t) q = some_leaves (slice_get program.texts t) _ (λ x. refl)
    harmless PushEmpty q = refl
    harmless (Load s) q = some_leaves (slice_get f.locals s) _ (λ x. refl)
    harmless (Store s) q = some_leaves (slice_get f.locals s) _ (λ old. top_leaves f.stack _ (λ x rest. refl))
    harmless (Field n) q = some_leaves (slice_get fields n) _ (λ x. refl)
    harmless (SetField n) q = cc
    harmless (Above l n) q = some_leaves (field_at levels l n) _ (λ x. refl)
    harmless (Op r) q = some_leaves (taken_values (length (takes_of r)) [] f.stack) _ (λ t. if_leaves (has_kinds (takes_of r) t.0) _ _ (answer_leaves (apply_row r t.0) at b _ (λ x. refl)) tt)
    harmless (PutLocal s) q = some_leaves (slice_get f.locals s) _ (λ m. int_leaves f.stack _ (λ z rest. int_leaves rest _ (λ u rest. answer_leaves (apply_row put_row (m ∷ v.Int u ∷ v.Int z ∷ [])) at b _ (λ x. refl))))
    harmless (PutField n) q = cc
    harmless (CutLocal s) q = some_leaves (slice_get f.locals s) _ (λ m. int_leaves f.stack _ (λ z rest. answer_leaves (apply_row cut_row (m ∷ v.Int z ∷ [])) at b _ (λ x. refl)))
    harmless (CutField n) q = cc
    harmless (Jump i) q = refl
    harmless (JumpFalse i) q = truth_leaves f.stack _ (λ c rest. refl)
    harmless Tick q = tick_leaves b.ticks _ _ (λ n. refl) refl
    harmless (CallOwn g) q = some_leaves (slice_get program.functions g) _ (λ callee. some_leaves (taken_values (length callee.args) [] f.stack) _ (λ t. refl))
    harmless (CallDown c g) q = cc
    harmless Return q = some_leaves (slice_get program.functions f.function) _ (λ own. result_leaves own.result f.stack _ (λ x. back_leaves below x))
    harmless Pop q = top_leaves f.stack _ (λ x rest. refl)
    harmless Require q = truth_leaves f.stack _ (λ c rest. if_leaves c _ _ refl refl)
    harmless (Send t) q = some_leaves (slice_get program.texts t) _ (λ label. top_leaves f.stack _ (λ x rest. if_leaves (nat_lt (length b.kept.messages) MESSAGES) _ _ refl refl))
    harmless (Spawn e) q =
        some_leaves (slice_get program.shape.events e) _ (λ event. some_leaves (taken_values (length event.params) [] f.stack) _
        (λ t. if_leaves (b.generation == GENERATION) _ _ refl (if_leaves (nat_lt (length b.kept.created) SPAWNS) _ _ refl refl)))
    harmless (Go c) q = int_leaves f.stack _ (λ key rest. if_leaves (is_held b.held _) _ _ refl (if_leaves (nat_lt b.entered CONTEXTS) _ _ refl refl))
    harmless Reply q = top_leaves f.stack _ (λ x rest. refl)
    harmless End q = refl

-- ---- the others are not

-- the value so many times, and once more
many : {X : Type 0} → ℕ → X → List X
many zero x = x ∷ []
many (suc n) x = x ∷ many n x

many_get : {X : Type 0} (n : ℕ) (x : X) → slice_get (many n x) n ≡ Some x
unfolding many
many_get zero x = refl
many_get (suc n) x = many_get n x

many_set : {X : Type 0} (n : ℕ) (x y : X) → slice_get (slice_set (many n x) n y) n ≡ Some y
unfolding many
many_set zero x y = refl
many_set (suc n) x y = many_set n x y

some_same : {X : Type 0} (a b : X) → Some a ≡ Some b → a ≡ b
some_same a b e = cc

-- one place changed, and nothing changed
changed : (n : ℕ) (x y : Value) → slice_set (many n x) n y ≡ many n x → y ≡ x
changed n x y e = some_same y x (sym (many_set n x y) ∙ ap (λ xs. slice_get xs n) e ∙ many_get n x)

abbrev at : Span
at = record { line = 1; col = 1 }

abbrev int : ℕ → Value
int n = v.Int (pos n)

abbrev frame : List Value → Frame
frame stack = record { function = 0; place = 0; stack = stack; locals = []; down = false }

abbrev box : Box
box = record { frames = []; path = []; ticks = 0; held = []; entered = 0; kept = nothing; generation = 0 }

-- 0 becomes 1, an empty map gets a pair, and one with a pair loses it
sets : (n : ℕ) → IsHarmless (SetField n) → ⊥
unfolding act_move
sets n h =
    let e = subst (λ o. Leaves (many n (int 0)) (with_some o (λ old. on_top (int 1 ∷ []) (λ x rest. runs market [] box [] (next_with (frame (int 1 ∷ [])) rest) (slice_set (many n (int 0)) n x)))))
    (many_get n (int 0)) (h market [] at (frame (int 1 ∷ [])) [] box (many n (int 0))) in
    let one : int 1 ≡ int 0 = changed n (int 0) (int 1) e in
    cc

abbrev pair : Value
pair = v.Map ((pos 1, pos 1) ∷ [])

puts : (n : ℕ) → IsHarmless (PutField n) → ⊥
unfolding act_move apply_row operators
puts n h =
    let stack : List Value = int 1 ∷ int 1 ∷ [] in
    let fields : List Value = many n (v.Map []) in
    let e = subst (λ o. Leaves fields (with_some o (λ m. on_int stack (λ value rest. on_int rest (λ key rest. answer_move (apply_row put_row (m ∷ v.Int key ∷ v.Int value ∷ [])) at box fields (λ x. runs market [] box [] (next_with (frame stack) rest) (slice_set fields n x)))))))
    (many_get n (v.Map [])) (h market [] at (frame stack) [] box fields) in
    let one : pair ≡ v.Map [] = changed n (v.Map []) pair e in
    cc

cuts : (n : ℕ) → IsHarmless (CutField n) → ⊥
unfolding act_move apply_row operators
cuts n h =
    let stack : List Value = int 1 ∷ [] in
    let fields : List Value = many n pair in
    let e = subst (λ o. Leaves fields (with_some o (λ m. on_int stack (λ key rest. answer_move (apply_row cut_row (m ∷ v.Int key ∷ [])) at box fields (λ x. runs market [] box [] (next_with (frame stack) rest) (slice_set fields n x))))))
    (many_get n pair) (h market [] at (frame stack) [] box fields) in
    let none : v.Map [] ≡ pair = changed n pair (v.Map []) e in
    cc

-- a call into a child pauses there
abbrev callee : Function
callee = function (codes "m") 1 false [] None [] 0 (Return ∷ [])

calls : (c : Class) (g : ℕ) → IsHarmless (CallDown c g) → ⊥
unfolding act_move
calls c g h =
    let program : Program = record market { functions = many g callee } in
    let stack : List Value = int 0 ∷ [] in
    subst (λ o. Leaves [] (with_some o (λ callee. with_some (taken_values (length callee.args) [] stack) (λ t.
    on_int t.1 (λ key rest. let q = box.path ++ step_to program [] c.0 key ∷ [] in
    entering q box (λ b. Paused (record (box_in_call program [] b (frame stack) [] rest g true callee t.0) { path = q }) [] (pause.Down (step_to program [] c.0 key)))
    (trap_move trap.Reach at box []))))))
    (many_get g callee) (h program [] at (frame stack) [] box [])

quiet_ones : (i : Instr) → IsHarmless i → is_quiet (λ g. true) i ≡ true
quiet_ones (SetField n) h = absurd (sets n h)
quiet_ones (PutField n) h = absurd (puts n h)
quiet_ones (CutField n) h = absurd (cuts n h)
quiet_ones (CallDown c g) h = absurd (calls c g h)
quiet_ones _ h = refl

pub exactly : QuietOnesAreHarmless
unfolding act_move
exactly i = (λ q program levels at f below b fields. harmless fields program levels at f below b i q, quiet_ones i)
