-- What instructions do to how many contexts an event has entered: one more where it goes into one that it does not hold, and never more than
-- 256 in all.
use Rattle.std.proofs.Common.{◌≡◌, ◌≤◌, ◌⊎◌, inl, inr, ℕ, zero, suc, List, [], ◌∷◌, ◌++◌, length, if◌then◌else◌, Bool, true, false, Option, Some, None, ℤ, refl, subst, ◌∙◌}
use Rattle.std.specs.Prelude.{slice_get, slice_set, nat_lt, ◌==◌, Ok, Err}
use Rattle.std.proofs.lemmas.Bool.{ltb-true}
use Rattle.std.specs.BTreeSet.{insert_key}
use Rattle.std.specs.List.{filter}
use Rattle.wave_base.specs.declared.limits.TheConstants.{CONTEXTS, GENERATION, MESSAGES, SPAWNS}
use Rattle.wave_base.specs.declared.path.Path.{Path}
use Rattle.wave_base.specs.declared.outcome.Outcome.TheVariants.{Reply as Replied}
use Rattle.wave_base.specs.declared.pause.Pause.{Pause}
use Rattle.wave_base.specs.declared.pause.Pause.TheVariants as pause
use Rattle.wave_base.specs.declared.span.Span.{Span}
use Rattle.wave_base.specs.declared.trap.TrapKind.{TrapKind}
use Rattle.wave_base.specs.declared.trap.TrapKind.TheVariants as trap
use Rattle.wave_base.specs.Paths.{path_cmp, is_above}
use Rattle.wave_base.specs.declared.value.Kind.{Kind}
use Rattle.wave_base.specs.declared.value.Value.{Value}
use Rattle.wave_base.specs.declared.value.Value.TheVariants as v
use Rattle.value_ops.specs.Kinds.{Answer}
use Rattle.value_ops.specs.Operators.{takes_of, apply_row}
use Rattle.deferred_out.specs.Kept.{with_call}
use Rattle.downgrade_views.specs.Levels.{Level, field_at}
use Rattle.service_code.specs.declared.instr.Instr.{Instr}
use Rattle.service_code.specs.declared.instr.Instr.TheVariants.{PushInt, PushBool, PushText, PushEmpty, Load, Store, Field, SetField, Above, Op, PutLocal, PutField, CutLocal, CutField, Jump, JumpFalse, Tick, Call as CallOwn, CallDown, Return, Pop, Require, Send, Spawn, Go, Reply, End}
use Rattle.service_code.specs.declared.program.Program.{Program}
use Rattle.service_verify.specs.Boxes.{Frame, Box}
use Rattle.service_verify.specs.Segments.{go_on, enough, steps, segment}
use Rattle.service_verify.specs.Steps.{Move, Runs, Paused, Lost, with_some, on_top, on_truth, on_int, truth_of, int_of, taken_values, has_kinds, is_held, trap_move, end_move, answer_move, put_row, cut_row, step_to, entering, ticking, next_with, frame_at, with_result, runs, left, box_in_call, send_move, spawn_move, code_of, places_of, acts, act_move, frames_step, one_step}

-- an event that held these and had entered so many pauses in a context: one more is entered where it is not held, and there is room
abbrev pub Goes : List Path → ℕ → Box → Type 0
Goes held n b = (is_held held b.path ≡ true) × (b.entered ≡ n) ⊎ ((is_held held b.path ≡ false) × (b.entered ≡ suc n) × (suc n ≤ CONTEXTS))

abbrev pub Pauses : List Path → ℕ → Box → Pause → Type 0
Pauses held n b (pause.Go s) = Goes held n b
Pauses held n b (pause.Down s) = Goes held n b
Pauses held n b pause.Back = b.entered ≡ n
Pauses held n b (pause.Over r) = b.entered ≡ n

-- while it runs on it holds the same, and has entered as many
abbrev pub Keeps : List Path → ℕ → Move → Type 0
Keeps held n (Runs b fields) = (b.held ≡ held) × (b.entered ≡ n)
Keeps held n (Paused b fields why) = Pauses held n b why
Keeps held n Lost = Unit {0}

module _ (held : List Path) (n : ℕ) where
  abbrev K : Move → Type 0
  K m = Keeps held n m

  some_keeps : {A : Type 0} (o : Option A) (go : A → Move) → ((x : A) → K (go x)) → K (with_some o go)
  some_keeps None go e = tt
  some_keeps (Some x) go e = e x

  top_keeps : (s : List Value) (go : Value → List Value → Move) → ((x : Value) (s : List Value) → K (go x s)) → K (on_top s go)
  top_keeps [] go e = tt
  top_keeps (x ∷ s) go e = e x s

  int_keeps : (s : List Value) (go : ℤ → List Value → Move) → ((z : ℤ) (s : List Value) → K (go z s)) → K (on_int s go)
  int_keeps s go e = top_keeps s _ (λ x rest. some_keeps (int_of x) (λ z. go z rest) (λ z. e z rest))

  truth_keeps : (s : List Value) (go : Bool → List Value → Move) → ((c : Bool) (s : List Value) → K (go c s)) → K (on_truth s go)
  truth_keeps s go e = top_keeps s _ (λ x rest. some_keeps (truth_of x) (λ c. go c rest) (λ c. e c rest))

  if_keeps : (c : Bool) (x y : Move) → K x → K y → K (if c then x else y)
  if_keeps true x y e f = e
  if_keeps false x y e f = f

  answer_keeps : (a : Answer Value) (at : Span) (b : Box) (fields : List Value) (go : Value → Move) → ((x : Value) → K (go x)) → ((t : TrapKind) → K (trap_move t at b fields)) → K (answer_move a at b fields go)
  answer_keeps (Ok x) at b fields go e f = e x
  answer_keeps (Err t) at b fields go e f = f t

  tick_keeps : (m : ℕ) (go : ℕ → Move) (stop : Move) → ((n : ℕ) → K (go n)) → K stop → K (ticking m go stop)
  tick_keeps zero go stop e f = f
  tick_keeps (suc n) go stop e f = e n

  enter_keeps : (q : Path) (b : Box) (go : Box → Move) (stop : Move) → ((more : List Path) (entered : ℕ) → ((is_held b.held q ≡ true) × (entered ≡ b.entered) ⊎ ((is_held b.held q ≡ false) × (entered ≡ suc b.entered) × (suc b.entered ≤ CONTEXTS))) → K (go (record b { held = more; entered = entered }))) → K stop → K (entering q b go stop)
  enter_keeps q b go stop e f = by (is_held b.held q) refl
    where
      by_room : (c : Bool) → nat_lt b.entered CONTEXTS ≡ c → is_held b.held q ≡ false → K (if c then go (record b { held = insert_key path_cmp b.held q; entered = suc b.entered }) else stop)
      by_room true room is = e _ _ (inr (is, refl, ltb-true b.entered CONTEXTS room))
      by_room false room is = f

      by : (c : Bool) → is_held b.held q ≡ c → K (if c then go b else (if nat_lt b.entered CONTEXTS then go (record b { held = insert_key path_cmp b.held q; entered = suc b.entered }) else stop))
      by true is = e b.held b.entered (inl (is, refl))
      by false is = by_room (nat_lt b.entered CONTEXTS) refl is

  result_keeps : (o : Option Kind) (s : List Value) (go : Option Value → Move) → ((x : Option Value) → K (go x)) → K (with_result o s go)
  result_keeps None s go e = e None
  result_keeps (Some kind) s go e = top_keeps s _ (λ x rest. e (Some x))

module _ (program : Program) (levels : List Level) (f : Frame) (below : List Frame) (b : Box) (fields : List Value) (at : Span) where
  abbrev Kept : Move → Type 0
  Kept m = Keeps b.held b.entered m

  trap_keeps : (t : TrapKind) → Kept (trap_move t at b fields)
  trap_keeps t = refl

  left_keeps : (x : Option Value) → Kept (left program levels b f below fields x)
  left_keeps x = go below
    where
      go : (bs : List Frame) → Kept (left program levels b f bs fields x)
      go [] = tt
      go (g ∷ bs) = if_keeps b.held b.entered f.down _ _ refl (refl, refl)

  keeps : (i : Instr) → Kept (acts program levels i at f below b fields)
  keeps (PushInt z) = (refl, refl)
  keeps (PushBool c) = (refl, refl)
  keeps (PushText t) = some_keeps b.held b.entered (slice_get program.texts t) _ (λ x. (refl, refl))
  keeps PushEmpty = (refl, refl)
  keeps (Load s) = some_keeps b.held b.entered (slice_get f.locals s) _ (λ x. (refl, refl))
  keeps (Store s) = some_keeps b.held b.entered (slice_get f.locals s) _ (λ x. top_keeps b.held b.entered f.stack _ (λ x rest. (refl, refl)))
  keeps (Field i) = some_keeps b.held b.entered (slice_get fields i) _ (λ x. (refl, refl))
  keeps (SetField i) = some_keeps b.held b.entered (slice_get fields i) _ (λ x. top_keeps b.held b.entered f.stack _ (λ x rest. (refl, refl)))
  keeps (Above l i) = some_keeps b.held b.entered (field_at levels l i) _ (λ x. (refl, refl))
  keeps (Op r) = some_keeps b.held b.entered (taken_values (length (takes_of r)) [] f.stack) (λ t. if has_kinds (takes_of r) t.0 then answer_move (apply_row r t.0) at b fields (λ x. runs program levels b below (next_with f (x ∷ t.1)) fields) else Lost) (λ t. if_keeps b.held b.entered (has_kinds (takes_of r) t.0) (answer_move (apply_row r t.0) at b fields (λ x. runs program levels b below (next_with f (x ∷ t.1)) fields)) Lost (answer_keeps b.held b.entered (apply_row r t.0) at b fields (λ x. runs program levels b below (next_with f (x ∷ t.1)) fields) (λ x. (refl, refl)) trap_keeps) tt)
  keeps (PutLocal s) = some_keeps b.held b.entered (slice_get f.locals s) _ (λ m. int_keeps b.held b.entered f.stack _ (λ z rest. int_keeps b.held b.entered rest _ (λ u rest. answer_keeps b.held b.entered (apply_row put_row (m ∷ v.Int u ∷ v.Int z ∷ [])) at b fields (λ x. runs program levels b below (record (next_with f rest) { locals = slice_set f.locals s x }) fields) (λ x. (refl, refl)) trap_keeps)))
  keeps (PutField i) = some_keeps b.held b.entered (slice_get fields i) _ (λ m. int_keeps b.held b.entered f.stack _ (λ z rest. int_keeps b.held b.entered rest _ (λ u rest. answer_keeps b.held b.entered (apply_row put_row (m ∷ v.Int u ∷ v.Int z ∷ [])) at b fields (λ x. runs program levels b below (next_with f rest) (slice_set fields i x)) (λ x. (refl, refl)) trap_keeps)))
  keeps (CutLocal s) = some_keeps b.held b.entered (slice_get f.locals s) _ (λ m. int_keeps b.held b.entered f.stack _ (λ z rest. answer_keeps b.held b.entered (apply_row cut_row (m ∷ v.Int z ∷ [])) at b fields (λ x. runs program levels b below (record (next_with f rest) { locals = slice_set f.locals s x }) fields) (λ x. (refl, refl)) trap_keeps))
  keeps (CutField i) = some_keeps b.held b.entered (slice_get fields i) _ (λ m. int_keeps b.held b.entered f.stack _ (λ z rest. answer_keeps b.held b.entered (apply_row cut_row (m ∷ v.Int z ∷ [])) at b fields (λ x. runs program levels b below (next_with f rest) (slice_set fields i x)) (λ x. (refl, refl)) trap_keeps))
  keeps (Jump i) = (refl, refl)
  keeps (JumpFalse i) = truth_keeps b.held b.entered f.stack (λ x rest. runs program levels b below (if x then next_with f rest else frame_at f i rest) fields) (λ c rest. (refl, refl))
  keeps Tick = tick_keeps b.held b.entered b.ticks (λ n. runs program levels (record b { ticks = n }) below (next_with f f.stack) fields) (trap_move trap.Ticks at b fields) (λ n. (refl, refl)) (trap_keeps trap.Ticks)
  keeps (CallOwn g) = some_keeps b.held b.entered (slice_get program.functions g) (λ callee. with_some (taken_values (length callee.args) [] f.stack) (λ t. Runs (box_in_call program levels b f below t.1 g false callee t.0) fields)) (λ callee. some_keeps b.held b.entered (taken_values (length callee.args) [] f.stack) (λ t. Runs (box_in_call program levels b f below t.1 g false callee t.0) fields) (λ t. (refl, refl)))
  keeps (CallDown c g) = some_keeps b.held b.entered (slice_get program.functions g) _ (λ callee. some_keeps b.held b.entered (taken_values (length callee.args) [] f.stack) _ (λ t. int_keeps b.held b.entered t.1 _ (λ key rest. enter_keeps b.held b.entered (b.path ++ step_to program levels c.0 key ∷ []) b (λ b'. Paused (record (box_in_call program levels b' f below rest g true callee t.0) { path = b.path ++ step_to program levels c.0 key ∷ [] }) fields (pause.Down (step_to program levels c.0 key))) (trap_move trap.Reach at b fields) (λ more entered is. is) (trap_keeps trap.Reach))))
  keeps Return = some_keeps b.held b.entered (slice_get program.functions f.function) (λ own. with_result own.result f.stack (λ x. left program levels b f below fields x)) (λ own. result_keeps b.held b.entered own.result f.stack (λ x. left program levels b f below fields x) (λ x. left_keeps x))
  keeps Pop = top_keeps b.held b.entered f.stack (λ x rest. runs program levels b below (next_with f rest) fields) (λ x rest. (refl, refl))
  keeps Require = truth_keeps b.held b.entered f.stack (λ x rest. if x then runs program levels b below (next_with f rest) fields else trap_move trap.Require at b fields) (λ c rest. if_keeps b.held b.entered c (runs program levels b below (next_with f rest) fields) (trap_move trap.Require at b fields) (refl, refl) (trap_keeps trap.Require))
  keeps (Send t) = some_keeps b.held b.entered (slice_get program.texts t) (λ label. on_top f.stack (λ x rest. send_move program levels b below (next_with f rest) fields at (record { label = label; value = x }))) (λ label. top_keeps b.held b.entered f.stack (λ x rest. send_move program levels b below (next_with f rest) fields at (record { label = label; value = x })) (λ x rest. if_keeps b.held b.entered (nat_lt (length b.kept.messages) MESSAGES) _ (trap_move trap.Sends at b fields) (refl, refl) (trap_keeps trap.Sends)))
  keeps (Spawn e) = some_keeps b.held b.entered (slice_get program.shape.events e) (λ event. with_some (taken_values (length event.params) [] f.stack) (λ t. spawn_move program levels b below (next_with f t.1) fields at (record { event = e; args = t.0; generation = suc b.generation }))) (λ event. some_keeps b.held b.entered (taken_values (length event.params) [] f.stack) (λ t. spawn_move program levels b below (next_with f t.1) fields at (record { event = e; args = t.0; generation = suc b.generation })) (λ t. if_keeps b.held b.entered (b.generation == GENERATION) (trap_move trap.Generation at b fields) _ (trap_keeps trap.Generation) (if_keeps b.held b.entered (nat_lt (length b.kept.created) SPAWNS) (runs program levels (record b { kept = with_call b.kept (record { event = e; args = t.0; generation = suc b.generation }) }) below (next_with f t.1) fields) (trap_move trap.Spawns at b fields) (refl, refl) (trap_keeps trap.Spawns))))
  keeps (Go c) = int_keeps b.held b.entered f.stack _ (λ key rest. enter_keeps b.held b.entered (b.path ++ step_to program levels c.0 key ∷ []) b (λ b'. Paused (record b' { frames = next_with f rest ∷ below; path = b.path ++ step_to program levels c.0 key ∷ []; held = filter (is_above (b.path ++ step_to program levels c.0 key ∷ [])) b'.held }) fields (pause.Go (step_to program levels c.0 key))) (trap_move trap.Reach at b fields) (λ more entered is. is) (trap_keeps trap.Reach))
  keeps Reply = top_keeps b.held b.entered f.stack (λ x rest. end_move (Replied x) b fields) (λ x rest. refl)
  keeps End = refl

  acted_keeps : (i : Instr) → Kept (act_move program levels i at f below b fields)
  unfolding act_move
  acted_keeps i = keeps i

module _ (program : Program) (levels : List Level) where
  step_keeps : (b : Box) (fields : List Value) → Keeps b.held b.entered (one_step program levels b fields)
  unfolding one_step
  step_keeps b fields = go b.frames
    where
      go : (fs : List Frame) → Keeps b.held b.entered (frames_step program levels fs b fields)
      go [] = tt
      go (f ∷ below) =
          some_keeps b.held b.entered (slice_get (code_of (slice_get program.functions f.function)) f.place) (λ i. with_some (slice_get (places_of (slice_get program.functions f.function)) f.place) (λ at. act_move program levels i at f below b fields)) (λ i.
          some_keeps b.held b.entered (slice_get (places_of (slice_get program.functions f.function)) f.place) (λ at. act_move program levels i at f below b fields) (λ at. acted_keeps program levels f below b fields at i))

  steps_keep : (m : ℕ) (b : Box) (fields : List Value) (held : List Path) (n : ℕ) → b.held ≡ held → b.entered ≡ n → Keeps held n (steps program levels m b fields)
  unfolding steps
  steps_keep zero b fields held n same as_many = (same, as_many)
  steps_keep (suc m) b fields held n same as_many = go (one_step program levels b fields) (step_keeps b fields) (steps_keep m)
    where
      go : (x : Move) → Keeps b.held b.entered x → ((b : Box) (fields : List Value) (held : List Path) (n : ℕ) → b.held ≡ held → b.entered ≡ n → Keeps held n (steps program levels m b fields)) → Keeps held n (go_on (steps program levels m) x)
      go (Runs b' fields') k rest = rest b' fields' held n (k.0 ∙ same) (k.1 ∙ as_many)
      go (Paused b' fields' why) k rest = subst (λ h. Pauses h n b' why) same (subst (λ n. Pauses b.held n b' why) as_many k)
      go Lost k rest = tt

  pub segment_keeps : (b : Box) (fields : List Value) → Keeps b.held b.entered (segment program levels b fields)
  unfolding segment
  segment_keeps b fields = steps_keep (enough program b) b fields b.held b.entered refl refl
