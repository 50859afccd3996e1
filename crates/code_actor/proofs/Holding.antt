-- What instructions do to the path where an event is and to the paths that it holds; and that no event's result moves a context.
use Rattle.std.proofs.Common.{◌≡◌, ℕ, zero, suc, List, [], ◌∷◌, ◌++◌, length, if◌then◌else◌, Bool, true, false, Option, Some, None, ℤ, refl, sym, ap, subst, ◌∙◌}
use Rattle.std.specs.Prelude.{slice_get, slice_set, nat_lt, ◌==◌, Ok, Err, unwrap_or}
use Rattle.std.specs.BTreeSet.{insert_key}
use Rattle.std.specs.List.{filter}
use Rattle.wave_base.specs.declared.limits.TheConstants.{CONTEXTS, GENERATION, MESSAGES, SPAWNS}
use Rattle.wave_base.specs.declared.path.Path.{Path}
use Rattle.wave_base.specs.declared.outcome.Outcome.TheVariants.{Reply as Replied}
use Rattle.wave_base.specs.declared.pause.Pause.{Pause}
use Rattle.wave_base.specs.declared.pause.Pause.TheVariants as pause
use Rattle.wave_base.specs.declared.span.Span.{Span}
use Rattle.wave_base.specs.declared.trap.TrapKind.{TrapKind}
use Rattle.wave_base.specs.declared.trap.TrapKind.TheVariants as trap
use Rattle.wave_base.specs.Paths.{path_cmp, is_above}
use Rattle.wave_base.specs.Places.{move_of}
use Rattle.wave_base.specs.declared.value.Kind.{Kind}
use Rattle.wave_base.specs.declared.value.Value.{Value}
use Rattle.wave_base.specs.declared.value.Value.TheVariants as v
use Rattle.value_ops.specs.Kinds.{Answer}
use Rattle.value_ops.specs.Operators.{takes_of, apply_row}
use Rattle.deferred_out.specs.Kept.{with_call}
use Rattle.downgrade_views.specs.Levels.{Level, field_at}
use Rattle.service_code.specs.declared.instr.Instr.{Instr}
use Rattle.service_code.specs.declared.instr.Instr.TheVariants.{PushInt, PushBool, PushText, PushEmpty, Load, Store, Field, SetField, Above, Op, PutLocal, PutField, CutLocal, CutField, Jump, JumpFalse, Tick, Call as CallOwn, CallDown, Return, Pop, Require, Send, Spawn, Go, Reply, End}
use Rattle.service_code.specs.declared.program.Program.{Program}
use Rattle.service_verify.specs.Boxes.{Frame, Box}
use Rattle.service_verify.specs.Segments.{Left, go_on, enough, steps, segment, left_by}
use Rattle.service_verify.specs.Steps.{Move, Runs, Paused, Lost, with_some, on_top, on_truth, on_int, truth_of, int_of, taken_values, has_kinds, is_held, trap_move, end_move, answer_move, put_row, cut_row, step_to, entering, ticking, next_with, frame_at, with_result, runs, left, box_in_call, send_move, spawn_move, code_of, places_of, acts, act_move, frames_step, one_step}

-- what is held once a context is entered, or was held
abbrev pub with_held : List Path → Path → List Path
with_held held q = if is_held held q then held else insert_key path_cmp held q

-- an event that was at p and held these pauses so
abbrev pub Pauses : Path → List Path → Box → Pause → Type 0
Pauses p held b (pause.Go s) = b.held ≡ filter (is_above (p ++ s ∷ [])) (with_held held (p ++ s ∷ []))
Pauses p held b (pause.Down s) = b.held ≡ with_held held (p ++ s ∷ [])
Pauses p held b pause.Back = b.held ≡ held
Pauses p held b (pause.Over r) = (b.path ≡ p) × (b.held ≡ held) × (move_of r ≡ None)

-- while it runs on it stays, and holds the same
abbrev pub Keeps : Path → List Path → Move → Type 0
Keeps p held (Runs b fields) = (b.path ≡ p) × (b.held ≡ held)
Keeps p held (Paused b fields why) = Pauses p held b why
Keeps p held Lost = Unit {0}

module _ (p : Path) (held : List Path) where
  abbrev K : Move → Type 0
  K m = Keeps p held m

  some_keeps : {A : Type 0} (o : Option A) (go : A → Move) → ((x : A) → K (go x)) → K (with_some o go)
  some_keeps None go e = tt
  some_keeps (Some x) go e = e x

  top_keeps : (s : List Value) (go : Value → List Value → Move) → ((x : Value) (s : List Value) → K (go x s)) → K (on_top s go)
  top_keeps [] go e = tt
  top_keeps (x ∷ s) go e = e x s

  int_keeps : (s : List Value) (go : ℤ → List Value → Move) → ((z : ℤ) (s : List Value) → K (go z s)) → K (on_int s go)
  int_keeps s go e = top_keeps s _ (λ x rest. some_keeps (int_of x) (λ z. go z rest) (λ z. e z rest))

  truth_keeps : (s : List Value) (go : Bool → List Value → Move) → ((c : Bool) (s : List Value) → K (go c s)) → K (on_truth s go)
  truth_keeps s go e = top_keeps s _ (λ x rest. some_keeps (truth_of x) (λ c. go c rest) (λ c. e c rest))

  if_keeps : (c : Bool) (x y : Move) → K x → K y → K (if c then x else y)
  if_keeps true x y e f = e
  if_keeps false x y e f = f

  answer_keeps : (a : Answer Value) (at : Span) (b : Box) (fields : List Value) (go : Value → Move) → ((x : Value) → K (go x)) → ((t : TrapKind) → K (trap_move t at b fields)) → K (answer_move a at b fields go)
  answer_keeps (Ok x) at b fields go e f = e x
  answer_keeps (Err t) at b fields go e f = f t

  tick_keeps : (m : ℕ) (go : ℕ → Move) (stop : Move) → ((n : ℕ) → K (go n)) → K stop → K (ticking m go stop)
  tick_keeps zero go stop e f = f
  tick_keeps (suc n) go stop e f = e n

  enter_keeps : (q : Path) (b : Box) (go : Box → Move) (stop : Move) → ((more : List Path) (entered : ℕ) → more ≡ with_held b.held q → K (go (record b { held = more; entered = entered }))) → K stop → K (entering q b go stop)
  enter_keeps q b go stop e f = by (is_held b.held q) refl
    where
      chosen : (c : Bool) → is_held b.held q ≡ c → (if c then b.held else insert_key path_cmp b.held q) ≡ with_held b.held q
      chosen c is = ap (λ c. if c then b.held else insert_key path_cmp b.held q) (sym is)

      by : (c : Bool) → is_held b.held q ≡ c → K (if c then go b else (if nat_lt b.entered CONTEXTS then go (record b { held = insert_key path_cmp b.held q; entered = suc b.entered }) else stop))
      by true is = e b.held b.entered (chosen true is)
      by false is = if_keeps (nat_lt b.entered CONTEXTS) _ _ (e _ _ (chosen false is)) f

  result_keeps : (o : Option Kind) (s : List Value) (go : Option Value → Move) → ((x : Option Value) → K (go x)) → K (with_result o s go)
  result_keeps None s go e = e None
  result_keeps (Some kind) s go e = top_keeps s _ (λ x rest. e (Some x))

module _ (program : Program) (levels : List Level) (f : Frame) (below : List Frame) (b : Box) (fields : List Value) (at : Span) where
  abbrev Kept : Move → Type 0
  Kept m = Keeps b.path b.held m

  trap_keeps : (t : TrapKind) → Kept (trap_move t at b fields)
  trap_keeps t = (refl, refl, refl)

  left_keeps : (x : Option Value) → Kept (left program levels b f below fields x)
  left_keeps x = go below
    where
      go : (bs : List Frame) → Kept (left program levels b f bs fields x)
      go [] = tt
      go (g ∷ bs) = if_keeps b.path b.held f.down _ _ refl (refl, refl)

  keeps : (i : Instr) → Kept (acts program levels i at f below b fields)
  keeps (PushInt z) = (refl, refl)
  keeps (PushBool c) = (refl, refl)
  keeps (PushText t) = some_keeps b.path b.held (slice_get program.texts t) _ (λ x. (refl, refl))
  keeps PushEmpty = (refl, refl)
  keeps (Load s) = some_keeps b.path b.held (slice_get f.locals s) _ (λ x. (refl, refl))
  keeps (Store s) = some_keeps b.path b.held (slice_get f.locals s) _ (λ x. top_keeps b.path b.held f.stack _ (λ x rest. (refl, refl)))
  keeps (Field i) = some_keeps b.path b.held (slice_get fields i) _ (λ x. (refl, refl))
  keeps (SetField i) = some_keeps b.path b.held (slice_get fields i) _ (λ x. top_keeps b.path b.held f.stack _ (λ x rest. (refl, refl)))
  keeps (Above l i) = some_keeps b.path b.held (field_at levels l i) _ (λ x. (refl, refl))
  keeps (Op r) = some_keeps b.path b.held (taken_values (length (takes_of r)) [] f.stack) (λ t. if has_kinds (takes_of r) t.0 then answer_move (apply_row r t.0) at b fields (λ x. runs program levels b below (next_with f (x ∷ t.1)) fields) else Lost) (λ t. if_keeps b.path b.held (has_kinds (takes_of r) t.0) (answer_move (apply_row r t.0) at b fields (λ x. runs program levels b below (next_with f (x ∷ t.1)) fields)) Lost (answer_keeps b.path b.held (apply_row r t.0) at b fields (λ x. runs program levels b below (next_with f (x ∷ t.1)) fields) (λ x. (refl, refl)) trap_keeps) tt)
  keeps (PutLocal s) = some_keeps b.path b.held (slice_get f.locals s) _ (λ m. int_keeps b.path b.held f.stack _ (λ z rest. int_keeps b.path b.held rest _ (λ u rest. answer_keeps b.path b.held (apply_row put_row (m ∷ v.Int u ∷ v.Int z ∷ [])) at b fields (λ x. runs program levels b below (record (next_with f rest) { locals = slice_set f.locals s x }) fields) (λ x. (refl, refl)) trap_keeps)))
  keeps (PutField i) = some_keeps b.path b.held (slice_get fields i) _ (λ m. int_keeps b.path b.held f.stack _ (λ z rest. int_keeps b.path b.held rest _ (λ u rest. answer_keeps b.path b.held (apply_row put_row (m ∷ v.Int u ∷ v.Int z ∷ [])) at b fields (λ x. runs program levels b below (next_with f rest) (slice_set fields i x)) (λ x. (refl, refl)) trap_keeps)))
  keeps (CutLocal s) = some_keeps b.path b.held (slice_get f.locals s) _ (λ m. int_keeps b.path b.held f.stack _ (λ z rest. answer_keeps b.path b.held (apply_row cut_row (m ∷ v.Int z ∷ [])) at b fields (λ x. runs program levels b below (record (next_with f rest) { locals = slice_set f.locals s x }) fields) (λ x. (refl, refl)) trap_keeps))
  keeps (CutField i) = some_keeps b.path b.held (slice_get fields i) _ (λ m. int_keeps b.path b.held f.stack _ (λ z rest. answer_keeps b.path b.held (apply_row cut_row (m ∷ v.Int z ∷ [])) at b fields (λ x. runs program levels b below (next_with f rest) (slice_set fields i x)) (λ x. (refl, refl)) trap_keeps))
  keeps (Jump i) = (refl, refl)
  keeps (JumpFalse i) = truth_keeps b.path b.held f.stack (λ x rest. runs program levels b below (if x then next_with f rest else frame_at f i rest) fields) (λ c rest. (refl, refl))
  keeps Tick = tick_keeps b.path b.held b.ticks (λ n. runs program levels (record b { ticks = n }) below (next_with f f.stack) fields) (trap_move trap.Ticks at b fields) (λ n. (refl, refl)) (trap_keeps trap.Ticks)
  keeps (CallOwn g) = some_keeps b.path b.held (slice_get program.functions g) (λ callee. with_some (taken_values (length callee.args) [] f.stack) (λ t. Runs (box_in_call program levels b f below t.1 g false callee t.0) fields)) (λ callee. some_keeps b.path b.held (taken_values (length callee.args) [] f.stack) (λ t. Runs (box_in_call program levels b f below t.1 g false callee t.0) fields) (λ t. (refl, refl)))
  keeps (CallDown c g) = some_keeps b.path b.held (slice_get program.functions g) _ (λ callee. some_keeps b.path b.held (taken_values (length callee.args) [] f.stack) _ (λ t. int_keeps b.path b.held t.1 _ (λ key rest. enter_keeps b.path b.held (b.path ++ step_to program levels c.0 key ∷ []) b (λ b'. Paused (record (box_in_call program levels b' f below rest g true callee t.0) { path = b.path ++ step_to program levels c.0 key ∷ [] }) fields (pause.Down (step_to program levels c.0 key))) (trap_move trap.Reach at b fields) (λ more entered is. is) (trap_keeps trap.Reach))))
  keeps Return = some_keeps b.path b.held (slice_get program.functions f.function) (λ own. with_result own.result f.stack (λ x. left program levels b f below fields x)) (λ own. result_keeps b.path b.held own.result f.stack (λ x. left program levels b f below fields x) (λ x. left_keeps x))
  keeps Pop = top_keeps b.path b.held f.stack (λ x rest. runs program levels b below (next_with f rest) fields) (λ x rest. (refl, refl))
  keeps Require = truth_keeps b.path b.held f.stack (λ x rest. if x then runs program levels b below (next_with f rest) fields else trap_move trap.Require at b fields) (λ c rest. if_keeps b.path b.held c (runs program levels b below (next_with f rest) fields) (trap_move trap.Require at b fields) (refl, refl) (trap_keeps trap.Require))
  keeps (Send t) = some_keeps b.path b.held (slice_get program.texts t) (λ label. on_top f.stack (λ x rest. send_move program levels b below (next_with f rest) fields at (record { label = label; value = x }))) (λ label. top_keeps b.path b.held f.stack (λ x rest. send_move program levels b below (next_with f rest) fields at (record { label = label; value = x })) (λ x rest. if_keeps b.path b.held (nat_lt (length b.kept.messages) MESSAGES) _ (trap_move trap.Sends at b fields) (refl, refl) (trap_keeps trap.Sends)))
  keeps (Spawn e) = some_keeps b.path b.held (slice_get program.shape.events e) (λ event. with_some (taken_values (length event.params) [] f.stack) (λ t. spawn_move program levels b below (next_with f t.1) fields at (record { event = e; args = t.0; generation = suc b.generation }))) (λ event. some_keeps b.path b.held (taken_values (length event.params) [] f.stack) (λ t. spawn_move program levels b below (next_with f t.1) fields at (record { event = e; args = t.0; generation = suc b.generation })) (λ t. if_keeps b.path b.held (b.generation == GENERATION) (trap_move trap.Generation at b fields) _ (trap_keeps trap.Generation) (if_keeps b.path b.held (nat_lt (length b.kept.created) SPAWNS) (runs program levels (record b { kept = with_call b.kept (record { event = e; args = t.0; generation = suc b.generation }) }) below (next_with f t.1) fields) (trap_move trap.Spawns at b fields) (refl, refl) (trap_keeps trap.Spawns))))
  keeps (Go c) = int_keeps b.path b.held f.stack _ (λ key rest. enter_keeps b.path b.held (b.path ++ step_to program levels c.0 key ∷ []) b (λ b'. Paused (record b' { frames = next_with f rest ∷ below; path = b.path ++ step_to program levels c.0 key ∷ []; held = filter (is_above (b.path ++ step_to program levels c.0 key ∷ [])) b'.held }) fields (pause.Go (step_to program levels c.0 key))) (trap_move trap.Reach at b fields) (λ more entered is. ap (filter (is_above (b.path ++ step_to program levels c.0 key ∷ []))) is) (trap_keeps trap.Reach))
  keeps Reply = top_keeps b.path b.held f.stack (λ x rest. end_move (Replied x) b fields) (λ x rest. (refl, refl, refl))
  keeps End = (refl, refl, refl)

  acted_keeps : (i : Instr) → Kept (act_move program levels i at f below b fields)
  unfolding act_move
  acted_keeps i = keeps i

module _ (program : Program) (levels : List Level) where
  step_keeps : (b : Box) (fields : List Value) → Keeps b.path b.held (one_step program levels b fields)
  unfolding one_step
  step_keeps b fields = go b.frames
    where
      go : (fs : List Frame) → Keeps b.path b.held (frames_step program levels fs b fields)
      go [] = tt
      go (f ∷ below) =
          some_keeps b.path b.held (slice_get (code_of (slice_get program.functions f.function)) f.place) (λ i. with_some (slice_get (places_of (slice_get program.functions f.function)) f.place) (λ at. act_move program levels i at f below b fields)) (λ i.
          some_keeps b.path b.held (slice_get (places_of (slice_get program.functions f.function)) f.place) (λ at. act_move program levels i at f below b fields) (λ at. acted_keeps program levels f below b fields at i))

  steps_keep : (m : ℕ) (b : Box) (fields : List Value) (p : Path) (held : List Path) → b.path ≡ p → b.held ≡ held → Keeps p held (steps program levels m b fields)
  unfolding steps
  steps_keep zero b fields p held at same = (at, same)
  steps_keep (suc m) b fields p held at same = go (one_step program levels b fields) (step_keeps b fields) (steps_keep m)
    where
      go : (x : Move) → Keeps b.path b.held x → ((b : Box) (fields : List Value) (p : Path) (held : List Path) → b.path ≡ p → b.held ≡ held → Keeps p held (steps program levels m b fields)) → Keeps p held (go_on (steps program levels m) x)
      go (Runs b' fields') k rest = rest b' fields' p held (k.0 ∙ at) (k.1 ∙ same)
      go (Paused b' fields' why) k rest = subst (λ h. Pauses p h b' why) same (subst (λ q. Pauses q b.held b' why) at k)
      go Lost k rest = tt

  pub segment_keeps : (b : Box) (fields : List Value) → Keeps b.path b.held (segment program levels b fields)
  unfolding segment
  segment_keeps b fields = steps_keep (enough program b) b fields b.path b.held refl refl

some_same : {A : Type 0} {x y : A} → Some x ≡ Some y → x ≡ y
some_same {A} {x} {y} e = ap (λ o. unwrap_or o x) e

-- what a segment leaves with its copies holds the same
pub left_keeps_by : (marks : List Bool) (levels : List Level) (p : Path) (held : List Path) (m : Move) (l : Left) → left_by marks levels m ≡ Some l → Keeps p held m → Pauses p held l.event.box l.pause
left_keeps_by marks levels p held (Runs b fields) l e k = cc
left_keeps_by marks levels p held Lost l e k = cc
left_keeps_by marks levels p held (Paused b fields why) l e k = by why e k
  where
    by : (why : Pause) → left_by marks levels (Paused b fields why) ≡ Some l → Pauses p held b why → Pauses p held l.event.box l.pause
    by (pause.Go s) e k = subst (λ (l : Left). Pauses p held l.event.box l.pause) (some_same e) k
    by (pause.Down s) e k = subst (λ (l : Left). Pauses p held l.event.box l.pause) (some_same e) k
    by pause.Back e k = subst (λ (l : Left). Pauses p held l.event.box l.pause) (some_same e) k
    by (pause.Over r) e k = subst (λ (l : Left). Pauses p held l.event.box l.pause) (some_same e) k
