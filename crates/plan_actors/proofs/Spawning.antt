-- What events create: at most four calls, each a generation later; and none ends as a move or a snapshot does.
use Rattle.std.proofs.Common.{◌≡◌, ◌≤◌, ◌<◌, ℕ, zero, suc, List, [], ◌∷◌, ◌++◌, length, if◌then◌else◌, Bool, true, false, Option, Some, None, ℤ, refl, sym, ap, subst, ◌∙◌, arith, length-append, ltb-true}
use Rattle.std.specs.Prelude.{slice_get, slice_set, nat_lt, ◌==◌, Ok, Err, All}
use Rattle.std.specs.BTreeSet.{insert_key}
use Rattle.std.specs.List.{filter}
use Rattle.std.proofs.lemmas.List.Elements.{All-nil, All-cons, All-append}
use Rattle.wave_base.specs.declared.call.Call.{Call}
use Rattle.wave_base.specs.declared.limits.TheConstants.{CONTEXTS, GENERATION, MESSAGES, SPAWNS}
use Rattle.wave_base.specs.declared.outcome.EventResult.{EventResult}
use Rattle.wave_base.specs.declared.outcome.Outcome.{Outcome}
use Rattle.wave_base.specs.declared.outcome.Outcome.TheVariants as out
use Rattle.wave_base.specs.declared.outcome.Outcome.TheVariants.{Reply as Replied}
use Rattle.wave_base.specs.declared.path.Path.{Path}
use Rattle.wave_base.specs.declared.pause.Pause.{Pause}
use Rattle.wave_base.specs.declared.pause.Pause.TheVariants as pause
use Rattle.wave_base.specs.declared.span.Span.{Span}
use Rattle.wave_base.specs.declared.trap.TrapKind.{TrapKind}
use Rattle.wave_base.specs.declared.trap.TrapKind.TheVariants as trap
use Rattle.wave_base.specs.Paths.{path_cmp, is_above}
use Rattle.wave_base.specs.Tree.{Tree}
use Rattle.wave_base.specs.declared.value.Kind.{Kind}
use Rattle.wave_base.specs.declared.value.Value.{Value}
use Rattle.wave_base.specs.declared.value.Value.TheVariants as v
use Rattle.value_ops.specs.Kinds.{Answer}
use Rattle.value_ops.specs.Operators.{takes_of, apply_row}
use Rattle.deferred_out.specs.Kept.{with_call}
use Rattle.downgrade_views.specs.Levels.{Level, field_at}
use Rattle.service_code.specs.declared.instr.Instr.{Instr}
use Rattle.service_code.specs.declared.instr.Instr.TheVariants.{PushInt, PushBool, PushText, PushEmpty, Load, Store, Field, SetField, Above, Op, PutLocal, PutField, CutLocal, CutField, Jump, JumpFalse, Tick, Call as CallOwn, CallDown, Return, Pop, Require, Send, Spawn, Go, Reply, End}
use Rattle.service_code.specs.declared.program.Program.{Program}
use Rattle.service_verify.specs.Boxes.{Frame, Box, first_box}
use Rattle.service_verify.specs.Segments.{go_on, enough, steps, segment}
use Rattle.service_verify.specs.Steps.{Move, Runs, Paused, Lost, with_some, on_top, on_truth, on_int, truth_of, int_of, taken_values, has_kinds, is_held, trap_move, end_move, answer_move, put_row, cut_row, step_to, entering, ticking, next_with, frame_at, with_result, runs, left, box_in_call, send_move, spawn_move, code_of, places_of, acts, act_move, frames_step, one_step}
use Rattle.service_verify.specs.Tours.{Fields, Tour, fields_above, into, tour_with, tour_if, next_tour, tour_after, first_tour, most_segments, code_tour}

-- an event's own end
abbrev pub is_event_end : Outcome → Bool
is_event_end out.Done = true
is_event_end (out.Reply x) = true
is_event_end (out.Trapped t) = true
is_event_end (out.Moved p h) = false
is_event_end (out.Absent p) = false
is_event_end (out.Shots s) = false

-- created by an event of this generation
pub record Spawned (g : ℕ) (calls : List Call) : Type 0 where
  pub few : length calls ≤ SPAWNS
  pub later : All (λ (d : Call). d.generation ≡ suc g) calls

pub record EventEnd (g : ℕ) (r : EventResult) : Type 0 where
  pub own : is_event_end r.outcome ≡ true
  pub spawned : Spawned g r.created

none_spawned : (g : ℕ) → Spawned g []
none_spawned g = record { few = omega arith; later = All-nil (λ (d : Call). d.generation ≡ suc g) }

module _ (g : ℕ) where
  abbrev pub So : Box → Type 0
  So b = (b.generation ≡ g) × Spawned g b.kept.created

  abbrev pub Pauses : Box → Pause → Type 0
  Pauses b (pause.Go s) = So b
  Pauses b (pause.Down s) = So b
  Pauses b pause.Back = So b
  Pauses b (pause.Over r) = EventEnd g r

  abbrev pub Keeps : Move → Type 0
  Keeps (Runs b fields) = So b
  Keeps (Paused b fields why) = Pauses b why
  Keeps Lost = Unit {0}

  abbrev K : Move → Type 0
  K m = Keeps m

  some_keeps : {A : Type 0} (o : Option A) (go : A → Move) → ((x : A) → K (go x)) → K (with_some o go)
  some_keeps None go e = tt
  some_keeps (Some x) go e = e x

  top_keeps : (s : List Value) (go : Value → List Value → Move) → ((x : Value) (s : List Value) → K (go x s)) → K (on_top s go)
  top_keeps [] go e = tt
  top_keeps (x ∷ s) go e = e x s

  int_keeps : (s : List Value) (go : ℤ → List Value → Move) → ((z : ℤ) (s : List Value) → K (go z s)) → K (on_int s go)
  int_keeps s go e = top_keeps s _ (λ x rest. some_keeps (int_of x) (λ z. go z rest) (λ z. e z rest))

  truth_keeps : (s : List Value) (go : Bool → List Value → Move) → ((c : Bool) (s : List Value) → K (go c s)) → K (on_truth s go)
  truth_keeps s go e = top_keeps s _ (λ x rest. some_keeps (truth_of x) (λ c. go c rest) (λ c. e c rest))

  if_keeps : (c : Bool) (x y : Move) → K x → K y → K (if c then x else y)
  if_keeps true x y e f = e
  if_keeps false x y e f = f

  answer_keeps : (a : Answer Value) (at : Span) (b : Box) (fields : List Value) (go : Value → Move) → ((x : Value) → K (go x)) → ((t : TrapKind) → K (trap_move t at b fields)) → K (answer_move a at b fields go)
  answer_keeps (Ok x) at b fields go e f = e x
  answer_keeps (Err t) at b fields go e f = f t

  tick_keeps : (m : ℕ) (go : ℕ → Move) (stop : Move) → ((n : ℕ) → K (go n)) → K stop → K (ticking m go stop)
  tick_keeps zero go stop e f = f
  tick_keeps (suc n) go stop e f = e n

  enter_keeps : (q : Path) (b : Box) (go : Box → Move) (stop : Move) → ((more : List Path) (entered : ℕ) → K (go (record b { held = more; entered = entered }))) → K stop → K (entering q b go stop)
  enter_keeps q b go stop e f = if_keeps (is_held b.held q) (go b) _ (e b.held b.entered) (if_keeps (nat_lt b.entered CONTEXTS) _ _ (e (insert_key path_cmp b.held q) (suc b.entered)) f)

  result_keeps : (o : Option Kind) (s : List Value) (go : Option Value → Move) → ((x : Option Value) → K (go x)) → K (with_result o s go)
  result_keeps None s go e = e None
  result_keeps (Some kind) s go e = top_keeps s _ (λ x rest. e (Some x))

  module _ (program : Program) (levels : List Level) (f : Frame) (below : List Frame) (b : Box) (fields : List Value) (at : Span) (same : So b) where
    so_far : Spawned g b.kept.created
    so_far = same.1

    trap_keeps : (t : TrapKind) → K (trap_move t at b fields)
    trap_keeps t = record { own = refl; spawned = none_spawned g }

    left_keeps : (x : Option Value) → K (left program levels b f below fields x)
    left_keeps x = go below
      where
        go : (bs : List Frame) → K (left program levels b f bs fields x)
        go [] = tt
        go (g ∷ bs) = if_keeps f.down _ _ same same

    room_keeps : (x y : Move) → (length b.kept.created < SPAWNS → K x) → K y → K (if nat_lt (length b.kept.created) SPAWNS then x else y)
    room_keeps x y e f = by (nat_lt (length b.kept.created) SPAWNS) refl
      where
        by : (c : Bool) → nat_lt (length b.kept.created) SPAWNS ≡ c → K (if c then x else y)
        by true is = e (ltb-true (length b.kept.created) SPAWNS is)
        by false is = f

    one_more : (c : Call) → c.generation ≡ suc b.generation → length b.kept.created < SPAWNS → (b.generation ≡ g) × Spawned g (b.kept.created ++ c ∷ [])
    one_more c e few = (
      same.0,
      record {
        few = omega (arith, few, length-append b.kept.created (c ∷ []));
        later = All-append (λ (d : Call). d.generation ≡ suc g) b.kept.created (c ∷ []) so_far.later (All-cons (λ (d : Call). d.generation ≡ suc g) c [] (e ∙ ap suc same.0) (All-nil (λ (d : Call). d.generation ≡ suc g)));
      },
    )

    keeps : (i : Instr) → K (acts program levels i at f below b fields)
    keeps (PushInt z) = same
    keeps (PushBool c) = same
    keeps (PushText t) = some_keeps (slice_get program.texts t) _ (λ x. same)
    keeps PushEmpty = same
    keeps (Load s) = some_keeps (slice_get f.locals s) _ (λ x. same)
    keeps (Store s) = some_keeps (slice_get f.locals s) _ (λ x. top_keeps f.stack _ (λ x rest. same))
    keeps (Field i) = some_keeps (slice_get fields i) _ (λ x. same)
    keeps (SetField i) = some_keeps (slice_get fields i) _ (λ x. top_keeps f.stack _ (λ x rest. same))
    keeps (Above l i) = some_keeps (field_at levels l i) _ (λ x. same)
    keeps (Op r) = some_keeps (taken_values (length (takes_of r)) [] f.stack) (λ t. if has_kinds (takes_of r) t.0 then answer_move (apply_row r t.0) at b fields (λ x. runs program levels b below (next_with f (x ∷ t.1)) fields) else Lost) (λ t. if_keeps (has_kinds (takes_of r) t.0) (answer_move (apply_row r t.0) at b fields (λ x. runs program levels b below (next_with f (x ∷ t.1)) fields)) Lost (answer_keeps (apply_row r t.0) at b fields (λ x. runs program levels b below (next_with f (x ∷ t.1)) fields) (λ x. same) trap_keeps) tt)
    keeps (PutLocal s) = some_keeps (slice_get f.locals s) _ (λ m. int_keeps f.stack _ (λ z rest. int_keeps rest _ (λ u rest. answer_keeps (apply_row put_row (m ∷ v.Int u ∷ v.Int z ∷ [])) at b fields (λ x. runs program levels b below (record (next_with f rest) { locals = slice_set f.locals s x }) fields) (λ x. same) trap_keeps)))
    keeps (PutField i) = some_keeps (slice_get fields i) _ (λ m. int_keeps f.stack _ (λ z rest. int_keeps rest _ (λ u rest. answer_keeps (apply_row put_row (m ∷ v.Int u ∷ v.Int z ∷ [])) at b fields (λ x. runs program levels b below (next_with f rest) (slice_set fields i x)) (λ x. same) trap_keeps)))
    keeps (CutLocal s) = some_keeps (slice_get f.locals s) _ (λ m. int_keeps f.stack _ (λ z rest. answer_keeps (apply_row cut_row (m ∷ v.Int z ∷ [])) at b fields (λ x. runs program levels b below (record (next_with f rest) { locals = slice_set f.locals s x }) fields) (λ x. same) trap_keeps))
    keeps (CutField i) = some_keeps (slice_get fields i) _ (λ m. int_keeps f.stack _ (λ z rest. answer_keeps (apply_row cut_row (m ∷ v.Int z ∷ [])) at b fields (λ x. runs program levels b below (next_with f rest) (slice_set fields i x)) (λ x. same) trap_keeps))
    keeps (Jump i) = same
    keeps (JumpFalse i) = truth_keeps f.stack (λ x rest. runs program levels b below (if x then next_with f rest else frame_at f i rest) fields) (λ c rest. same)
    keeps Tick = tick_keeps b.ticks (λ n. runs program levels (record b { ticks = n }) below (next_with f f.stack) fields) (trap_move trap.Ticks at b fields) (λ n. same) (trap_keeps trap.Ticks)
    keeps (CallOwn g) = some_keeps (slice_get program.functions g) (λ callee. with_some (taken_values (length callee.args) [] f.stack) (λ t. Runs (box_in_call program levels b f below t.1 g false callee t.0) fields)) (λ callee. some_keeps (taken_values (length callee.args) [] f.stack) (λ t. Runs (box_in_call program levels b f below t.1 g false callee t.0) fields) (λ t. same))
    keeps (CallDown c g) = some_keeps (slice_get program.functions g) _ (λ callee. some_keeps (taken_values (length callee.args) [] f.stack) _ (λ t. int_keeps t.1 _ (λ key rest. enter_keeps (b.path ++ step_to program levels c.0 key ∷ []) b (λ b'. Paused (record (box_in_call program levels b' f below rest g true callee t.0) { path = b.path ++ step_to program levels c.0 key ∷ [] }) fields (pause.Down (step_to program levels c.0 key))) (trap_move trap.Reach at b fields) (λ more entered. same) (trap_keeps trap.Reach))))
    keeps Return = some_keeps (slice_get program.functions f.function) (λ own. with_result own.result f.stack (λ x. left program levels b f below fields x)) (λ own. result_keeps own.result f.stack (λ x. left program levels b f below fields x) (λ x. left_keeps x))
    keeps Pop = top_keeps f.stack (λ x rest. runs program levels b below (next_with f rest) fields) (λ x rest. same)
    keeps Require = truth_keeps f.stack (λ x rest. if x then runs program levels b below (next_with f rest) fields else trap_move trap.Require at b fields) (λ c rest. if_keeps c (runs program levels b below (next_with f rest) fields) (trap_move trap.Require at b fields) same (trap_keeps trap.Require))
    keeps (Send t) = some_keeps (slice_get program.texts t) (λ label. on_top f.stack (λ x rest. send_move program levels b below (next_with f rest) fields at (record { label = label; value = x }))) (λ label. top_keeps f.stack (λ x rest. send_move program levels b below (next_with f rest) fields at (record { label = label; value = x })) (λ x rest. if_keeps (nat_lt (length b.kept.messages) MESSAGES) _ (trap_move trap.Sends at b fields) same (trap_keeps trap.Sends)))
    keeps (Spawn e) = some_keeps (slice_get program.shape.events e) (λ event. with_some (taken_values (length event.params) [] f.stack) (λ t. spawn_move program levels b below (next_with f t.1) fields at (record { event = e; args = t.0; generation = suc b.generation }))) (λ event. some_keeps (taken_values (length event.params) [] f.stack) (λ t. spawn_move program levels b below (next_with f t.1) fields at (record { event = e; args = t.0; generation = suc b.generation })) (λ t. if_keeps (b.generation == GENERATION) (trap_move trap.Generation at b fields) _ (trap_keeps trap.Generation) (room_keeps (runs program levels (record b { kept = with_call b.kept (record { event = e; args = t.0; generation = suc b.generation }) }) below (next_with f t.1) fields) (trap_move trap.Spawns at b fields) (λ few. one_more (record { event = e; args = t.0; generation = suc b.generation }) refl few) (trap_keeps trap.Spawns))))
    keeps (Go c) = int_keeps f.stack _ (λ key rest. enter_keeps (b.path ++ step_to program levels c.0 key ∷ []) b (λ b'. Paused (record b' { frames = next_with f rest ∷ below; path = b.path ++ step_to program levels c.0 key ∷ []; held = filter (is_above (b.path ++ step_to program levels c.0 key ∷ [])) b'.held }) fields (pause.Go (step_to program levels c.0 key))) (trap_move trap.Reach at b fields) (λ more entered. same) (trap_keeps trap.Reach))
    keeps Reply = top_keeps f.stack (λ x rest. end_move (Replied x) b fields) (λ x rest. (record { own = refl; spawned = so_far }))
    keeps End = (record { own = refl; spawned = so_far })

    acted_keeps : (i : Instr) → K (act_move program levels i at f below b fields)
    unfolding act_move
    acted_keeps i = keeps i

  module _ (program : Program) (levels : List Level) where
    step_keeps : (b : Box) (fields : List Value) → So b → K (one_step program levels b fields)
    unfolding one_step
    step_keeps b fields same = go b.frames
      where
        go : (fs : List Frame) → K (frames_step program levels fs b fields)
        go [] = tt
        go (f ∷ below) =
            some_keeps (slice_get (code_of (slice_get program.functions f.function)) f.place) (λ i. with_some (slice_get (places_of (slice_get program.functions f.function)) f.place) (λ at. act_move program levels i at f below b fields)) (λ i.
            some_keeps (slice_get (places_of (slice_get program.functions f.function)) f.place) (λ at. act_move program levels i at f below b fields) (λ at. acted_keeps program levels f below b fields at same i))

    steps_keep : (m : ℕ) (b : Box) (fields : List Value) → So b → K (steps program levels m b fields)
    unfolding steps
    steps_keep zero b fields same = same
    steps_keep (suc m) b fields same = go (one_step program levels b fields) (step_keeps b fields same) (steps_keep m)
      where
        go : (x : Move) → K x → ((b : Box) (fields : List Value) → So b → K (steps program levels m b fields)) → K (go_on (steps program levels m) x)
        go (Runs b' fields') k rest = rest b' fields' k
        go (Paused b' fields' why) k rest = k
        go Lost k rest = tt

    segment_keeps : (b : Box) (fields : List Value) → So b → K (segment program levels b fields)
    unfolding segment
    segment_keeps b fields same = steps_keep (enough program b) b fields same

  -- an event goes on, or has come to its end
  abbrev Stands : Tour → Option EventResult → Type 0
  Stands t None = So t.box
  Stands t (Some r) = EventEnd g r

  module _ (program : Program) where
    into_stands : (t : Tour) (b : Box) (fields : Fields) (was : Bool) → So b → Stands (into t b fields was) (into t b fields was).result
    into_stands t b fields true h = h
    into_stands t b fields false h = h

    toured_stands : (t : Tour) → So t.box → t.result ≡ None → (m : Move) → K m → Stands (tour_with t m) (tour_with t m).result
    toured_stands t h none (Runs b fields) k = subst (Stands t) (sym none) h
    toured_stands t h none (Paused b fields (pause.Go s)) k = into_stands t b fields (is_held t.box.held b.path) k
    toured_stands t h none (Paused b fields (pause.Down s)) k = into_stands t b fields (is_held t.box.held b.path) k
    toured_stands t h none (Paused b fields pause.Back) k = k
    toured_stands t h none (Paused b fields (pause.Over r)) k = k
    toured_stands t h none Lost k = subst (Stands t) (sym none) h

    next_stands : (t : Tour) → Stands t t.result → Stands (next_tour program t) (next_tour program t).result
    next_stands t h = by t.result refl h
      where
        by : (o : Option EventResult) → t.result ≡ o → Stands t o → Stands (tour_if program t o) (tour_if program t o).result
        by None e h = toured_stands t h e (segment program (fields_above t.tree t.box.path) t.box (t.tree.fields t.box.path)) (segment_keeps program (fields_above t.tree t.box.path) t.box (t.tree.fields t.box.path) h)
        by (Some r) e h = subst (Stands t) (sym e) h

    all_stands : (n : ℕ) (t : Tour) → Stands t t.result → Stands (tour_after program n t) (tour_after program n t).result
    unfolding tour_after
    all_stands zero t h = h
    all_stands (suc n) t h = next_stands (tour_after program n t) (all_stands n t h)

-- the end of an event, whole
pub event_end : (program : Program) (call : Call) (tree : Tree Fields) (r : EventResult) → (code_tour program call tree).result ≡ Some r → EventEnd call.generation r
unfolding code_tour first_box
event_end program call tree r e = subst (Stands call.generation (code_tour program call tree)) e (all_stands call.generation program (most_segments program) (first_tour program call tree) (refl, none_spawned call.generation))
