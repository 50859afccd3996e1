-- What each instruction does at its place, where the event never loses its way.
use Rattle.std.proofs.Common.{◌≡◌, ℕ, zero, suc, ◌≤◌, List, [], ◌∷◌, ◌++◌, length, get_or, if◌then◌else◌, Bool, true, false, Some, refl, ap, sym, subst, ◌∙◌, append_assoc, take}
use Rattle.std.specs.Prelude.{slice_get, slice_set, nat_lt, ◌==◌, Ok, Err}
use Rattle.wave_base.specs.declared.limits.TheConstants.{GENERATION, MESSAGES, SPAWNS}
use Rattle.wave_base.specs.declared.path.Step.{Step}
use Rattle.wave_base.specs.declared.span.Span.{Span}
use Rattle.wave_base.specs.declared.trap.TrapKind.{TrapKind}
use Rattle.wave_base.specs.declared.trap.TrapKind.TheVariants as trap
use Rattle.wave_base.specs.declared.value.Kind.{Kind}
use Rattle.wave_base.specs.declared.value.Value.{Value}
use Rattle.wave_base.specs.declared.value.Value.TheVariants as v
use Rattle.wave_base.specs.Tree.{Tree, there}
use Rattle.wave_base.proofs.Trees.{put_same}
use Rattle.std.proofs.lemmas.List.{append-nil}
use Rattle.wave_base.specs.declared.shape.EventInfo.{EventInfo}
use Rattle.downgrade_views.specs.Levels.{field_at}
use Rattle.downgrade_views.proofs.Finding.{whole_field}
use Rattle.value_ops.specs.Kinds.{Answer}
use Rattle.value_ops.specs.Operators.{takes_of, apply_row}
use Rattle.resolved_service.specs.Meaning.{row_put, row_cut, set_local, put_field, State, Done, Act, and_then, answer, with_world, tick, choose, demand}
use Rattle.resolved_service.specs.World as world
use Rattle.resolved_service.specs.World.{World, nothing, is_true, after_tick, sending, spawning}
use Rattle.service_code.specs.declared.instr.Instr.{Instr}
use Rattle.service_code.specs.declared.instr.Instr.TheVariants as i
use Rattle.service_code.specs.declared.program.Function.{Function}
use Rattle.service_code.specs.declared.program.Program.{Program}
use Rattle.service_verify.specs.Boxes.{Box, first_locals}
use Rattle.service_verify.specs.Fit.{IsFit}
use Rattle.service_verify.specs.Points.{IsVerified}
use Rattle.service_verify.specs.Steps.{Move, Runs, Lost, with_some, taken_values, has_kinds, with_operands, answer_move, trap_move, on_int, spawn_move, ticking, put_row, cut_row}
use Rattle.service_verify.specs.Tours.{Tour, Fields, fields_from, fields_above}
use Rattle.code_scheme.specs.Texts.{Text, place_of_text}
use Rattle.code_scheme.proofs.Follow.{Here, frame_of, box_of, Moving, At, Leads, place_is, Follows, lead_in, done, move_at, IsLine, moving, runs_on, steps_on, traps}
use Rattle.code_scheme.proofs.Finding.{Low, callee_of, pushed, some_then, take_pushed, text_there, there_or}

module _ (program : Program) (fit : IsFit program) (verified : IsVerified program) where
  -- ---- results of an instruction, by what it answers

  module _ (h : Here) (pc : ℕ) (s : List Value) (st : State) (t : Tour) (a : At program fit verified h pc s st t) (ins : Instr) (at : Span) (l : IsLine program fit verified h.fn pc ins at) where
    -- a value, or its trap, and then what is done with the value
    pub answer_then : {B : Type 0} (o : Answer Value) (go : Value → Move) → move_at program fit verified h pc s st a.held ins at ≡ answer_move o at (box_of h pc s st a.held) (st.world.tree.fields h.at) go →
        (next : B → State → Tour → Type 0) (K : B → State → Type 0) (f : Value → Act B) →
        ((x : Value) → move_at program fit verified h pc s st a.held ins at ≡ go x → Follows program fit verified t next K (f x st)) → Follows program fit verified t next K (and_then (answer o at st) f)
    answer_then (Ok x) go m next K f done = done x m
    answer_then (Err kind) go m next K f done = record { is = traps program fit verified h pc s st t a ins at l kind m }

    pub answer_runs : (o : Answer Value) (go : Value → Move) → move_at program fit verified h pc s st a.held ins at ≡ answer_move o at (box_of h pc s st a.held) (st.world.tree.fields h.at) go →
        (next : Value → State → Tour → Type 0) (K : Value → State → Type 0) →
        ((x : Value) → move_at program fit verified h pc s st a.held ins at ≡ go x → (d : Tour) × Leads program fit verified t d × next x st d × K x st) → Follows program fit verified t next K (answer o at st)
    answer_runs (Ok x) go m next K done = record { is = done x m }
    answer_runs (Err kind) go m next K done = record { is = traps program fit verified h pc s st t a ins at l kind m }

    -- the same locals and world, another stack
    pub puts : (pc' : ℕ) (s' : List Value) (locals : List Value) → suc pc ≡ pc' → move_at program fit verified h pc s st a.held ins at ≡ Runs (box_of h (suc pc) s' (record { locals = locals; world = st.world }) a.held) (st.world.tree.fields h.at) →
        (d : Tour) × Leads program fit verified t d × At program fit verified h pc' s' (record { locals = locals; world = st.world }) d
    puts pc' s' locals e m =
        let r = steps_on program fit verified h pc s st t a ins at l h (suc pc) s' locals m in
        (r.0, r.1, place_is program fit verified h (suc pc) pc' s' (record { locals = locals; world = st.world }) r.0 e r.2)

  -- a value put on the stack
  pub push_runs : (h : Here) (pc pc' : ℕ) (s : List Value) (st : State) (t : Tour) (a : At program fit verified h pc s st t) (ins : Instr) (at : Span) → IsLine program fit verified h.fn pc ins at → (x : Value) (K : Value → State → Type 0) → suc pc ≡ pc' →
      move_at program fit verified h pc s st a.held ins at ≡ Runs (box_of h (suc pc) (x ∷ s) st a.held) (st.world.tree.fields h.at) → K x st → Follows program fit verified t (λ x st' d. At program fit verified h pc' (x ∷ s) st' d) K (Done x st)
  push_runs h pc pc' s st t a ins at l x K e m k = let r = puts h pc s st t a ins at l pc' (x ∷ s) st.locals e m in record { is = (r.0, r.1, r.2, k) }

  -- the last value taken away
  pub choice_runs : {A : Type 0} (h : Here) (pc to : ℕ) (x : Value) (s : List Value) (st : State) (t : Tour) → At program fit verified h pc (x ∷ s) st t → (at : Span) → IsLine program fit verified h.fn pc (i.JumpFalse to) at →
      (next : A → State → Tour → Type 0) (K : A → State → Type 0) (fa fb : Act A) →
      ((d : Tour) → At program fit verified h (suc pc) s st d → Follows program fit verified d next K (fa st)) →
      ((d : Tour) → At program fit verified h to s st d → Follows program fit verified d next K (fb st)) →
      Follows program fit verified t next K (choose (is_true x) fa fb st)
  choice_runs h pc to (v.Bool true) s st t a at l next K fa fb ra rb =
      let r = steps_on program fit verified h pc (v.Bool true ∷ s) st t a (i.JumpFalse to) at l h (suc pc) s st.locals refl in
      lead_in program fit verified t r.0 next K (fa st) r.1 (ra r.0 r.2)
  choice_runs h pc to (v.Bool false) s st t a at l next K fa fb ra rb =
      let r = steps_on program fit verified h pc (v.Bool false ∷ s) st t a (i.JumpFalse to) at l h to s st.locals refl in
      lead_in program fit verified t r.0 next K (fb st) r.1 (rb r.0 r.2)
  choice_runs h pc to (v.Int n) s st t a at l next K fa fb ra rb = absurd (moving program fit verified h pc (v.Int n ∷ s) st t a (i.JumpFalse to) at l)
  choice_runs h pc to (v.Str n) s st t a at l next K fa fb ra rb = absurd (moving program fit verified h pc (v.Str n ∷ s) st t a (i.JumpFalse to) at l)
  choice_runs h pc to (v.Map n) s st t a at l next K fa fb ra rb = absurd (moving program fit verified h pc (v.Map n ∷ s) st t a (i.JumpFalse to) at l)

  -- a tick
  pub tick_runs : (h : Here) (pc t : ℕ) (s : List Value) (st : State) (c : Tour) → At program fit verified h pc s st c → (at : Span) → IsLine program fit verified h.fn pc i.Tick at → st.world.ticks ≤ t →
      Follows program fit verified c (λ u st' d. At program fit verified h (suc pc) s st' d) (λ u st'. suc st'.world.ticks ≤ t) (tick at st)
  tick_runs h pc t s st c a at l q = by st.world.ticks refl
    where
      by : (n : ℕ) → st.world.ticks ≡ n → Follows program fit verified c (λ u st' d. At program fit verified h (suc pc) s st' d) (λ u st'. suc st'.world.ticks ≤ t) (with_world (after_tick n st.world) at st)
      by zero e = record { is = traps program fit verified h pc s st c a i.Tick at l trap.Ticks (ap (λ n. ticking n (λ n. Runs (record (box_of h pc s st a.held) { ticks = n; frames = frame_of h (suc pc) s st.locals ∷ h.below }) (st.world.tree.fields h.at)) (trap_move trap.Ticks at (box_of h pc s st a.held) (st.world.tree.fields h.at))) e) }
      by (suc n) e =
          let r = runs_on program fit verified h pc s st c a i.Tick at l h (suc pc) s (record { locals = st.locals; world = record st.world { ticks = n } }) (st.world.tree.fields h.at)
          (ap (λ n. ticking n (λ n. Runs (record (box_of h pc s st a.held) { ticks = n; frames = frame_of h (suc pc) s st.locals ∷ h.below }) (st.world.tree.fields h.at)) (trap_move trap.Ticks at (box_of h pc s st a.held) (st.world.tree.fields h.at))) e)
          (put_same st.world.tree h.at) refl refl refl in
          record { is = (r.0, r.1, r.2, subst (λ m. m ≤ t) e q) }

  -- the operands of a row
  has_then : (b : Bool) (m : Move) → Moving (if b then m else Lost) → (if b then m else Lost) ≡ m
  has_then true m h = refl
  has_then false m h = absurd h

  operands_then : (kinds : List Kind) (vs s : List Value) (go : List Value → List Value → Move) → length kinds ≡ length vs → Moving (with_operands kinds (pushed vs s) go) → with_operands kinds (pushed vs s) go ≡ go vs s
  operands_then kinds vs s go e h =
      let is = ap (λ o. with_some o (λ (t : List Value × List Value). if has_kinds kinds t.0 then go t.0 t.1 else Lost)) (take_pushed (length kinds) vs s e) in
      is ∙ has_then (has_kinds kinds vs) (go vs s) (subst Moving is h)

  pub row_runs : (h : Here) (pc pc' t r : ℕ) (vs s : List Value) (st : State) (c : Tour) → At program fit verified h pc (pushed vs s) st c → (at : Span) → suc pc ≡ pc' → length (takes_of r) ≡ length vs → IsLine program fit verified h.fn pc (i.Op r) at → st.world.ticks ≤ t →
      Follows program fit verified c (λ x st' d. At program fit verified h pc' (x ∷ s) st' d) (Low t) (answer (apply_row r vs) at st)
  row_runs h pc pc' t r vs s st c a at e n l q =
      answer_runs h pc (pushed vs s) st c a (i.Op r) at l (apply_row r vs) (λ x. Runs (box_of h (suc pc) (x ∷ s) st a.held) (st.world.tree.fields h.at))
      (operands_then (takes_of r) vs s _ n (moving program fit verified h pc (pushed vs s) st c a (i.Op r) at l))
      (λ x st' d. At program fit verified h pc' (x ∷ s) st' d) (Low t)
      (λ x m. let r' = puts h pc (pushed vs s) st c a (i.Op r) at l pc' (x ∷ s) st.locals e m in (r'.0, r'.1, r'.2, q))

  -- locals
  pub load_runs : (h : Here) (pc pc' t x : ℕ) (s : List Value) (st : State) (c : Tour) → At program fit verified h pc s st c → (at : Span) → suc pc ≡ pc' → IsLine program fit verified h.fn pc (i.Load x) at → st.world.ticks ≤ t →
      Follows program fit verified c (λ x st' d. At program fit verified h pc' (x ∷ s) st' d) (Low t) (Done (get_or st.locals x nothing) st)
  load_runs h pc pc' t x s st c a at e l q =
      push_runs h pc pc' s st c a (i.Load x) at l (get_or st.locals x nothing) (Low t) e
      (there_or st.locals x nothing (λ y. Runs (box_of h (suc pc) (y ∷ s) st a.held) (st.world.tree.fields h.at)) (moving program fit verified h pc s st c a (i.Load x) at l)) q

  pub store_runs : (h : Here) (pc pc' x : ℕ) (y : Value) (s : List Value) (st : State) (c : Tour) → At program fit verified h pc (y ∷ s) st c → (at : Span) → suc pc ≡ pc' → IsLine program fit verified h.fn pc (i.Store x) at →
      (d : Tour) × Leads program fit verified c d × At program fit verified h pc' s (record { locals = slice_set st.locals x y; world = st.world }) d
  store_runs h pc pc' x y s st c a at e l =
      puts h pc (y ∷ s) st c a (i.Store x) at l pc' s (slice_set st.locals x y) e
      (some_then (slice_get st.locals x) _ (moving program fit verified h pc (y ∷ s) st c a (i.Store x) at l))

  pub pop_runs : (h : Here) (pc pc' : ℕ) (y : Value) (s : List Value) (st : State) (c : Tour) → At program fit verified h pc (y ∷ s) st c → (at : Span) → suc pc ≡ pc' → IsLine program fit verified h.fn pc i.Pop at →
      (d : Tour) × Leads program fit verified c d × At program fit verified h pc' s st d
  pop_runs h pc pc' y s st c a at e l = puts h pc (y ∷ s) st c a i.Pop at l pc' s st.locals e refl

  pub jump_runs : (h : Here) (pc to : ℕ) (s : List Value) (st : State) (c : Tour) → At program fit verified h pc s st c → (at : Span) → IsLine program fit verified h.fn pc (i.Jump to) at →
      (d : Tour) × Leads program fit verified c d × At program fit verified h to s st d
  jump_runs h pc to s st c a at l = steps_on program fit verified h pc s st c a (i.Jump to) at l h to s st.locals refl

  -- fields
  pub field_runs : (h : Here) (pc pc' t x : ℕ) (s : List Value) (st : State) (c : Tour) → At program fit verified h pc s st c → (at : Span) → suc pc ≡ pc' → IsLine program fit verified h.fn pc (i.Field x) at → st.world.ticks ≤ t →
      Follows program fit verified c (λ x st' d. At program fit verified h pc' (x ∷ s) st' d) (Low t) (Done (world.read_field x h.at st.world) st)
  unfolding world.read_field
  field_runs h pc pc' t x s st c a at e l q =
      push_runs h pc pc' s st c a (i.Field x) at l (get_or (st.world.tree.fields h.at) x nothing) (Low t) e
      (there_or (st.world.tree.fields h.at) x nothing (λ y. Runs (box_of h (suc pc) (y ∷ s) st a.held) (st.world.tree.fields h.at)) (moving program fit verified h pc s st c a (i.Field x) at l)) q

  pub set_field_runs : (h : Here) (pc pc' x : ℕ) (y : Value) (s : List Value) (st : State) (c : Tour) → At program fit verified h pc (y ∷ s) st c → (at : Span) → suc pc ≡ pc' → IsLine program fit verified h.fn pc (i.SetField x) at →
      (d : Tour) × Leads program fit verified c d × At program fit verified h pc' s (record { locals = st.locals; world = world.set_field x y h.at st.world }) d
  unfolding world.set_field
  set_field_runs h pc pc' x y s st c a at e l =
      let st' : State = record { locals = st.locals; world = world.set_field x y h.at st.world } in
      let r = runs_on program fit verified h pc (y ∷ s) st c a (i.SetField x) at l h (suc pc) s st' (slice_set (st.world.tree.fields h.at) x y)
      (some_then (slice_get (st.world.tree.fields h.at) x) _ (moving program fit verified h pc (y ∷ s) st c a (i.SetField x) at l)) refl refl refl refl in
      (r.0, r.1, place_is program fit verified h (suc pc) pc' s st' r.0 e r.2)

  above_there : (tree : Tree Fields) (done p : List Step) (l n : ℕ) (go : Value → Move) → Moving (with_some (field_at (fields_from tree done p) l n) go) → with_some (field_at (fields_from tree done p) l n) go ≡ go (get_or (tree.fields (done ++ take l p)) n nothing)
  above_there tree done [] l n go h = absurd h
  above_there tree done (s ∷ p) zero n go h =
      let is = whole_field (tree.fields done) n in
      ap (λ o. with_some o go) is ∙ there_or (tree.fields done) n nothing go (subst (λ o. Moving (with_some o go)) is h) ∙ ap (λ q. go (get_or (tree.fields q) n nothing)) (sym (append-nil done))
  above_there tree done (s ∷ p) (suc l) n go h = above_there tree (done ++ s ∷ []) p l n go h ∙ ap (λ q. go (get_or (tree.fields q) n nothing)) (append_assoc done (s ∷ []) (take l p))

  pub above_runs : (h : Here) (pc pc' t x y : ℕ) (s : List Value) (st : State) (c : Tour) → At program fit verified h pc s st c → (at : Span) → suc pc ≡ pc' → IsLine program fit verified h.fn pc (i.Above x y) at → st.world.ticks ≤ t →
      Follows program fit verified c (λ x st' d. At program fit verified h pc' (x ∷ s) st' d) (Low t) (Done (world.read_above x y h.at st.world) st)
  unfolding world.read_above world.read_field
  above_runs h pc pc' t x y s st c a at e l q =
      push_runs h pc pc' s st c a (i.Above x y) at l (get_or (st.world.tree.fields (take x h.at)) y nothing) (Low t) e
      (above_there st.world.tree [] h.at x y (λ z. Runs (box_of h (suc pc) (z ∷ s) st a.held) (st.world.tree.fields h.at)) (moving program fit verified h pc s st c a (i.Above x y) at l)) q

  pub text_runs : (h : Here) (pc pc' t : ℕ) (x : Text) (s : List Value) (st : State) (c : Tour) → At program fit verified h pc s st c → (at : Span) → suc pc ≡ pc' → IsLine program fit verified h.fn pc (i.PushText (place_of_text program.texts x)) at → st.world.ticks ≤ t →
      Follows program fit verified c (λ x st' d. At program fit verified h pc' (x ∷ s) st' d) (Low t) (Done (v.Str x) st)
  text_runs h pc pc' t x s st c a at e l q =
      push_runs h pc pc' s st c a (i.PushText (place_of_text program.texts x)) at l (v.Str x) (Low t) e
      (text_there program.texts x (λ y. Runs (box_of h (suc pc) (v.Str y ∷ s) st a.held) (st.world.tree.fields h.at)) (moving program fit verified h pc s st c a (i.PushText (place_of_text program.texts x)) at l)) q

  -- ---- maps

  put_then : (x k : Value) (s : List Value) (m : Value) (at : Span) (b : Box) (fields : Fields) (go : Value → List Value → Move) →
      Moving (on_int (x ∷ k ∷ s) (λ value rest. on_int rest (λ key rest. answer_move (apply_row put_row (m ∷ v.Int key ∷ v.Int value ∷ [])) at b fields (λ y. go y rest)))) →
      on_int (x ∷ k ∷ s) (λ value rest. on_int rest (λ key rest. answer_move (apply_row put_row (m ∷ v.Int key ∷ v.Int value ∷ [])) at b fields (λ y. go y rest))) ≡ answer_move (apply_row put_row (m ∷ k ∷ x ∷ [])) at b fields (λ y. go y s)
  put_then (v.Int n) (v.Int key) s m at b fields go h = refl
  put_then (v.Int n) _ s m at b fields go h = absurd h
  put_then _ k s m at b fields go h = absurd h

  cut_then : (k : Value) (s : List Value) (m : Value) (at : Span) (b : Box) (fields : Fields) (go : Value → List Value → Move) →
      Moving (on_int (k ∷ s) (λ key rest. answer_move (apply_row cut_row (m ∷ v.Int key ∷ [])) at b fields (λ y. go y rest))) →
      on_int (k ∷ s) (λ key rest. answer_move (apply_row cut_row (m ∷ v.Int key ∷ [])) at b fields (λ y. go y rest)) ≡ answer_move (apply_row cut_row (m ∷ k ∷ [])) at b fields (λ y. go y s)
  cut_then (v.Int key) s m at b fields go h = refl
  cut_then _ s m at b fields go h = absurd h

  abbrev pub Onward : Here → ℕ → List Value → Unit {0} → State → Tour → Type 0
  Onward h pc s u st d = At program fit verified h pc s st d

  pub put_local_runs : (h : Here) (pc pc' t x : ℕ) (k y : Value) (s : List Value) (st : State) (c : Tour) → At program fit verified h pc (y ∷ k ∷ s) st c → (at : Span) → suc pc ≡ pc' → IsLine program fit verified h.fn pc (i.PutLocal x) at → st.world.ticks ≤ t →
      Follows program fit verified c (Onward h pc' s) (Low t) (and_then (answer (apply_row row_put (get_or st.locals x nothing ∷ k ∷ y ∷ [])) at st) (set_local x))
  put_local_runs h pc pc' t x k y s st c a at e l q =
      let go : Value → List Value → Move = λ z rest. Runs (box_of h (suc pc) rest (record { locals = slice_set st.locals x z; world = st.world }) a.held) (st.world.tree.fields h.at) in
      let m = moving program fit verified h pc (y ∷ k ∷ s) st c a (i.PutLocal x) at l in
      let first = there_or st.locals x nothing (λ m. on_int (y ∷ k ∷ s) (λ value rest. on_int rest (λ key rest. answer_move (apply_row put_row (m ∷ v.Int key ∷ v.Int value ∷ [])) at (box_of h pc (y ∷ k ∷ s) st a.held) (st.world.tree.fields h.at) (λ z. go z rest)))) m in
      answer_then h pc (y ∷ k ∷ s) st c a (i.PutLocal x) at l (apply_row row_put (get_or st.locals x nothing ∷ k ∷ y ∷ [])) (λ z. go z s)
      (first ∙ put_then y k s (get_or st.locals x nothing) at (box_of h pc (y ∷ k ∷ s) st a.held) (st.world.tree.fields h.at) go (subst Moving first m))
      (Onward h pc' s) (Low t) (set_local x)
      (λ z is. let r = puts h pc (y ∷ k ∷ s) st c a (i.PutLocal x) at l pc' s (slice_set st.locals x z) e is in record { is = (r.0, r.1, r.2, q) })

  pub cut_local_runs : (h : Here) (pc pc' t x : ℕ) (k : Value) (s : List Value) (st : State) (c : Tour) → At program fit verified h pc (k ∷ s) st c → (at : Span) → suc pc ≡ pc' → IsLine program fit verified h.fn pc (i.CutLocal x) at → st.world.ticks ≤ t →
      Follows program fit verified c (Onward h pc' s) (Low t) (and_then (answer (apply_row row_cut (get_or st.locals x nothing ∷ k ∷ [])) at st) (set_local x))
  cut_local_runs h pc pc' t x k s st c a at e l q =
      let go : Value → List Value → Move = λ z rest. Runs (box_of h (suc pc) rest (record { locals = slice_set st.locals x z; world = st.world }) a.held) (st.world.tree.fields h.at) in
      let m = moving program fit verified h pc (k ∷ s) st c a (i.CutLocal x) at l in
      let first = there_or st.locals x nothing (λ m. on_int (k ∷ s) (λ key rest. answer_move (apply_row cut_row (m ∷ v.Int key ∷ [])) at (box_of h pc (k ∷ s) st a.held) (st.world.tree.fields h.at) (λ z. go z rest))) m in
      answer_then h pc (k ∷ s) st c a (i.CutLocal x) at l (apply_row row_cut (get_or st.locals x nothing ∷ k ∷ [])) (λ z. go z s)
      (first ∙ cut_then k s (get_or st.locals x nothing) at (box_of h pc (k ∷ s) st a.held) (st.world.tree.fields h.at) go (subst Moving first m))
      (Onward h pc' s) (Low t) (set_local x)
      (λ z is. let r = puts h pc (k ∷ s) st c a (i.CutLocal x) at l pc' s (slice_set st.locals x z) e is in record { is = (r.0, r.1, r.2, q) })

  pub put_field_runs : (h : Here) (pc pc' t x : ℕ) (k y : Value) (s : List Value) (st : State) (c : Tour) → At program fit verified h pc (y ∷ k ∷ s) st c → (at : Span) → suc pc ≡ pc' → IsLine program fit verified h.fn pc (i.PutField x) at → st.world.ticks ≤ t →
      Follows program fit verified c (Onward h pc' s) (Low t) (and_then (answer (apply_row row_put (world.read_field x h.at st.world ∷ k ∷ y ∷ [])) at st) (put_field x h.at))
  unfolding world.read_field world.set_field
  put_field_runs h pc pc' t x k y s st c a at e l q =
      let fields = st.world.tree.fields h.at in
      let go : Value → List Value → Move = λ z rest. Runs (box_of h (suc pc) rest st a.held) (slice_set fields x z) in
      let m = moving program fit verified h pc (y ∷ k ∷ s) st c a (i.PutField x) at l in
      let first = there_or fields x nothing (λ m. on_int (y ∷ k ∷ s) (λ value rest. on_int rest (λ key rest. answer_move (apply_row put_row (m ∷ v.Int key ∷ v.Int value ∷ [])) at (box_of h pc (y ∷ k ∷ s) st a.held) fields (λ z. go z rest)))) m in
      answer_then h pc (y ∷ k ∷ s) st c a (i.PutField x) at l (apply_row row_put (get_or fields x nothing ∷ k ∷ y ∷ [])) (λ z. go z s)
      (first ∙ put_then y k s (get_or fields x nothing) at (box_of h pc (y ∷ k ∷ s) st a.held) fields go (subst Moving first m))
      (Onward h pc' s) (Low t) (put_field x h.at)
      (λ z is. let st' : State = record { locals = st.locals; world = world.set_field x z h.at st.world } in let r = runs_on program fit verified h pc (y ∷ k ∷ s) st c a (i.PutField x) at l h (suc pc) s st' (slice_set fields x z) is refl refl refl refl in record { is = (r.0, r.1, place_is program fit verified h (suc pc) pc' s st' r.0 e r.2, q) })

  pub cut_field_runs : (h : Here) (pc pc' t x : ℕ) (k : Value) (s : List Value) (st : State) (c : Tour) → At program fit verified h pc (k ∷ s) st c → (at : Span) → suc pc ≡ pc' → IsLine program fit verified h.fn pc (i.CutField x) at → st.world.ticks ≤ t →
      Follows program fit verified c (Onward h pc' s) (Low t) (and_then (answer (apply_row row_cut (world.read_field x h.at st.world ∷ k ∷ [])) at st) (put_field x h.at))
  unfolding world.read_field world.set_field
  cut_field_runs h pc pc' t x k s st c a at e l q =
      let fields = st.world.tree.fields h.at in
      let go : Value → List Value → Move = λ z rest. Runs (box_of h (suc pc) rest st a.held) (slice_set fields x z) in
      let m = moving program fit verified h pc (k ∷ s) st c a (i.CutField x) at l in
      let first = there_or fields x nothing (λ m. on_int (k ∷ s) (λ key rest. answer_move (apply_row cut_row (m ∷ v.Int key ∷ [])) at (box_of h pc (k ∷ s) st a.held) fields (λ z. go z rest))) m in
      answer_then h pc (k ∷ s) st c a (i.CutField x) at l (apply_row row_cut (get_or fields x nothing ∷ k ∷ [])) (λ z. go z s)
      (first ∙ cut_then k s (get_or fields x nothing) at (box_of h pc (k ∷ s) st a.held) fields go (subst Moving first m))
      (Onward h pc' s) (Low t) (put_field x h.at)
      (λ z is. let st' : State = record { locals = st.locals; world = world.set_field x z h.at st.world } in let r = runs_on program fit verified h pc (k ∷ s) st c a (i.CutField x) at l h (suc pc) s st' (slice_set fields x z) is refl refl refl refl in record { is = (r.0, r.1, place_is program fit verified h (suc pc) pc' s st' r.0 e r.2, q) })

  -- ---- what may trap

  pub require_runs : (h : Here) (pc pc' t : ℕ) (y : Value) (s : List Value) (st : State) (c : Tour) → At program fit verified h pc (y ∷ s) st c → (at : Span) → suc pc ≡ pc' → IsLine program fit verified h.fn pc i.Require at → st.world.ticks ≤ t →
      Follows program fit verified c (Onward h pc' s) (Low t) (demand (is_true y) at st)
  require_runs h pc pc' t (v.Bool true) s st c a at e l q = let r = puts h pc (v.Bool true ∷ s) st c a i.Require at l pc' s st.locals e refl in record { is = (r.0, r.1, r.2, q) }
  require_runs h pc pc' t (v.Bool false) s st c a at e l q = record { is = traps program fit verified h pc (v.Bool false ∷ s) st c a i.Require at l trap.Require refl }
  require_runs h pc pc' t (v.Int n) s st c a at e l q = absurd (moving program fit verified h pc (v.Int n ∷ s) st c a i.Require at l)
  require_runs h pc pc' t (v.Str n) s st c a at e l q = absurd (moving program fit verified h pc (v.Str n ∷ s) st c a i.Require at l)
  require_runs h pc pc' t (v.Map n) s st c a at e l q = absurd (moving program fit verified h pc (v.Map n ∷ s) st c a i.Require at l)

  pub send_runs : (h : Here) (pc pc' t : ℕ) (label : Text) (y : Value) (s : List Value) (st : State) (c : Tour) → At program fit verified h pc (y ∷ s) st c → (at : Span) → suc pc ≡ pc' → IsLine program fit verified h.fn pc (i.Send (place_of_text program.texts label)) at → st.world.ticks ≤ t →
      Follows program fit verified c (Onward h pc' s) (Low t) (with_world (sending label y st.world) at st)
  unfolding sending
  send_runs h pc pc' t label y s st c a at e l q = by (nat_lt (length st.world.messages) MESSAGES) refl
    where
      ins : Instr
      ins = i.Send (place_of_text program.texts label)

      kept : World
      kept = record st.world { messages = st.world.messages ++ record { label = label; value = y } ∷ [] }

      go : Bool → Move
      go b = if b then Runs (box_of h (suc pc) s (record { locals = st.locals; world = kept }) a.held) (st.world.tree.fields h.at) else trap_move trap.Sends at (box_of h pc (y ∷ s) st a.held) (st.world.tree.fields h.at)

      is : move_at program fit verified h pc (y ∷ s) st a.held ins at ≡ go (nat_lt (length st.world.messages) MESSAGES)
      is = text_there program.texts label _ (moving program fit verified h pc (y ∷ s) st c a ins at l)

      by : (b : Bool) → nat_lt (length st.world.messages) MESSAGES ≡ b → Follows program fit verified c (Onward h pc' s) (Low t) (with_world (if b then Ok kept else Err trap.Sends) at st)
      by true e' =
          let st' : State = record { locals = st.locals; world = kept } in
          let r = runs_on program fit verified h pc (y ∷ s) st c a ins at l h (suc pc) s st' (st.world.tree.fields h.at) (is ∙ ap go e') (put_same st.world.tree h.at) refl refl refl in
          record { is = (r.0, r.1, place_is program fit verified h (suc pc) pc' s st' r.0 e r.2, q) }
      by false e' = record { is = traps program fit verified h pc (y ∷ s) st c a ins at l trap.Sends (is ∙ ap go e') }

  pub spawn_runs : (h : Here) (pc pc' t event : ℕ) (info : EventInfo) (vs s : List Value) (st : State) (c : Tour) → slice_get program.shape.events event ≡ Some info → length info.params ≡ length vs → At program fit verified h pc (pushed vs s) st c → (at : Span) → suc pc ≡ pc' → IsLine program fit verified h.fn pc (i.Spawn event) at → st.world.ticks ≤ t →
      Follows program fit verified c (Onward h pc' s) (Low t) (with_world (spawning event vs st.world) at st)
  unfolding spawning
  spawn_runs h pc pc' t event info vs s st c there long a at e l q = by (st.world.generation == GENERATION) (nat_lt (length st.world.created) SPAWNS) refl refl
    where
      ins : Instr
      ins = i.Spawn event

      kept : World
      kept = record st.world { created = st.world.created ++ record { event = event; args = vs; generation = suc st.world.generation } ∷ [] }

      stop : TrapKind → Move
      stop k = trap_move k at (box_of h pc (pushed vs s) st a.held) (st.world.tree.fields h.at)

      go : Bool → Bool → Move
      go b d = if b then stop trap.Generation else (if d then Runs (box_of h (suc pc) s (record { locals = st.locals; world = kept }) a.held) (st.world.tree.fields h.at) else stop trap.Spawns)

      made : List Value × List Value → Move
      made u = spawn_move program (fields_above st.world.tree h.at) (box_of h pc (pushed vs s) st a.held) h.below (frame_of h (suc pc) u.1 st.locals) (st.world.tree.fields h.at) at (record { event = event; args = u.0; generation = suc st.world.generation })

      is : move_at program fit verified h pc (pushed vs s) st a.held ins at ≡ go (st.world.generation == GENERATION) (nat_lt (length st.world.created) SPAWNS)
      is =
          ap (λ o. with_some o (λ (event : EventInfo). with_some (taken_values (length event.params) [] (pushed vs s)) made)) there
          ∙ ap (λ o. with_some o made) (take_pushed (length info.params) vs s long)

      by : (b d : Bool) → (st.world.generation == GENERATION) ≡ b → nat_lt (length st.world.created) SPAWNS ≡ d → Follows program fit verified c (Onward h pc' s) (Low t) (with_world (if b then Err trap.Generation else if d then Ok kept else Err trap.Spawns) at st)
      by true d eb ed = record { is = traps program fit verified h pc (pushed vs s) st c a ins at l trap.Generation (is ∙ ap (λ b. go b (nat_lt (length st.world.created) SPAWNS)) eb) }
      by false true eb ed =
          let st' : State = record { locals = st.locals; world = kept } in
          let r = runs_on program fit verified h pc (pushed vs s) st c a ins at l h (suc pc) s st' (st.world.tree.fields h.at) (is ∙ (λ i. go (eb i) (ed i))) (put_same st.world.tree h.at) refl refl refl in
          record { is = (r.0, r.1, place_is program fit verified h (suc pc) pc' s st' r.0 e r.2, q) }
      by false false eb ed = record { is = traps program fit verified h pc (pushed vs s) st c a ins at l trap.Spawns (is ∙ (λ i. go (eb i) (ed i))) }

  -- ---- calls

  pub call_runs : (h : Here) (pc g : ℕ) (callee : Function) (vs s : List Value) (st : State) (c : Tour) → slice_get program.functions g ≡ Some callee → length callee.args ≡ length vs → At program fit verified h pc (pushed vs s) st c → (at : Span) → IsLine program fit verified h.fn pc (i.Call g) at →
      (d : Tour) × Leads program fit verified c d × At program fit verified (callee_of g h.at false h (suc pc) s st.locals) 0 [] (record { locals = first_locals callee vs; world = st.world }) d
  call_runs h pc g callee vs s st c there long a at l =
      steps_on program fit verified h pc (pushed vs s) st c a (i.Call g) at l (callee_of g h.at false h (suc pc) s st.locals) 0 [] (first_locals callee vs)
      (ap (λ o. with_some o (λ (callee : Function). with_some (taken_values (length callee.args) [] (pushed vs s)) (made callee))) there
      ∙ ap (λ o. with_some o (made callee)) (take_pushed (length callee.args) vs s long))
    where
      made : Function → List Value × List Value → Move
      made callee u = Runs (box_of (callee_of g h.at false h (suc pc) u.1 st.locals) 0 [] (record { locals = first_locals callee u.0; world = st.world }) a.held) (st.world.tree.fields h.at)
