-- The code follows an outcome.
use Rattle.std.proofs.Common.{◌≡◌, ℕ, suc, ◌+◌, List, [], ◌∷◌, length, Bool, Some, None, refl, ap, sym, subst, ◌∙◌}
use Rattle.std.specs.Prelude.{map, slice_get}
use Rattle.std.proofs.lemmas.Option.{slice_get-map}
use Rattle.std.specs.Option.{option_map}
use Rattle.wave_base.specs.declared.outcome.EventResult.{EventResult}
use Rattle.wave_base.specs.declared.outcome.Outcome.TheVariants as out
use Rattle.wave_base.specs.declared.path.Path.{Path}
use Rattle.wave_base.specs.declared.span.Span.{Span}
use Rattle.wave_base.specs.declared.trap.TrapKind.{TrapKind}
use Rattle.wave_base.specs.declared.value.Value.{Value}
use Rattle.wave_base.specs.Tree.{put}
use Rattle.wave_base.proofs.Trees.{put_same}
use Rattle.resolved_service.specs.Meaning.{State, Outcome, Done, Trapped, Left, Act, and_then}
use Rattle.resolved_service.specs.World.{World, has}
use Rattle.service_code.specs.declared.instr.Instr.{Instr}
use Rattle.service_code.specs.declared.program.Program.{Program}
use Rattle.service_verify.specs.Boxes.{Frame, Box}
use Rattle.service_verify.specs.Fit.{IsFit}
use Rattle.service_verify.specs.Points.{IsVerified}
use Rattle.service_verify.specs.Standing.{MovesOn}
use Rattle.service_verify.specs.Steps.{Move, Runs, Paused, Lost, with_some, acts, act_move, trap_move, one_step, is_held, code_of, places_of}
use Rattle.service_verify.specs.Tours.{Fields, fields_above, Tour}
use Rattle.code_scheme.specs.Scheme.{Line, line}
use Rattle.code_scheme.proofs.Micro.{resumed, move_of, micro_if, micro, micros, micros_none, micros_more, micros_add, Alive, moves_on, stays_alive}

-- where an event is: its function, its context, whether that function was called from the parent, and the frames below
pub record Here : Type 0 where
  pub fn : ℕ
  pub at : Path
  pub down : Bool
  pub below : List Frame

abbrev pub frame_of : Here → ℕ → List Value → List Value → Frame
frame_of h pc s locals = record { function = h.fn; place = pc; stack = s; locals = locals; down = h.down }

abbrev pub box_of : Here → ℕ → List Value → State → List Path → Box
box_of h pc s st held = record {
  frames = frame_of h pc s st.locals ∷ h.below;
  path = h.at;
  ticks = st.world.ticks;
  held = held;
  entered = length st.world.entered;
  kept = record { messages = st.world.messages; created = st.world.created };
  generation = st.world.generation;
}

abbrev pub tour_of : Here → ℕ → List Value → State → List Path → Tour
tour_of h pc s st held = record { box = box_of h pc s st held; tree = st.world.tree; entered = st.world.entered; segments = st.world.changes; result = None }

-- the same paths, in whatever order
abbrev pub SameHeld : List Path → List Path → Type 0
SameHeld held held' = (q : Path) → is_held held q ≡ has held' q

-- an event that is over with this result
pub record IsOver (r : EventResult) (w : World) (d : Tour) : Type 0 where
  pub result : d.result ≡ Some r
  pub tree : d.tree ≡ w.tree
  pub entered : d.entered ≡ w.entered
  pub segments : d.segments ≡ suc w.changes

abbrev pub trap_result : TrapKind → Span → EventResult
trap_result k at = record { outcome = out.Trapped (record { kind = k; at = at }); messages = []; created = [] }

abbrev pub Moving : Move → Type 0
Moving (Runs b fields) = Unit {0}
Moving (Paused b fields why) = Unit {0}
Moving Lost = ⊥

module _ (program : Program) (fit : IsFit program) (verified : IsVerified program) where
  -- the event runs at this place, with this stack and state
  pub record At (h : Here) (pc : ℕ) (s : List Value) (st : State) (t : Tour) : Type 0 where
    pub held : List Path
    pub same : SameHeld held st.world.held
    pub is : t ≡ tour_of h pc s st held
    pub alive : Alive program fit verified t

  -- the lines of a function
  pub record IsCode (fn : ℕ) (lines : List Line) : Type 0 where
    pub code : code_of (slice_get program.functions fn) ≡ map (λ (l : Line). l.instr) lines
    pub places : places_of (slice_get program.functions fn) ≡ map (λ (l : Line). l.place) lines

  abbrev pub Leads : Tour → Tour → Type 0
  Leads c d = (k : ℕ) × (micros program k c ≡ d)

  pub stay : (c : Tour) → Leads c c
  stay c = (0, micros_none program c)

  pub on_to : (c d e : Tour) → Leads c d → Leads d e → Leads c e
  on_to c d e l m = (l.0 + m.0, micros_add program l.0 m.0 c ∙ ap (micros program m.0) l.1 ∙ m.1)

  pub place_is : (h : Here) (pc pc' : ℕ) (s : List Value) (st : State) (t : Tour) → pc ≡ pc' → At h pc s st t → At h pc' s st t
  place_is h pc pc' s st t e a = subst (λ n. At h n s st t) e a

  -- it comes to where the value and the state say, with what is known of them; or it traps
  abbrev pub FollowsTo : {A : Type 0} → Tour → (A → State → Tour → Type 0) → (A → State → Type 0) → Outcome A → Type 0
  FollowsTo c next Known (Done a st) = (d : Tour) × Leads c d × next a st d × Known a st
  FollowsTo c next Known (Trapped k at w) = (d : Tour) × Leads c d × IsOver (trap_result k at) w d
  FollowsTo c next Known (Left l st) = ⊥

  pub record Follows {A : Type 0} (c : Tour) (next : A → State → Tour → Type 0) (Known : A → State → Type 0) (o : Outcome A) : Type 0 where
    pub is : FollowsTo c next Known o

  pub lead_in : {A : Type 0} (c d : Tour) (next : A → State → Tour → Type 0) (K : A → State → Type 0) (o : Outcome A) → Leads c d → Follows d next K o → Follows c next K o
  lead_in c d next K (Done a st) l f = record { is = (f.is.0, on_to c d f.is.0 l f.is.1, f.is.2, f.is.3) }
  lead_in c d next K (Trapped k at w) l f = record { is = (f.is.0, on_to c d f.is.0 l f.is.1, f.is.2) }
  lead_in c d next K (Left x st) l f = absurd f.is

  pub bind : {A B : Type 0} (c : Tour) (next : A → State → Tour → Type 0) (K : A → State → Type 0) (next' : B → State → Tour → Type 0) (K' : B → State → Type 0) (o : Outcome A) (f : A → Act B) →
      Follows c next K o → ((a : A) (st : State) (d : Tour) → next a st d → K a st → Follows d next' K' (f a st)) → Follows c next' K' (and_then o f)
  bind c next K next' K' (Done a st) f s g = lead_in c s.is.0 next' K' (f a st) s.is.1 (g a st s.is.0 s.is.2 s.is.3)
  bind c next K next' K' (Trapped k at w) f s g = record { is = s.is }
  bind c next K next' K' (Left l st) f s g = absurd s.is

  -- another end, and other facts
  pub ends : {A : Type 0} (c : Tour) (next : A → State → Tour → Type 0) (K : A → State → Type 0) (next' : A → State → Tour → Type 0) (K' : A → State → Type 0) (o : Outcome A) →
      Follows c next K o → ((a : A) (st : State) (d : Tour) → next a st d → K a st → next' a st d × K' a st) → Follows c next' K' o
  ends c next K next' K' (Done a st) s g = let b = g a st s.is.0 s.is.2 s.is.3 in record { is = (s.is.0, s.is.1, b.0, b.1) }
  ends c next K next' K' (Trapped k at w) s g = record { is = s.is }
  ends c next K next' K' (Left l st) s g = absurd s.is

  pub done : {A : Type 0} (c : Tour) (next : A → State → Tour → Type 0) (K : A → State → Type 0) (a : A) (st : State) → next a st c → K a st → Follows c next K (Done a st)
  done c next K a st n k = record { is = (c, stay c, n, k) }

  -- what the instruction of a line does
  abbrev pub move_at : Here → ℕ → List Value → State → List Path → Instr → Span → Move
  move_at h pc s st held i at = acts program (fields_above st.world.tree h.at) i at (frame_of h pc s st.locals) h.below (box_of h pc s st held) (st.world.tree.fields h.at)

  pub record IsLine (fn pc : ℕ) (i : Instr) (at : Span) : Type 0 where
    pub instr : slice_get (code_of (slice_get program.functions fn)) pc ≡ Some i
    pub place : slice_get (places_of (slice_get program.functions fn)) pc ≡ Some at

  pub line_is : (fn pc : ℕ) (lines : List Line) (i : Instr) (at : Span) → IsCode fn lines → slice_get lines pc ≡ Some (line i at) → IsLine fn pc i at
  line_is fn pc lines i at c e = record {
    instr = ap (λ l. slice_get l pc) c.code ∙ slice_get-map (λ (l : Line). l.instr) lines pc ∙ ap (option_map (λ (l : Line). l.instr)) e;
    place = ap (λ l. slice_get l pc) c.places ∙ slice_get-map (λ (l : Line). l.place) lines pc ∙ ap (option_map (λ (l : Line). l.place)) e;
  }

  line_move : (h : Here) (pc : ℕ) (s : List Value) (st : State) (held : List Path) (i : Instr) (at : Span) → IsLine h.fn pc i at → move_of program (tour_of h pc s st held) ≡ move_at h pc s st held i at
  unfolding one_step act_move
  line_move h pc s st held i at l =
      ap (λ o. with_some o (λ i. with_some (slice_get (places_of (slice_get program.functions h.fn)) pc) (λ at. act_move program (fields_above st.world.tree h.at) i at (frame_of h pc s st.locals) h.below (box_of h pc s st held) (st.world.tree.fields h.at)))) l.instr
      ∙ ap (λ o. with_some o (λ at. act_move program (fields_above st.world.tree h.at) i at (frame_of h pc s st.locals) h.below (box_of h pc s st held) (st.world.tree.fields h.at))) l.place

  module _ (h : Here) (pc : ℕ) (s : List Value) (st : State) (t : Tour) (a : At h pc s st t) (i : Instr) (at : Span) (l : IsLine h.fn pc i at) where
    -- it never loses its way
    pub moving : Moving (move_at h pc s st a.held i at)
    moving = go (move_at h pc s st a.held i at) is (moves_on program fit verified t a.alive)
      where
        is : move_of program t ≡ move_at h pc s st a.held i at
        is = ap (move_of program) a.is ∙ line_move h pc s st a.held i at l

        go : (m : Move) → move_of program t ≡ m → MovesOn program a.alive.path a.alive.calls (move_of program t) → Moving m
        go (Runs b fields) e h = tt
        go (Paused b fields why) e h = tt
        go Lost e h = subst (MovesOn program a.alive.path a.alive.calls) e h

    pub after : micro program t ≡ resumed (tour_of h pc s st a.held) (move_at h pc s st a.held i at)
    after = ap (micro program) a.is ∙ ap (resumed (tour_of h pc s st a.held)) (line_move h pc s st a.held i at l)

    pub leads : (d : Tour) → resumed (tour_of h pc s st a.held) (move_at h pc s st a.held i at) ≡ d → Leads t d
    leads d e = (1, micros_more program 0 t ∙ micros_none program (micro program t) ∙ after ∙ e)

    -- to another place
    pub arrives : (h' : Here) (pc' : ℕ) (s' : List Value) (st' : State) (held' : List Path) → SameHeld held' st'.world.held → resumed (tour_of h pc s st a.held) (move_at h pc s st a.held i at) ≡ tour_of h' pc' s' st' held' → (d : Tour) × Leads t d × At h' pc' s' st' d
    arrives h' pc' s' st' held' same e = (tour_of h' pc' s' st' held', leads (tour_of h' pc' s' st' held') e, record { held = held'; same = same; is = refl; alive = lives })
      where
        running : t.result ≡ None
        running = ap (λ (t : Tour). t.result) a.is

        next : micro program t ≡ tour_of h' pc' s' st' held'
        next = after ∙ e

        same_micro : micro program t ≡ resumed t (move_of program t)
        same_micro = ap (micro_if program t) running

        lives : Alive program fit verified (tour_of h' pc' s' st' held')
        lives = subst (Alive program fit verified) (sym same_micro ∙ next) (stays_alive program fit verified t a.alive running (ap (λ (t : Tour). t.result) (sym same_micro ∙ next)))

    -- it runs on, with these fields of its context
    pub runs_on : (h' : Here) (pc' : ℕ) (s' : List Value) (st' : State) (fields : Fields) → move_at h pc s st a.held i at ≡ Runs (box_of h' pc' s' st' a.held) fields → put st.world.tree h.at fields ≡ st'.world.tree →
        st.world.entered ≡ st'.world.entered → st.world.changes ≡ st'.world.changes → st.world.held ≡ st'.world.held → (d : Tour) × Leads t d × At h' pc' s' st' d
    runs_on h' pc' s' st' fields m tree entered changes held =
        arrives h' pc' s' st' a.held (λ q. a.same q ∙ ap (λ l. has l q) held)
        (ap (resumed (tour_of h pc s st a.held)) m ∙ (λ i. record { box = box_of h' pc' s' st' a.held; tree = tree i; entered = entered i; segments = changes i; result = None }))

    -- the same world
    pub steps_on : (h' : Here) (pc' : ℕ) (s' locals : List Value) → move_at h pc s st a.held i at ≡ Runs (box_of h' pc' s' (record { locals = locals; world = st.world }) a.held) (st.world.tree.fields h.at) → (d : Tour) × Leads t d × At h' pc' s' (record { locals = locals; world = st.world }) d
    steps_on h' pc' s' locals m = runs_on h' pc' s' (record { locals = locals; world = st.world }) (st.world.tree.fields h.at) m (put_same st.world.tree h.at) refl refl refl

    -- it is over
    pub traps : (k : TrapKind) → move_at h pc s st a.held i at ≡ trap_move k at (box_of h pc s st a.held) (st.world.tree.fields h.at) → (d : Tour) × Leads t d × IsOver (trap_result k at) st.world d
    traps k m =
        let e = ap (resumed (tour_of h pc s st a.held)) m in
        (_, leads _ e, record { result = refl; tree = put_same st.world.tree h.at; entered = refl; segments = refl })
