-- Methods and events of a typed service, with their names resolved, are typed.
use Rattle.std.proofs.Common.{◌≡◌, ℕ, ◌<◌, Bool, true, false, List, [], ◌∷◌, ◌++◌, length, map, Option, Some, None, is_some, refl, sym, ap, subst, ◌∙◌, append_assoc}
use Rattle.std.specs.Option.{option_map, option_map_or}
use Rattle.wave_base.specs.declared.span.Span.{Span}
use Rattle.wave_base.specs.declared.value.Kind.{Kind}
use Rattle.wave_base.specs.declared.value.Kind.TheVariants as k
use Rattle.mace_ast.specs.declared.method.Param.{Param}
use Rattle.mace_ast.specs.declared.name.Name.{Name}
use Rattle.mace_ast.specs.Decls.{LastTree, MethodTree, PhaseTree, EventTree}
use Rattle.mace_ast.specs.Stmts.{stmts_of}
use Rattle.resolved_service.specs.declared.service.Event.{Event}
use Rattle.resolved_service.specs.declared.service.Last.{Last}
use Rattle.resolved_service.specs.declared.service.Method.{Method}
use Rattle.resolved_service.specs.declared.service.Phase.{Phase}
use Rattle.resolved_service.specs.Steps.{steps_in, surely_ends}
use Rattle.code_scheme.specs.Typed.{InMethod, InEvent, IsChild, HasKind, AreTyped, IsTypedLast, AreTypedPhases, IsTypedMethod, IsTypedEvent}
use Rattle.type_rules.specs.declared.known.Known.{Known}
use Rattle.type_rules.specs.declared.error.TypeError.TheVariants.{UnknownName, Mismatch, MissingReply, NotDownward}
use Rattle.type_rules.specs.Demands.{ask, first_wrong}
use Rattle.type_rules.specs.Known.{kinds_of, class_named, event_info}
use Rattle.type_rules.specs.Here.{Here, Function, OfMethod, OfEvent, start, with_local, is_child}
use Rattle.type_rules.specs.Exprs.{or_zero, class_asks, demands_as}
use Rattle.type_rules.specs.Stmts.{stmts_demands, reach_asks}
use Rattle.type_rules.specs.Functions.{LastView, MethodView, PhaseView, EventView, after_params, method_params_demands, event_params_demands, last_demands, resolve_last, method_start, method_end, method_body, method_demands, resolve_method, event_start, here_stmts, here_end, here_body, event_ended, ended_behind, phase_here, phase_body, phase_end, event_end, phase_demands, phases_demands, event_demands, resolve_phase, resolve_phases, resolve_event}
use Rattle.type_rules.specs.Views.{last_view, method_view, phase_view, event_view}
use Rattle.type_rules.proofs.First.{first_wrong_parts}
use Rattle.type_laws.proofs.Sound.{AllHold, all_hold, none_wrong}
use Rattle.type_laws.proofs.Trees.{absent}
use Rattle.typed_code.proofs.Blocks.{At, placed, after_all_at, tree_as, stmts_are}
use Rattle.typed_code.proofs.Exprs.{Declared, Named}
use Rattle.typed_code.proofs.Levels.{LevelsAre}
use Rattle.typed_code.proofs.Slots.{Grows, grows_none, grows_then, after_all_grows, after_all_named, declared_named}

-- ---- parameters have the first slots

params_slots : (h : Here) (ps : List Param) → (after_params h ps).slots ≡ h.slots ++ kinds_of ps
params_slots h [] = none h.slots
  where
    none : (xs : List Kind) → xs ≡ xs ++ []
    none [] = refl
    none (x ∷ xs) = ap (λ l. x ∷ l) (none xs)
params_slots h (p ∷ ps) = params_slots (with_local h p.name.text p.kind) ps ∙ append_assoc h.slots (p.kind ∷ []) (kinds_of ps)

params_grow : (h : Here) (ps : List Param) → Grows h.slots (after_params h ps).slots
params_grow h ps = (kinds_of ps, params_slots h ps)

params_named : (locals : List Kind) (h : Here) (ps : List Param) → Named locals h.locals → Grows (after_params h ps).slots locals → Named locals (after_params h ps).locals
params_named locals h [] n g = n
params_named locals h (p ∷ ps) n g =
    let one = with_local h p.name.text p.kind in
    params_named locals one ps (declared_named locals h p.name.text p.kind n (grows_then one.slots (after_params one ps).slots locals (params_grow one ps) g)) g

event_end_grows : (h : Here) (ps : List PhaseTree) → Grows h.slots (event_end h ps).slots
event_end_grows h [] = grows_none h.slots
event_end_grows h (p ∷ ps) = grows_then h.slots (phase_end h p).slots (event_end (phase_end h p) ps).slots (after_all_grows (phase_here h p) (stmts_of p.body)) (event_end_grows (phase_end h p) ps)

module _ (known : Known) (methods : List Method) (there : Declared known methods) (levels : LevelsAre known) where
  -- ---- the end of a function

  abbrev pub LastIs : ℕ → List Kind → ℕ → Bool → Option Kind → Option LastView → Type 0
  LastIs function locals class ended None None = Unit {0}
  LastIs function locals class true (Some kind) None = Unit {0}
  LastIs function locals class false (Some kind) (Some last) = HasKind known.shape methods function locals class last.value kind
  LastIs function locals class _ _ _ = ⊥

  last_back : (function : ℕ) (locals : List Kind) (class : ℕ) (ended : Bool) (result : Option Kind) (l : Option Last) → LastIs function locals class ended result (option_map last_view l) → IsTypedLast known.shape methods function locals class ended result l
  last_back function locals class true None None h = tt
  last_back function locals class false None None h = tt
  last_back function locals class true (Some kind) None h = tt
  last_back function locals class false (Some kind) None h = h
  last_back function locals class true None (Some l) h = h
  last_back function locals class false None (Some l) h = h
  last_back function locals class true (Some kind) (Some l) h = h
  last_back function locals class false (Some kind) (Some l) h = h

  module _ (class function : ℕ) (within : Function) (locals : List Kind) (h : Here) (at : At known class function within h) (named : Named locals h.locals) (name : Name) where
    last_is : (ended : Bool) (result : Option Kind) (last : Option LastTree) → first_wrong (last_demands h name ended result last) ≡ None → LastIs function locals class ended result (option_map (resolve_last h) last)
    last_is true None None d = tt
    last_is false None None d = tt
    last_is true (Some kind) None d = tt
    last_is false (Some kind) None d = absurd (absent (all_hold (ask false (MissingReply name.at) ∷ []) d).0)
    last_is true None (Some last) d = absurd (absent (all_hold (reach_asks true last.at ++ ask false (Mismatch last.at) ∷ []) d).0)
    last_is false None (Some last) d = absurd (absent (all_hold (reach_asks false last.at ++ ask false (Mismatch last.at) ∷ []) d).1.0)
    last_is true (Some kind) (Some last) d = absurd (absent (all_hold (reach_asks true last.at ++ demands_as h kind last.value) d).0)
    last_is false (Some kind) (Some last) d = tree_as known class function within methods locals there levels h at named kind last.value d

  params_at : (class function : ℕ) (within : Function) (h : Here) → At known class function within h → (ps : List Param) → At known class function within (after_params h ps)
  params_at class function within h at [] = at
  params_at class function within h at (p ∷ ps) =
      params_at class function within (with_local h p.name.text p.kind) (placed known class function within h (with_local h p.name.text p.kind) at refl refl refl refl) ps

  -- ---- methods

  pub record MethodIs (number : ℕ) (v : MethodView) : Type 0 where
    pub class : v.class < length known.shape.classes
    pub locals : (more : List Kind) × (v.locals ≡ v.params ++ more)
    pub body : AreTyped known.shape methods number v.locals v.class (InMethod v.result) v.body
    pub last : LastIs number v.locals v.class (surely_ends v.body) v.result v.last

  pub method_back : (number : ℕ) (m : Method) → MethodIs number (method_view m) → IsTypedMethod known.shape methods number m
  method_back number m h = record { class = h.class; locals = h.locals; body = h.body; last = last_back number m.locals m.class.0 (surely_ends (steps_in m.body)) m.result m.last h.last }

  pub method_is : (class n : ℕ) (m : MethodTree) → class < length known.shape.classes → first_wrong (method_demands known class n m) ≡ None → MethodIs n (resolve_method known class n m)
  method_is class n m below d =
      let within = OfMethod m.result in
      let begins = start known class n within in
      let h = method_start known class n m in
      let end = method_end known class n m in
      let ended = surely_ends (method_body known class n m) in
      let ends = last_demands end m.name ended m.result m.last in
      let first = stmts_demands h (stmts_of m.body) in
      let a = none_wrong (method_params_demands begins m.params ++ (first ++ ends)) (all_hold (method_demands known class n m) d).1 in
      let b = first_wrong_parts (method_params_demands begins m.params) (first ++ ends) a in
      let c = first_wrong_parts first ends b.1 in
      let at : At known class n within h = params_at class n within begins (record { same_known = refl; same_class = refl; same_function = refl; same_within = refl }) m.params in
      let grown : Grows h.slots end.slots = after_all_grows h (stmts_of m.body) in
      let named : Named end.slots h.locals = params_named end.slots begins m.params tt grown in
      record {
        class = below;
        locals = grows_then (kinds_of m.params) h.slots end.slots ([], params_slots begins m.params ∙ sym (none (kinds_of m.params))) grown;
        body = stmts_are known class n within methods end.slots there levels h at named (stmts_of m.body) (grows_none end.slots) c.0;
        last = last_is class n within end.slots end (after_all_at known class n within h at (stmts_of m.body)) (after_all_named end.slots h (stmts_of m.body) named (grows_none end.slots)) m.name ended m.result m.last c.1;
      }
    where
      none : (xs : List Kind) → xs ++ [] ≡ xs
      none [] = refl
      none (x ∷ xs) = ap (λ l. x ∷ l) (none xs)

  -- ---- events

  class_child : (class function : ℕ) (within : Function) (h : Here) → At known class function within h → (at : Span) (name : List ℕ) → first_wrong (class_asks h at name) ≡ None → IsChild known.shape class (or_zero (class_named h.known name))
  class_child class function within h here at name d = by (class_named h.known name) (all_hold (class_asks h at name) d)
    where
      by : (o : Option ℕ) → AllHold (ask (is_some o) (UnknownName at) ∷ ask (option_map_or (is_child h) o false) (NotDownward at) ∷ []) → IsChild known.shape class (or_zero o)
      by (Some n) a = subst (λ c. IsChild known.shape c n) here.same_class (subst (λ (x : Known). IsChild x.shape h.class n) here.same_known a.1.0)
      by None a = absurd (absent a.0)

  module _ (function : ℕ) (locals : List Kind) (name : Name) (result : Option Kind) (last : Option LastTree) (l : Option Last) where
    phases_are : (class : ℕ) (h : Here) → At known class function (OfEvent result) h → Named locals h.locals → (ended : Bool) (ps : List PhaseTree) → Grows (event_end h ps).slots locals → (fs : List Phase)
        → map phase_view fs ≡ resolve_phases h ps → option_map last_view l ≡ option_map (resolve_last (event_end h ps)) last
        → first_wrong (phases_demands h ended ps) ≡ None → first_wrong (last_demands (event_end h ps) name (ended_behind h ended ps) result last) ≡ None → AreTypedPhases known.shape methods function locals class ended fs result l
    phases_are class h at named ended [] g [] e is d f =
        last_back function locals class ended result l (subst (LastIs function locals class ended result) (sym is) (last_is class function (OfEvent result) locals h at named name ended result last f))
    phases_are class h at named ended [] g (x ∷ fs) e is d f = cc
    phases_are class h at named ended (p ∷ ps) g [] e is d f = cc
    phases_are class h at named true (p ∷ ps) g (x ∷ fs) e is d f = absurd (absent (all_hold (phases_demands h true (p ∷ ps)) d).0)
    phases_are class h at named false (p ∷ ps) g (x ∷ fs) e is d f =
        let within = OfEvent result in
        let on = surely_ends (phase_body h p) in
        let a = first_wrong_parts (phase_demands h false p) (phases_demands (phase_end h p) on ps) d in
        let b = first_wrong_parts (class_asks h p.at p.class) (demands_as h k.Int p.key ++ stmts_demands (phase_here h p) (stmts_of p.body)) a.0 in
        let c = first_wrong_parts (demands_as h k.Int p.key) (stmts_demands (phase_here h p) (stmts_of p.body)) b.1 in
        let one : phase_view x ≡ resolve_phase h p = cc in
        let rest : map phase_view fs ≡ resolve_phases (phase_end h p) ps = cc in
        let n = or_zero (class_named h.known p.class) in
        let below : At known n function within (phase_here h p) = record { same_known = at.same_known; same_class = refl; same_function = at.same_function; same_within = at.same_within } in
        let number : n ≡ x.class.0 = sym (ap (λ (v : PhaseView). v.class) one) in
        let goes : on ≡ surely_ends (steps_in x.body) = sym (ap (λ (v : PhaseView). surely_ends v.body) one) in
        let end = phase_end h p in
        let grown : Grows end.slots locals = grows_then end.slots (event_end end ps).slots locals (event_end_grows end ps) g in
        let names : Named locals end.locals = after_all_named locals (phase_here h p) (stmts_of p.body) named grown in (
          subst (IsChild known.shape class) number (class_child class function within h at p.at p.class b.0),
          subst (λ t. HasKind known.shape methods function locals class t k.Int) (sym (ap (λ (v : PhaseView). v.key) one)) (tree_as known class function within methods locals there levels h at named k.Int p.key c.0),
          subst (λ m. AreTyped known.shape methods function locals m (InEvent result) (steps_in x.body)) number
              (subst (AreTyped known.shape methods function locals n (InEvent result)) (sym (ap (λ (v : PhaseView). v.body) one)) (stmts_are known n function within methods locals there levels (phase_here h p) below named (stmts_of p.body) grown c.1)),
          subst (λ m. AreTypedPhases known.shape methods function locals m (surely_ends (steps_in x.body)) fs result l) number
              (subst (λ t. AreTypedPhases known.shape methods function locals n t fs result l) goes
              (phases_are n end (after_all_at known n function within (phase_here h p) below (stmts_of p.body)) names on ps g fs rest is a.1 f)),
        )

  pub event_is : (n : ℕ) (e : EventTree) (made : Event) → length known.methods ≡ length methods → event_view made ≡ resolve_event known e → first_wrong (event_demands known n e) ≡ None → IsTypedEvent known.shape methods (event_info e) made
  event_is n e made count is d =
      let f = length known.methods in
      let within = OfEvent e.result in
      let begins = start known 0 f within in
      let h = event_start known e in
      let mid = here_end known e in
      let end = event_end mid e.phases in
      let ended = surely_ends (here_body known e) in
      let ends = last_demands end e.name (event_ended known e) e.result e.last in
      let phases = phases_demands mid ended e.phases in
      let first = stmts_demands h (here_stmts e) in
      let a = none_wrong (event_params_demands begins e.params ++ (first ++ (phases ++ ends))) (all_hold (event_demands known n e) d).1 in
      let b = first_wrong_parts (event_params_demands begins e.params) (first ++ (phases ++ ends)) a in
      let c = first_wrong_parts first (phases ++ ends) b.1 in
      let g = first_wrong_parts phases ends c.1 in
      let at : At known 0 f within h = params_at 0 f within begins (record { same_known = refl; same_class = refl; same_function = refl; same_within = refl }) e.params in
      let late : Grows mid.slots end.slots = event_end_grows mid e.phases in
      let grown : Grows h.slots end.slots = grows_then h.slots mid.slots end.slots (after_all_grows h (here_stmts e)) late in
      let named : Named end.slots h.locals = params_named end.slots begins e.params tt grown in
      let slots : made.locals ≡ end.slots = ap (λ (v : EventView). v.locals) is in
      let params : Grows (kinds_of e.params) end.slots = grows_then (kinds_of e.params) h.slots end.slots ([], params_slots begins e.params ∙ sym (none (kinds_of e.params))) grown in
      let goes : ended ≡ surely_ends (steps_in made.here) = sym (ap (λ (v : EventView). surely_ends v.here) is) in
      let here = subst (AreTyped known.shape methods f end.slots 0 (InEvent e.result)) (sym (ap (λ (v : EventView). v.here) is)) (stmts_are known 0 f within methods end.slots there levels h at named (here_stmts e) late c.0) in
      let below = subst (λ t. AreTypedPhases known.shape methods f end.slots 0 t made.phases e.result made.last) goes
      (phases_are f end.slots e.name e.result e.last made.last 0 mid (after_all_at known 0 f within h at (here_stmts e)) (after_all_named end.slots h (here_stmts e) named late) ended e.phases (grows_none end.slots) made.phases
      (ap (λ (v : EventView). v.phases) is) (ap (λ (v : EventView). v.last) is) g.0 g.1) in
      record {
        locals = (params.0, slots ∙ params.1);
        here = subst (λ m. AreTyped known.shape methods m made.locals 0 (InEvent e.result) (steps_in made.here)) count (subst (λ ls. AreTyped known.shape methods f ls 0 (InEvent e.result) (steps_in made.here)) (sym slots) here);
        phases = subst (λ m. AreTypedPhases known.shape methods m made.locals 0 (surely_ends (steps_in made.here)) made.phases e.result made.last) count
            (subst (λ ls. AreTypedPhases known.shape methods f ls 0 (surely_ends (steps_in made.here)) made.phases e.result made.last) (sym slots) below);
      }
    where
      none : (xs : List Kind) → xs ++ [] ≡ xs
      none [] = refl
      none (x ∷ xs) = ap (λ l. x ∷ l) (none xs)
