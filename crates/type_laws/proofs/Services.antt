-- Methods and events of a typed service, with their names resolved, fit.
use Rattle.std.proofs.Common.{◌≡◌, ℕ, zero, suc, ◌+◌, ◌<◌, ◌≤◌, Bool, false, not, List, [], ◌∷◌, ◌++◌, length, map, slice_get, unwrap_or, All, Option, Some, None, is_some, refl, sym, ap, subst, ◌∙◌, arith}
use Rattle.std.specs.Option.{option_map, option_map_or}
use Rattle.std.proofs.lemmas.List.{map-append}
use Rattle.std.proofs.lemmas.Option.{slice_get-get_or, slice_get-map}
use Rattle.wave_base.specs.declared.limits.TheConstants.{LOCALS}
use Rattle.wave_base.specs.declared.value.Kind.{Kind}
use Rattle.wave_base.specs.declared.value.Kind.TheVariants as k
use Rattle.wave_base.specs.declared.span.Span.{Span}
use Rattle.mace_ast.specs.declared.method.Param.{Param}
use Rattle.mace_ast.specs.declared.name.Name.{Name}
use Rattle.mace_ast.specs.Decls.{LastTree, MethodTree, PhaseTree, EventTree, ContextTree, ContextTrees, Context, no_contexts, context_and, contexts_of, ServiceTree}
use Rattle.mace_ast.specs.Stmts.{stmts_of}
use Rattle.resolved_service.specs.declared.service.Event.{Event}
use Rattle.resolved_service.specs.declared.service.Last.{Last}
use Rattle.resolved_service.specs.declared.service.Method.{Method}
use Rattle.resolved_service.specs.declared.service.Phase.{Phase}
use Rattle.resolved_service.specs.declared.service.Resolved.{Resolved}
use Rattle.resolved_service.specs.Fits.{IsChildClass, FitsTree, FitsSteps, FitsLast, FitsMethod, FitsPhases, FitsEvent, FitsService}
use Rattle.resolved_service.specs.Steps.{steps_in, surely_ends}
use Rattle.type_rules.specs.declared.known.Known.{Known}
use Rattle.type_rules.specs.declared.known.Signature.{Signature}
use Rattle.type_rules.specs.declared.error.TypeError.TheVariants.{UnknownName, Mismatch, NotDownward, Unreachable}
use Rattle.type_rules.specs.Demands.{ask, first_wrong}
use Rattle.type_rules.specs.Known.{class_named, signature, signature_at, no_signature, methods_of, methods_in, service_methods, shape_of, known_of}
use Rattle.mace_ast.specs.Counts.{class_count}
use Rattle.type_rules.specs.Here.{Here, OfMethod, OfEvent, start, with_local, is_child}
use Rattle.type_rules.specs.Exprs.{or_zero, class_asks, demands_as}
use Rattle.type_rules.specs.Stmts.{stmts_demands, reach_asks}
use Rattle.type_rules.specs.Functions.{LastView, MethodView, PhaseView, EventView, after_params, method_params_demands, event_params_demands, last_demands, resolve_last, method_start, method_end, method_body, method_demands, resolve_method, event_start, here_stmts, here_end, here_body, event_ended, phase_body, phase_here, phase_end, event_end, phase_demands, phases_demands, event_demands, resolve_phase, resolve_phases, resolve_event}
use Rattle.type_rules.specs.Services.{ResolvedView, name_asks, fields_demands, methods_demands, context_demands, contexts_demands, events_demands, resolve_methods, resolve_context, resolve_contexts, resolve_with, resolve_service, IsTyped}
use Rattle.type_rules.specs.Views.{last_view, method_view, phase_view, event_view, resolved_view}
use Rattle.type_rules.proofs.First.{first_wrong_parts}
use Rattle.type_laws.proofs.Slots.{params_within, method_params_few, event_params_few, all_few, phases_few}
use Rattle.type_laws.proofs.Sound.{AllHold, all_hold, none_wrong, Parts, parts}
use Rattle.type_laws.proofs.Steps.{At, after_all_at, tree_as, stmts_fit}
use Rattle.type_laws.proofs.Trees.{There, absent}

-- ---- what resolved methods declare

abbrev sig_of : MethodView → Signature
sig_of v = record { class = v.class; name = v.name; params = v.params; result = v.result }

module _ (known : Known) where
  methods_signed : (class n : ℕ) (ms : List MethodTree) → map sig_of (resolve_methods known class n ms) ≡ map (signature class) ms
  methods_signed class n [] = refl
  methods_signed class n (m ∷ ms) = ap (λ l. signature class m ∷ l) (methods_signed class (n + 1) ms)

  mutual
    pub context_signed : (class n : ℕ) (c : ContextTree) → map sig_of (resolve_context known class n c) ≡ methods_of class c
    context_signed class n (Context at name vars contexts methods) =
        map-append sig_of (resolve_contexts known (class + 1) n contexts) (resolve_methods known class (n + length (methods_in (class + 1) contexts)) methods)
        ∙ (λ i. contexts_signed (class + 1) n contexts i ++ methods_signed class (n + length (methods_in (class + 1) contexts)) methods i)

    pub contexts_signed : (class n : ℕ) (cs : ContextTrees) → map sig_of (resolve_contexts known class n cs) ≡ methods_in class cs
    contexts_signed class n no_contexts = refl
    contexts_signed class n (context_and c cs) =
        map-append sig_of (resolve_context known class n c) (resolve_contexts known (class + class_count c) (n + length (methods_of class c)) cs)
        ∙ (λ i. context_signed class n c i ++ contexts_signed (class + class_count c) (n + length (methods_of class c)) cs i)

service_signed : (known : Known) (s : ServiceTree) → map sig_of (resolve_with known s).methods ≡ service_methods s
service_signed known s =
    map-append sig_of (resolve_contexts known 1 0 (contexts_of s.contexts)) (resolve_methods known 0 (length (methods_in 1 (contexts_of s.contexts))) s.methods)
    ∙ (λ i. contexts_signed known 1 0 (contexts_of s.contexts) i ++ methods_signed known 0 (length (methods_in 1 (contexts_of s.contexts))) s.methods i)

-- methods whose views declare what is known are there
module _ (known : Known) (methods : List Method) (signed : map sig_of (map method_view methods) ≡ known.methods) where
  method_is : (m : ℕ) → m < length known.methods → (one : Method) × (slice_get methods m ≡ Some one) × (sig_of (method_view one) ≡ signature_at known m)
  method_is m l =
      by (slice_get methods m) refl
      (sym (slice_get-get_or known.methods m no_signature l) ∙ ap (λ ss. slice_get ss m) (sym signed) ∙ slice_get-map sig_of (map method_view methods) m ∙ ap (option_map sig_of) (slice_get-map method_view methods m))
    where
      by : (o : Option Method) → slice_get methods m ≡ o → Some (signature_at known m) ≡ option_map sig_of (option_map method_view o)
          → (one : Method) × (slice_get methods m ≡ Some one) × (sig_of (method_view one) ≡ signature_at known m)
      by (Some one) is found = (one, is, ap (λ o. unwrap_or o (sig_of (method_view one))) (sym found))
      by None is found = cc

  pub all_there : There known methods
  all_there m l =
      let r = method_is m l in
      record { method = r.0; is_there = r.1; class_is = ap (λ (s : Signature). s.class) r.2; params = ap (λ (s : Signature). length s.params) r.2 }

-- ---- one function

module _ (known : Known) (methods : List Method) (there : There known methods) where
  abbrev FitsLastView : ℕ → Option LastView → Type 0
  FitsLastView class None = Unit {0}
  FitsLastView class (Some last) = FitsTree known.shape methods class last.value

  last_back : (class : ℕ) (l : Option Last) → FitsLastView class (option_map last_view l) → FitsLast known.shape methods class l
  last_back class None f = tt
  last_back class (Some l) f = f

  module _ (class : ℕ) where
    last_fits : (h : Here) → At known class h → (name : Name) (ended : Bool) (kind : Option Kind) (last : Option LastTree) → first_wrong (last_demands h name ended kind last) ≡ None → FitsLastView class (option_map (resolve_last h) last)
    last_fits h at name ended kind None d = tt
    last_fits h at name ended None (Some last) d = absurd (absent (all_hold (ask (not ended) (Unreachable last.at) ∷ ask false (Mismatch last.at) ∷ []) d).1.0)
    last_fits h at name ended (Some kind) (Some last) d = tree_as known class methods there h at kind last.value (first_wrong_parts (reach_asks ended last.at) (demands_as h kind last.value) d).1

    params_at : (h : Here) → At known class h → (ps : List Param) → At known class (after_params h ps)
    params_at h at [] = at
    params_at h at (p ∷ ps) = params_at (with_local h p.name.text p.kind) (record { same_known = at.same_known; same_class = at.same_class }) ps

  -- ---- methods

  record MethodFits (v : MethodView) : Type 0 where
    body : FitsSteps known.shape methods v.class v.body
    last : FitsLastView v.class v.last
    few_locals : length v.locals ≤ LOCALS

  method_back : (m : Method) → MethodFits (method_view m) → FitsMethod known.shape methods m
  method_back m f = record { body = f.body; last = last_back m.class.0 m.last f.last; few_locals = f.few_locals }

  method_fits : (class n : ℕ) (m : MethodTree) → first_wrong (method_demands known class n m) ≡ None → MethodFits (resolve_method known class n m)
  method_fits class n m d =
      let h = method_start known class n m in
      let ended = surely_ends (method_body known class n m) in
      let begins = start known class n (OfMethod m.result) in
      let ends = last_demands (method_end known class n m) m.name ended m.result m.last in
      let rest = method_params_demands begins m.params ++ (stmts_demands h (stmts_of m.body) ++ ends) in
      let a = none_wrong rest (all_hold (method_demands known class n m) d).1 in
      let b = first_wrong_parts (method_params_demands begins m.params) (stmts_demands h (stmts_of m.body) ++ ends) a in
      let c = first_wrong_parts (stmts_demands h (stmts_of m.body)) ends b.1 in
      let at : At known class h = params_at class begins (record { same_known = refl; same_class = refl }) m.params in
      record {
        body = stmts_fit known class methods there h at (stmts_of m.body) c.0;
        last = last_fits class (method_end known class n m) (after_all_at known class h at (stmts_of m.body)) m.name ended m.result m.last c.1;
        few_locals = all_few h (stmts_of m.body) c.0 (params_within (length h.slots) (method_params_few begins m.params b.0 (omega arith)));
      }

  abbrev AllFit : List MethodView → Type 0
  AllFit [] = Unit {0}
  AllFit (v ∷ vs) = MethodFits v × AllFit vs

  both_fit : (vs ws : List MethodView) → AllFit vs → AllFit ws → AllFit (vs ++ ws)
  both_fit [] ws f g = g
  both_fit (v ∷ vs) ws f g = (f.0, both_fit vs ws f.1 g)

  methods_fit : (class n : ℕ) (ms : List MethodTree) → first_wrong (methods_demands known class n ms) ≡ None → AllFit (resolve_methods known class n ms)
  methods_fit class n [] d = tt
  methods_fit class n (m ∷ ms) d =
      let p = first_wrong_parts (method_demands known class n m) (methods_demands known class (n + 1) ms) d in
      (method_fits class n m p.0, methods_fit class (n + 1) ms p.1)

  mutual
    context_fits : (class n : ℕ) (c : ContextTree) → first_wrong (context_demands known class n c) ≡ None → AllFit (resolve_context known class n c)
    context_fits class n (Context at name vars contexts ms) d =
        let own = methods_demands known class (n + length (methods_in (class + 1) contexts)) ms in
        let a = first_wrong_parts (name_asks known class name) (fields_demands known class 0 vars ++ (contexts_demands known (class + 1) n contexts ++ own)) d in
        let b = first_wrong_parts (fields_demands known class 0 vars) (contexts_demands known (class + 1) n contexts ++ own) a.1 in
        let c = first_wrong_parts (contexts_demands known (class + 1) n contexts) own b.1 in
        both_fit (resolve_contexts known (class + 1) n contexts) (resolve_methods known class (n + length (methods_in (class + 1) contexts)) ms)
        (contexts_fit (class + 1) n contexts c.0) (methods_fit class (n + length (methods_in (class + 1) contexts)) ms c.1)

    contexts_fit : (class n : ℕ) (cs : ContextTrees) → first_wrong (contexts_demands known class n cs) ≡ None → AllFit (resolve_contexts known class n cs)
    contexts_fit class n no_contexts d = tt
    contexts_fit class n (context_and c cs) d =
        let p = first_wrong_parts (context_demands known class n c) (contexts_demands known (class + class_count c) (n + length (methods_of class c)) cs) d in
        both_fit (resolve_context known class n c) (resolve_contexts known (class + class_count c) (n + length (methods_of class c)) cs)
        (context_fits class n c p.0) (contexts_fit (class + class_count c) (n + length (methods_of class c)) cs p.1)

  all_methods : (ms : List Method) → AllFit (map method_view ms) → All (FitsMethod known.shape methods) ms
  all_methods [] f k d l = absurd (omega arith)
  all_methods (m ∷ ms) f zero d l = method_back m f.0
  all_methods (m ∷ ms) f (suc k) d l = all_methods ms f.1 k d (omega arith)

  -- ---- events

  class_child : (class : ℕ) (h : Here) → At known class h → (at : Span) (name : List ℕ) → first_wrong (class_asks h at name) ≡ None → IsChildClass known.shape class (or_zero (class_named h.known name))
  class_child class h here at name d = by (class_named h.known name) (all_hold (class_asks h at name) d)
    where
      by : (o : Option ℕ) → AllHold (ask (is_some o) (UnknownName at) ∷ ask (option_map_or (is_child h) o false) (NotDownward at) ∷ []) → IsChildClass known.shape class (or_zero o)
      by (Some n) a = subst (λ c. IsChildClass known.shape c n) here.same_class (subst (λ k. IsChildClass k.shape h.class n) here.same_known a.1.0)
      by None a = absurd (absent a.0)

  phases_fit : (class : ℕ) (h : Here) → At known class h → (ended past : Bool) (ps : List PhaseTree) (name : Name) (kind : Option Kind) (last : Option LastTree) (fs : List Phase) (l : Option Last)
      → map phase_view fs ≡ resolve_phases h ps → option_map last_view l ≡ option_map (resolve_last (event_end h ps)) last
      → first_wrong (phases_demands h ended ps) ≡ None → first_wrong (last_demands (event_end h ps) name past kind last) ≡ None → FitsPhases known.shape methods class fs l
  phases_fit class h at ended past [] name kind last [] l e is d g = last_back class l (subst (FitsLastView class) (sym is) (last_fits class h at name past kind last g))
  phases_fit class h at ended past [] name kind last (f ∷ fs) l e is d g = cc
  phases_fit class h at ended past (p ∷ ps) name kind last [] l e is d g = cc
  phases_fit class h at ended past (p ∷ ps) name kind last (f ∷ fs) l e is d g =
      let on = surely_ends (phase_body h p) in
      let a = first_wrong_parts (phase_demands h ended p) (phases_demands (phase_end h p) on ps) d in
      let asked = class_asks h p.at p.class ++ (demands_as h k.Int p.key ++ stmts_demands (phase_here h p) (stmts_of p.body)) in
      let b = first_wrong_parts (class_asks h p.at p.class) (demands_as h k.Int p.key ++ stmts_demands (phase_here h p) (stmts_of p.body)) (first_wrong_parts (reach_asks ended p.at) asked a.0).1 in
      let c = first_wrong_parts (demands_as h k.Int p.key) (stmts_demands (phase_here h p) (stmts_of p.body)) b.1 in
      let one : phase_view f ≡ resolve_phase h p = cc in
      let rest : map phase_view fs ≡ resolve_phases (phase_end h p) ps = cc in
      let n = or_zero (class_named h.known p.class) in
      let below : At known n (phase_here h p) = record { same_known = at.same_known; same_class = refl } in
      let number : n ≡ f.class.0 = sym (ap (λ (v : PhaseView). v.class) one) in (
        subst (IsChildClass known.shape class) number (class_child class h at p.at p.class b.0),
        subst (FitsTree known.shape methods class) (sym (ap (λ (v : PhaseView). v.key) one)) (tree_as known class methods there h at k.Int p.key c.0),
        subst (λ m. FitsSteps known.shape methods m (steps_in f.body)) number (subst (FitsSteps known.shape methods n) (sym (ap (λ (v : PhaseView). v.body) one)) (stmts_fit known n methods there (phase_here h p) below (stmts_of p.body) c.1)),
        subst (λ m. FitsPhases known.shape methods m fs l) number (phases_fit n (phase_end h p) (after_all_at known n (phase_here h p) below (stmts_of p.body)) on past ps name kind last fs l rest is a.1 g),
      )

  event_fits : (n : ℕ) (e : EventTree) (made : Event) → event_view made ≡ resolve_event known e → first_wrong (event_demands known n e) ≡ None → FitsEvent known.shape methods made
  event_fits n e made is d =
      let h = event_start known e in
      let begins = start known 0 (length known.methods) (OfEvent e.result) in
      let ended = surely_ends (here_body known e) in
      let past = event_ended known e in
      let ends = last_demands (event_end (here_end known e) e.phases) e.name past e.result e.last in
      let phases = phases_demands (here_end known e) ended e.phases in
      let first = stmts_demands h (here_stmts e) in
      let a = none_wrong (event_params_demands begins e.params ++ (first ++ (phases ++ ends))) (all_hold (event_demands known n e) d).1 in
      let b = first_wrong_parts (event_params_demands begins e.params) (first ++ (phases ++ ends)) a in
      let c = first_wrong_parts first (phases ++ ends) b.1 in
      let f = first_wrong_parts phases ends c.1 in
      let at : At known 0 h = params_at 0 begins (record { same_known = refl; same_class = refl }) e.params in
      record {
        here = subst (FitsSteps known.shape methods 0) (sym (ap (λ (v : EventView). v.here) is)) (stmts_fit known 0 methods there h at (here_stmts e) c.0);
        phases = phases_fit 0 (here_end known e) (after_all_at known 0 h at (here_stmts e)) ended past e.phases e.name e.result e.last made.phases made.last
            (ap (λ (v : EventView). v.phases) is) (ap (λ (v : EventView). v.last) is) f.0 f.1;
        few_locals = subst (λ (locals : List Kind). length locals ≤ LOCALS) (sym (ap (λ (v : EventView). v.locals) is))
            (phases_few (here_end known e) ended e.phases f.0 (all_few h (here_stmts e) c.0 (params_within (length h.slots) (event_params_few begins e.params b.0 (omega arith)))));
      }

  all_events : (n : ℕ) (es : List EventTree) (made : List Event) → map event_view made ≡ map (resolve_event known) es → first_wrong (events_demands known n es) ≡ None → All (FitsEvent known.shape methods) made
  all_events n es [] is d k x l = absurd (omega arith)
  all_events n [] (m ∷ ms) is d k x l = cc
  all_events n (e ∷ es) (m ∷ ms) is d zero x l =
      let one : event_view m ≡ resolve_event known e = cc in
      event_fits n e m one (first_wrong_parts (event_demands known n e) (events_demands known (n + 1) es) d).0
  all_events n (e ∷ es) (m ∷ ms) is d (suc k) x l =
      let rest : map event_view ms ≡ map (resolve_event known) es = cc in
      all_events (n + 1) es ms rest (first_wrong_parts (event_demands known n e) (events_demands known (n + 1) es) d).1 k x (omega arith)

-- ---- all of a service

fits_with : (known : Known) (s : ServiceTree) (r : Resolved) → known.methods ≡ service_methods s → Parts known s → resolved_view r ≡ resolve_with known s → FitsService known.shape r
fits_with known s r with_local p is =
    let methods_are : map method_view r.methods ≡ (resolve_with known s).methods = ap (λ (v : ResolvedView). v.methods) is in
    let signed : map sig_of (map method_view r.methods) ≡ known.methods = ap (map sig_of) methods_are ∙ service_signed known s ∙ sym with_local in
    let there = all_there known r.methods signed in
    let contexts = resolve_contexts known 1 0 (contexts_of s.contexts) in
    let own = resolve_methods known 0 (length (methods_in 1 (contexts_of s.contexts))) s.methods in
    record {
      methods = all_methods known r.methods there r.methods
          (subst (AllFit known r.methods there) (sym methods_are)
          (both_fit known r.methods there contexts own (contexts_fit known r.methods there 1 0 (contexts_of s.contexts) p.contexts) (methods_fit known r.methods there 0 (length (methods_in 1 (contexts_of s.contexts))) s.methods p.methods)));
      events = all_events known r.methods there 0 s.events r.events (ap (λ (v : ResolvedView). v.events) is) p.events;
    }

pub typed_fits : (s : ServiceTree) (r : Resolved) → IsTyped s → resolved_view r ≡ resolve_service s → FitsService (shape_of s) r
unfolding known_of resolve_service
typed_fits s r typed is = fits_with (known_of s) s r refl (parts s typed) is
