-- A typed service, with its names resolved, is what the scheme of the compiler asks for.
use Rattle.std.proofs.Common.{◌≡◌, ℕ, zero, suc, ◌+◌, ◌<◌, ◌≤◌, List, [], ◌∷◌, ◌++◌, length, map, slice_get, unwrap_or, Option, Some, None, refl, sym, ap, subst, ◌∙◌, arith}
use Rattle.std.specs.Option.{option_map}
use Rattle.std.proofs.lemmas.List.{map-append, length-map}
use Rattle.std.proofs.lemmas.Option.{slice_get-get_or, slice_get-map, slice_get_within, get_or_from_slice_get}
use Rattle.wave_base.specs.declared.shape.EventInfo.{EventInfo}
use Rattle.wave_base.specs.Shapes.{IsShape}
use Rattle.mace_ast.specs.Decls.{MethodTree, EventTree, ContextTree, ContextTrees, Context, no_contexts, context_and, contexts_of, ServiceTree}
use Rattle.resolved_service.specs.declared.service.Event.{Event}
use Rattle.resolved_service.specs.declared.service.Method.{Method}
use Rattle.resolved_service.specs.declared.service.Resolved.{Resolved}
use Rattle.code_scheme.specs.Typed as code
use Rattle.type_rules.specs.declared.known.Known.{Known}
use Rattle.type_rules.specs.declared.known.Signature.{Signature}
use Rattle.type_rules.specs.Demands.{first_wrong}
use Rattle.type_rules.specs.Known.{Entry, event_info, signature, signature_at, no_signature, methods_of, methods_in, service_methods, service_classes, shape_of, known_of}
use Rattle.mace_ast.specs.Counts.{class_count, classes_count}
use Rattle.type_rules.specs.Functions.{MethodView, method_demands, resolve_method, event_demands, resolve_event}
use Rattle.type_rules.specs.Services.{ResolvedView, name_asks, fields_demands, methods_demands, context_demands, contexts_demands, events_demands, resolve_methods, resolve_context, resolve_contexts, resolve_with, resolve_service, IsTyped}
use Rattle.type_rules.specs.Views.{method_view, event_view, resolved_view}
use Rattle.type_rules.proofs.First.{first_wrong_parts}
use Rattle.type_laws.proofs.Each.{Each, each_none, each_cons, each_both}
use Rattle.type_laws.proofs.Services.{context_signed, contexts_signed}
use Rattle.type_rules.proofs.Counts.{length-classes_in}
use Rattle.type_laws.proofs.Sound.{Parts, parts}
use Rattle.typed_code.proofs.Exprs.{Declared}
use Rattle.typed_code.proofs.Functions.{MethodIs, method_back, method_is, event_is}
use Rattle.typed_code.proofs.Levels.{LevelsAre, levels_known}

-- ---- what resolved methods declare

abbrev sig_of : MethodView → Signature
sig_of v = record { class = v.class; name = v.name; params = v.params; result = v.result }

module _ (known : Known) where
  own_signed : (class n : ℕ) (ms : List MethodTree) → map sig_of (resolve_methods known class n ms) ≡ map (signature class) ms
  own_signed class n [] = refl
  own_signed class n (m ∷ ms) = ap (λ l. signature class m ∷ l) (own_signed class (n + 1) ms)

  context_long : (class n : ℕ) (c : ContextTree) → length (resolve_context known class n c) ≡ length (methods_of class c)
  context_long class n c = sym (length-map (resolve_context known class n c) sig_of) ∙ ap length (context_signed known class n c)

  contexts_long : (class n : ℕ) (cs : ContextTrees) → length (resolve_contexts known class n cs) ≡ length (methods_in class cs)
  contexts_long class n cs = sym (length-map (resolve_contexts known class n cs) sig_of) ∙ ap length (contexts_signed known class n cs)

  service_signed : (s : ServiceTree) → map sig_of (resolve_with known s).methods ≡ service_methods s
  service_signed s =
      map-append sig_of (resolve_contexts known 1 0 (contexts_of s.contexts)) (resolve_methods known 0 (length (methods_in 1 (contexts_of s.contexts))) s.methods)
      ∙ (λ i. contexts_signed known 1 0 (contexts_of s.contexts) i ++ own_signed 0 (length (methods_in 1 (contexts_of s.contexts))) s.methods i)

-- methods whose views declare what is known are there
declared : (known : Known) (methods : List Method) → map sig_of (map method_view methods) ≡ known.methods → Declared known methods
declared known methods signed m l =
    by (slice_get methods m) refl
    (sym (slice_get-get_or known.methods m no_signature l) ∙ ap (λ ss. slice_get ss m) (sym signed) ∙ slice_get-map sig_of (map method_view methods) m ∙ ap (option_map sig_of) (slice_get-map method_view methods m))
  where
    by : (o : Option Method) → slice_get methods m ≡ o → Some (signature_at known m) ≡ option_map sig_of (option_map method_view o)
        → (one : Method) × (slice_get methods m ≡ Some one) × (one.class.0 ≡ (signature_at known m).class) × (one.params ≡ (signature_at known m).params) × (one.result ≡ (signature_at known m).result)
    by (Some one) is found =
        let same : sig_of (method_view one) ≡ signature_at known m = ap (λ o. unwrap_or o (sig_of (method_view one))) (sym found) in
        (one, is, ap (λ (s : Signature). s.class) same, ap (λ (s : Signature). s.params) same, ap (λ (s : Signature). s.result) same)
    by None is found = cc

-- ---- all methods, and all events

module _ (known : Known) (methods : List Method) (there : Declared known methods) (levels : LevelsAre known) where
  abbrev Is : ℕ → MethodView → Type 0
  Is n v = MethodIs known methods there levels n v

  own_are : (class n : ℕ) (ms : List MethodTree) → class < length known.shape.classes → first_wrong (methods_demands known class n ms) ≡ None → Each Is n (resolve_methods known class n ms)
  own_are class n [] within d = each_none Is n
  own_are class n (m ∷ ms) within d =
      let p = first_wrong_parts (method_demands known class n m) (methods_demands known class (n + 1) ms) d in
      each_cons Is n (resolve_method known class n m) (resolve_methods known class (n + 1) ms) (method_is known methods there levels class n m within p.0) (own_are class (n + 1) ms within p.1)

  mutual
    context_are : (class n : ℕ) (c : ContextTree) → class + class_count c ≤ length known.shape.classes → first_wrong (context_demands known class n c) ≡ None → Each Is n (resolve_context known class n c)
    context_are class n (Context at name vars contexts ms) within d =
        let inner = length (methods_in (class + 1) contexts) in
        let own = methods_demands known class (n + inner) ms in
        let a = first_wrong_parts (name_asks known class name) (fields_demands known class 0 vars ++ (contexts_demands known (class + 1) n contexts ++ own)) d in
        let b = first_wrong_parts (fields_demands known class 0 vars) (contexts_demands known (class + 1) n contexts ++ own) a.1 in
        let c = first_wrong_parts (contexts_demands known (class + 1) n contexts) own b.1 in
        let long : n + inner ≡ n + length (resolve_contexts known (class + 1) n contexts) = ap (λ k. n + k) (sym (contexts_long known (class + 1) n contexts)) in
        each_both Is n (resolve_contexts known (class + 1) n contexts) (resolve_methods known class (n + inner) ms)
        (contexts_are (class + 1) n contexts (omega (arith, within)) c.0)
        (subst (λ k. Each Is k (resolve_methods known class (n + inner) ms)) long (own_are class (n + inner) ms (omega (arith, within)) c.1))

    contexts_are : (class n : ℕ) (cs : ContextTrees) → class + classes_count cs ≤ length known.shape.classes → first_wrong (contexts_demands known class n cs) ≡ None → Each Is n (resolve_contexts known class n cs)
    contexts_are class n no_contexts within d = each_none Is n
    contexts_are class n (context_and c cs) within d =
        let first = length (methods_of class c) in
        let p = first_wrong_parts (context_demands known class n c) (contexts_demands known (class + class_count c) (n + first) cs) d in
        let long : n + first ≡ n + length (resolve_context known class n c) = ap (λ k. n + k) (sym (context_long known class n c)) in
        each_both Is n (resolve_context known class n c) (resolve_contexts known (class + class_count c) (n + first) cs)
        (context_are class n c (omega (arith, within)) p.0)
        (subst (λ k. Each Is k (resolve_contexts known (class + class_count c) (n + first) cs)) long (contexts_are (class + class_count c) (n + first) cs (omega (arith, within)) p.1))

  methods_back : (views : List MethodView) → map method_view methods ≡ views → Each Is 0 views → (n : ℕ) (m : Method) → slice_get methods n ≡ Some m → code.IsTypedMethod known.shape methods n m
  methods_back views are each n m is =
      let found : slice_get views n ≡ Some (method_view m) = ap (λ vs. slice_get vs n) (sym are) ∙ slice_get-map method_view methods n ∙ ap (option_map method_view) is in
      let e : 0 + n ≡ n = omega arith in
      method_back known methods there levels n m
      (subst (λ k. Is k (method_view m)) e (subst (Is (0 + n)) (get_or_from_slice_get views n (method_view m) (method_view m) found) (each n (method_view m) (slice_get_within views n (method_view m) found))))

  events_are : (n : ℕ) (es : List EventTree) (made : List Event) → length known.methods ≡ length methods → map event_view made ≡ map (resolve_event known) es → first_wrong (events_demands known n es) ≡ None
      → (k : ℕ) (info : EventInfo) (x : Event) → slice_get (map event_info es) k ≡ Some info → slice_get made k ≡ Some x → code.IsTypedEvent known.shape methods info x
  events_are n es [] count is d k info x a b = cc
  events_are n [] (m ∷ ms) count is d k info x a b = cc
  events_are n (e ∷ es) (m ∷ ms) count is d zero info x a b =
      let one : event_view m ≡ resolve_event known e = cc in
      let i : event_info e ≡ info = cc in
      let j : m ≡ x = cc in
      subst (λ y. code.IsTypedEvent known.shape methods y x) i (subst (code.IsTypedEvent known.shape methods (event_info e)) j
      (event_is known methods there levels n e m count one (first_wrong_parts (event_demands known n e) (events_demands known (n + 1) es) d).0))
  events_are n (e ∷ es) (m ∷ ms) count is d (suc k) info x a b =
      let rest : map event_view ms ≡ map (resolve_event known) es = cc in
      events_are (n + 1) es ms count rest (first_wrong_parts (event_demands known n e) (events_demands known (n + 1) es) d).1 k info x a b

-- ---- all of a service

same_long : {A B C : Type 0} (f : A → C) (g : B → C) (xs : List A) (ys : List B) → map f xs ≡ map g ys → length xs ≡ length ys
same_long f g xs ys e = sym (length-map xs f) ∙ ap length e ∙ length-map ys g

typed_with : (known : Known) (s : ServiceTree) (r : Resolved) → known.methods ≡ service_methods s → known.shape.events ≡ map event_info s.events → length known.shape.classes ≡ 1 + classes_count (contexts_of s.contexts)
    → LevelsAre known → IsShape known.shape → Parts known s → resolved_view r ≡ resolve_with known s → code.IsTyped known.shape r
typed_with known s r declares infos classes levels shape p is =
    let contexts = contexts_of s.contexts in
    let inner = length (methods_in 1 contexts) in
    let methods_are : map method_view r.methods ≡ (resolve_with known s).methods = ap (λ (v : ResolvedView). v.methods) is in
    let events_same : map event_view r.events ≡ map (resolve_event known) s.events = ap (λ (v : ResolvedView). v.events) is in
    let signed : map sig_of (map method_view r.methods) ≡ known.methods = ap (map sig_of) methods_are ∙ service_signed known s ∙ sym declares in
    let there = declared known r.methods signed in
    let count : length known.methods ≡ length r.methods = ap length (sym signed) ∙ length-map (map method_view r.methods) sig_of ∙ length-map r.methods method_view in
    let long : inner ≡ 0 + length (resolve_contexts known 1 0 contexts) = omega (arith, contexts_long known 1 0 contexts) in
    let each = each_both (Is known r.methods there levels) 0 (resolve_contexts known 1 0 contexts) (resolve_methods known 0 inner s.methods)
    (contexts_are known r.methods there levels 1 0 contexts (omega (arith, classes)) p.contexts)
    (subst (λ k. Each (Is known r.methods there levels) k (resolve_methods known 0 inner s.methods)) long (own_are known r.methods there levels 0 inner s.methods (omega (arith, classes)) p.methods)) in
    record {
      shape_is = shape;
      methods = methods_back known r.methods there levels (resolve_with known s).methods methods_are each;
      count = same_long event_view (resolve_event known) r.events s.events events_same ∙ sym (length-map s.events event_info) ∙ ap length (sym infos);
      events = λ n info x a b. events_are known r.methods there levels 0 s.events r.events count events_same p.events n info x (ap (λ l. slice_get l n) (sym infos) ∙ a) b;
    }

pub typed_code : (s : ServiceTree) (r : Resolved) → IsTyped s → IsShape (shape_of s) → resolved_view r ≡ resolve_service s → code.IsTyped (shape_of s) r
unfolding shape_of known_of resolve_service
typed_code s r typed shape is =
    let contexts = contexts_of s.contexts in
    let classes : length (shape_of s).classes ≡ 1 + classes_count contexts = omega (arith, length-map (service_classes s) (λ (e : Entry). e.info), length-classes_in (0 ∷ []) 0 1 contexts) in
    typed_with (known_of s) s r refl refl classes (levels_known s typed) shape (parts s typed) is
