-- A service that was walked through.
use Rattle.std.proofs.Common.{◌≡◌, ◌+◌, ◌<◌, ◌^◌, ℕ, suc, length, List, [], ◌∷◌, map, None, Result, Err, refl, sym, ap, subst, ◌∙◌, arith}
use Rattle.std.specs.Prelude.{IfErr}
use Rattle.std.proofs.lemmas.List.{length-append, length-map}
use Rattle.wave_base.specs.declared.shape.Shape.{Shape}
use Rattle.wave_base.specs.Shapes.{IsShape}
use Rattle.mace_ast.specs.Counts.{methods_count, IsFew}
use Rattle.mace_ast.specs.Decls.{ServiceTree, MethodTree, ContextTrees, contexts_of}
use Rattle.resolved_service.specs.declared.service.Resolved.{Resolved}
use Rattle.resolved_service.specs.Fits.{FitsService}
use Rattle.type_rules.specs.declared.error.TypeError.{TypeError}
use Rattle.type_rules.specs.declared.known.Known.{Known}
use Rattle.type_rules.specs.declared.known.Signature.{Signature}
use Rattle.type_rules.specs.Demands.{Demand, first_wrong, Fails}
use Rattle.type_rules.specs.Functions.{MethodView, resolve_event}
use Rattle.type_rules.specs.Known.{methods_in, shape_of, known_of}
use Rattle.type_rules.specs.Services.{ResolvedView, demands_with, service_demands, resolve_methods, resolve_contexts, resolve_with, resolve_service, IsTyped}
use Rattle.type_rules.specs.Views.{method_view, event_view, resolved_view}
use Rattle.type_rules.proofs.Counts.{length-methods_in}
use Rattle.type_laws.specs.Differ.{NamesDiffer}
use Rattle.type_laws.proofs.Classes.{typed_shape, typed_names}
use Rattle.type_laws.proofs.Services.{contexts_signed, typed_fits}

pub told : {A : Type 0} (r : Result A TypeError) (e : TypeError) → ((y : TypeError) × (r ≡ Err y) × (y ≡ e)) → (asked : List Demand) → Fails asked e → IfErr r (λ w. Fails asked w)
told r e same asked f = subst (λ x. IfErr x (λ w. Fails asked w)) (sym same.1) (subst (Fails asked) (sym same.2) f)

module _ (s : ServiceTree) (known : Known) (is : known ≡ known_of s) where
  pub fails_alike : (e : TypeError) → Fails (demands_with known s) e → Fails (service_demands s) e
  unfolding service_demands
  fails_alike e f = subst (λ k. Fails (demands_with k s) e) is f

  pub shape_is : known.shape ≡ shape_of s
  unfolding known_of
  shape_is = ap (λ (k : Known). k.shape) is

  pub resolved_is : (v : ResolvedView) → resolve_with known s ≡ v → v ≡ resolve_service s
  unfolding resolve_service
  resolved_is v e = sym e ∙ ap (λ k. resolve_with k s) is

  module _ (holds : first_wrong (demands_with known s) ≡ None) where
    pub is_typed : IsTyped s
    unfolding service_demands
    is_typed = ap (λ k. first_wrong (demands_with k s)) (sym is) ∙ holds

    pub is_shape : (shape : Shape) → shape ≡ known.shape → length known.shape.classes < 2 ^ 16 → length known.shape.events < 2 ^ 16 → IsShape shape
    is_shape shape e classes events =
        subst IsShape (sym (e ∙ shape_is)) (typed_shape s is_typed (subst (λ (x : Shape). length x.classes < 2 ^ 16) shape_is classes) (subst (λ (x : Shape). length x.events < 2 ^ 16) shape_is events))

    pub differs : (shape : Shape) → shape ≡ known.shape → NamesDiffer shape
    differs shape e = subst NamesDiffer (sym (e ∙ shape_is)) (typed_names s is_typed)

    pub service_fits : (shape : Shape) (r : Resolved) → shape ≡ known.shape → resolve_with known s ≡ resolved_view r → FitsService shape r
    service_fits shape r e made = subst (λ x. FitsService x r) (sym (e ∙ shape_is)) (typed_fits s r is_typed (resolved_is (resolved_view r) made))

-- ---- how many methods and events there are

module _ (known : Known) where
  length-own : (class n : ℕ) (ms : List MethodTree) → length (resolve_methods known class n ms) ≡ length ms
  length-own class n [] = refl
  length-own class n (m ∷ ms) = ap suc (length-own class (n + 1) ms)

  length-inside : (class n : ℕ) (cs : ContextTrees) → length (resolve_contexts known class n cs) ≡ methods_count cs
  length-inside class n cs =
      sym (length-map (resolve_contexts known class n cs) signed) ∙ ap length (contexts_signed known class n cs) ∙ length-methods_in class cs
    where
      signed : MethodView → Signature
      signed v = record { class = v.class; name = v.name; params = v.params; result = v.result }

pub few_functions : (s : ServiceTree) (known : Known) (r : Resolved) → IsFew s → resolve_with known s ≡ resolved_view r → length r.methods + length r.events < 2 ^ 16
few_functions s known r few made =
    let cs = contexts_of s.contexts in
    let inside = resolve_contexts known 1 0 cs in
    let own = resolve_methods known 0 (length (methods_in 1 cs)) s.methods in
    let methods = ap (λ (v : ResolvedView). length v.methods) made in
    let events = ap (λ (v : ResolvedView). length v.events) made in
    let a = length-map r.methods method_view in
    let b = length-map r.events event_view in
    let c = length-append inside own in
    let d = length-inside known 1 0 cs in
    let e = length-own known 0 (length (methods_in 1 cs)) s.methods in
    let f = length-map s.events (resolve_event known) in
    let short = few.functions in
    omega arith
