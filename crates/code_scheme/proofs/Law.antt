-- The program of a service means what the service means.
use Rattle.std.proofs.Common.{◌≡◌, ℕ, zero, suc, ◌+◌, ◌<◌, ◌≤◌, ◌||◌, List, [], ◌∷◌, length, Bool, true, false, refl, sym, subst}
use Rattle.std.specs.Prelude.{slice_get, map}
use Rattle.std.specs.List.{list_any, AllByRecursion}
use Rattle.std.proofs.lemmas.List.Elements.{recursion_from_All}
use Rattle.std.proofs.lemmas.Option.{slice_get_within}
use Rattle.wave_base.specs.declared.call.Call.{Call}
use Rattle.wave_base.specs.declared.limits.TheConstants.{GENERATION}
use Rattle.wave_base.specs.declared.path.Path.{Path}
use Rattle.wave_base.specs.declared.shape.ClassInfo.{ClassInfo}
use Rattle.wave_base.specs.declared.shape.FieldInfo.{FieldInfo}
use Rattle.wave_base.specs.declared.shape.Shape.{Shape}
use Rattle.wave_base.specs.declared.value.Value.{Value}
use Rattle.wave_base.specs.Paths.{path_eq}
use Rattle.wave_base.specs.PathLaws.{path_eq_decides}
use Rattle.wave_base.specs.Scripts.{IsCall}
use Rattle.wave_base.specs.Shapes.{IsShape, HasInitials, class_of, fields_in, kinds_of_class}
use Rattle.wave_base.specs.Tree.{Tree, there}
use Rattle.wave_base.specs.Trees.{FitsShape, HasKinds}
use Rattle.wave_base.specs.Values.{kind_of}
use Rattle.resolved_service.specs.declared.service.Resolved.{Resolved}
use Rattle.resolved_service.specs.Jobs.{call_meaning}
use Rattle.service_code.specs.declared.program.Program.{Program}
use Rattle.service_verify.specs.Fit.{IsFit}
use Rattle.service_verify.specs.Points.{IsVerified}
use Rattle.service_verify.specs.Standing.{HasTree}
use Rattle.service_verify.specs.Tours.{code_tour}
use Rattle.code_scheme.specs.Correct.{Means}
use Rattle.code_scheme.specs.Programs.{scheme_program}
use Rattle.code_scheme.specs.Typed.{IsTyped, IsTypedMethod, IsTypedEvent}
use Rattle.code_scheme.proofs.Made.{there_is, program_shape, method_made, event_made, number_made}
use Rattle.code_scheme.proofs.Whole.{event_means}

-- ---- a tree that fits has fields of the declared kinds at every path

initials_have : (fields : List FieldInfo) → AllByRecursion (λ (f : FieldInfo). kind_of f.initial ≡ f.kind) fields → map kind_of (map (λ (f : FieldInfo). f.initial) fields) ≡ map (λ (f : FieldInfo). f.kind) fields
initials_have [] h = refl
initials_have (f ∷ fs) h = let rest = initials_have fs h.1 in λ i. h.0 i ∷ rest i

class_initials : (classes : List ClassInfo) → AllByRecursion HasInitials classes → (c : ℕ) → map kind_of (map (λ (f : FieldInfo). f.initial) (fields_in (slice_get classes c))) ≡ map (λ (f : FieldInfo). f.kind) (fields_in (slice_get classes c))
class_initials [] h c = refl
class_initials (x ∷ xs) h zero = initials_have x.fields (recursion_from_All (λ (f : FieldInfo). kind_of f.initial ≡ f.kind) x.fields h.0)
class_initials (x ∷ xs) h (suc c) = class_initials xs h.1 c

found_has : (shape : Shape) (tree : Tree (List Value)) (ps : List Path) (q : Path) → AllByRecursion (λ p. HasKinds shape p (tree.fields p)) ps → list_any (path_eq q) ps ≡ true → HasKinds shape q (tree.fields q)
found_has shape tree [] q h e = cc
found_has shape tree (p ∷ ps) q h e = by (path_eq q p) refl e (λ rest. found_has shape tree ps q h.1 rest)
  where
    by : (b : Bool) → path_eq q p ≡ b → (b || list_any (path_eq q) ps) ≡ true → (list_any (path_eq q) ps ≡ true → HasKinds shape q (tree.fields q)) → HasKinds shape q (tree.fields q)
    by true is e rest = subst (λ r. HasKinds shape r (tree.fields r)) (sym ((path_eq_decides q p).0 is)) h.0
    by false is e rest = rest e

pub fits_has : (program : Program) (tree : Tree (List Value)) → IsShape program.shape → FitsShape program.shape tree → HasTree program tree
fits_has program tree shape fits q = by (there tree q) refl
  where
    by : (b : Bool) → there tree q ≡ b → HasKinds program.shape q (tree.fields q)
    by true e = found_has program.shape tree tree.paths q (recursion_from_All (λ p. HasKinds program.shape p (tree.fields p)) tree.paths fits.kinds) e
    by false e = subst (λ fs. map kind_of fs ≡ kinds_of_class program.shape (class_of q)) (sym (fits.absent q e)) (class_initials program.shape.classes (recursion_from_All HasInitials program.shape.classes shape.initials) (class_of q))

module _ (shape : Shape) (service : Resolved) (typed : IsTyped shape service) (fit : IsFit (scheme_program shape service)) (verified : IsVerified (scheme_program shape service)) where
  pub service_means : (call : Call) (tree : Tree (List Value)) → IsCall shape call → call.generation ≤ GENERATION → FitsShape shape tree → there tree [] ≡ true → Means (code_tour (scheme_program shape service) call tree) (call_meaning service tree call)
  service_means call tree is_call young fits root =
      let within : call.event < length service.events = subst (λ n. call.event < n) (sym typed.count) (slice_get_within shape.events call.event is_call.event is_call.is_event) in
      let event = there_is service.events call.event within in
      let same = program_shape shape service in
      event_means (scheme_program shape service) fit verified service
      (record { by = method_made shape service })
      (λ m method there. subst (λ s. IsTypedMethod s service.methods m method) (sym same) (typed.methods m method there))
      call is_call.event event.0 (length service.methods + call.event)
      (number_made shape service call.event within) (event_made shape service call.event is_call.event event.0 is_call.is_event event.1) event.1
      (subst (λ s. IsTypedEvent s service.methods is_call.event event.0) (sym same) (typed.events call.event is_call.event event.0 is_call.is_event event.1))
      (subst (λ s. IsCall s call) (sym same) is_call) young tree
      (fits_has (scheme_program shape service) tree (subst IsShape (sym same) typed.shape_is) (subst (λ s. FitsShape s tree) (sym same) fits)) fits.ordered root
