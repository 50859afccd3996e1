-- The code of a service, segment by segment on one tree, means what the service means.
use Rattle.std.proofs.Common.{◌≡◌, ℕ, ◌+◌, ◌≤◌, List, [], ◌∷◌, ◌++◌, length, Bool, true, false, Option, Some, None, refl, ap, sym, subst, ◌∙◌, arith}
use Rattle.std.specs.Prelude.{slice_get}
use Rattle.std.specs.List.Sorted.{IsStrictlySortedBy}
use Rattle.wave_base.specs.declared.call.Call.{Call}
use Rattle.wave_base.specs.declared.limits.TheConstants.{GENERATION, TICKS}
use Rattle.wave_base.specs.declared.outcome.EventResult.{EventResult}
use Rattle.wave_base.specs.declared.shape.EventInfo.{EventInfo}
use Rattle.wave_base.specs.declared.value.Value.{Value}
use Rattle.wave_base.specs.Paths.{path_cmp}
use Rattle.wave_base.specs.Scripts.{IsCall}
use Rattle.wave_base.specs.Tree.{Tree, there}
use Rattle.wave_base.proofs.Trees.{enter_there}
use Rattle.resolved_service.specs.declared.service.Event.{Event}
use Rattle.resolved_service.specs.declared.service.Method.{Method}
use Rattle.resolved_service.specs.declared.service.Resolved.{Resolved}
use Rattle.resolved_service.specs.Jobs.{first_world, meant_by, meant_event, call_meaning}
use Rattle.resolved_service.specs.Meaning as m
use Rattle.resolved_service.specs.Meaning.{State, Outcome, Done, Trapped, Left, effects, phases_run, call_act, with_blanks, event_run}
use Rattle.resolved_service.specs.Steps.{steps_in, surely_ends}
use Rattle.service_code.specs.declared.program.Program.{Program}
use Rattle.service_verify.specs.Boxes.{first_frame, event_frames, first_frames, first_box}
use Rattle.service_verify.specs.Fit.{IsFit}
use Rattle.service_verify.specs.Points.{IsVerified}
use Rattle.service_verify.specs.Standing.{HasTree}
use Rattle.service_verify.specs.Steps.{code_of, places_of}
use Rattle.service_verify.specs.Tours.{Tour, first_tour, tour_after, most_segments, code_tour}
use Rattle.service_verify.proofs.Touring.{first_stands, code_ends}
use Rattle.code_scheme.specs.Correct.{Means}
use Rattle.code_scheme.specs.Programs.{event_function}
use Rattle.code_scheme.specs.Scheme.{Line, steps_code, phases_code, event_code}
use Rattle.code_scheme.specs.Typed.{InEvent, AreTypedPhases, IsTypedMethod, IsTypedEvent}
use Rattle.code_scheme.proofs.Micro.{one_end, Alive}
use Rattle.code_scheme.proofs.Follow.{Here, tour_of, At, IsCode, place_is}
use Rattle.code_scheme.proofs.Fuse.{segments_fuse}
use Rattle.code_scheme.proofs.Finding.{Low}
use Rattle.code_scheme.proofs.Instructions.{Onward}
use Rattle.code_scheme.proofs.Places.{HasAt, has_front, has_back, has_all}
use Rattle.code_scheme.proofs.Values.{AreMade}
use Rattle.code_scheme.proofs.Effects.{effects_run}
use Rattle.code_scheme.proofs.Events.{EndsAs, Finishes, calls_follow, finish_on, phases_finish}
use Rattle.code_scheme.proofs.Leaving.{Leaving, Performs, never_ends, never_effects}

module _ (program : Program) (fit : IsFit program) (verified : IsVerified program) (service : Resolved) (made : AreMade program fit verified service.methods)
    (typed : (m : ℕ) (method : Method) → slice_get service.methods m ≡ Some method → IsTypedMethod program.shape service.methods m method)
    (call : Call) (info : EventInfo) (event : Event) (number : ℕ)
    (numbered : slice_get program.events call.event ≡ Some number) (is_there : slice_get program.functions number ≡ Some (event_function service.methods program.texts info event)) (is_event : slice_get service.events call.event ≡ Some event)
    (event_typed : IsTypedEvent program.shape service.methods info event)
    (is_call : IsCall program.shape call) (young : call.generation ≤ GENERATION) (tree : Tree (List Value)) (has : HasTree program tree) (ordered : IsStrictlySortedBy path_cmp tree.paths) (root : there tree [] ≡ true) where
  abbrev h : Here
  h = record { fn = number; at = []; down = false; below = [] }

  abbrev first : State
  first = record { locals = with_blanks call.args event.locals; world = first_world call.generation tree }

  is_code : IsCode program fit verified number (event_code service.methods program.texts event)
  is_code = record { code = ap code_of is_there; places = ap places_of is_there }

  frames_are : first_frames program (slice_get program.events call.event) call.args ≡ first_frame number (event_function service.methods program.texts info event) call.args false ∷ []
  frames_are = ap (λ o. first_frames program o call.args) numbered ∙ ap (λ o. event_frames number o call.args) is_there

  first_is : first_tour program call tree ≡ tour_of h 0 [] first ([] ∷ [])
  unfolding first_box
  first_is =
      λ i. record { box = record (first_box program call) { frames = frames_are i }; tree = enter_there tree [] ordered root i; entered = [] ∷ []; segments = 0; result = None }

  alive : Alive program fit verified (first_tour program call tree)
  alive = let s = first_stands program fit verified call tree is_call young has in record { path = []; calls = 0; box = s.box; tree = s.tree }

  begins : At program fit verified h 0 [] first (first_tour program call tree)
  begins = record { held = [] ∷ []; same = λ q. refl; is = first_is; alive = alive }

  abbrev cb : List Line
  cb = steps_code service.methods program.texts 0 (steps_in event.here)

  stands : HasAt program fit verified number 0 (cb ++ phases_code service.methods program.texts (length cb) (surely_ends (steps_in event.here)) event.phases event.at event.last)
  unfolding event_code
  stands = has_all program fit verified number _ is_code

  none_more : 0 + length cb ≡ length cb
  none_more = omega arith

  statements : HasAt program fit verified number 0 cb → Performs program fit verified (first_tour program call tree) (Onward program fit verified h (0 + length cb) []) (Low TICKS) (Leaving program fit verified (InEvent info.reply) h TICKS []) (effects (call_act service.methods TICKS) TICKS [] (steps_in event.here) first)
  statements has =
      effects_run program fit verified service.methods made TICKS (calls_follow program fit verified service.methods made typed TICKS) (length service.methods) event.locals 0 (InEvent info.reply) h [] (steps_in event.here) event_typed.here 0 TICKS first (first_tour program call tree) (omega arith) (omega arith) has begins

  behaves : Finishes program fit verified service.methods made typed (first_tour program call tree) (event_run service.methods TICKS event call.args (first_world call.generation tree))
  behaves = by (surely_ends (steps_in event.here)) refl event_typed.phases stands
    where
      o : Outcome (Unit {0})
      o = effects (call_act service.methods TICKS) TICKS [] (steps_in event.here) first

      by : (b : Bool) → surely_ends (steps_in event.here) ≡ b → AreTypedPhases program.shape service.methods (length service.methods) event.locals 0 b event.phases info.reply event.last → HasAt program fit verified number 0 (cb ++ phases_code service.methods program.texts (length cb) b event.phases event.at event.last) →
          Finishes program fit verified service.methods made typed (first_tour program call tree) (event_run service.methods TICKS event call.args (first_world call.generation tree))
      by true ended phases has =
          finish_on program fit verified service.methods made typed info.reply h TICKS [] (first_tour program call tree) (λ u st d. ⊥) (Low TICKS) o (λ u. phases_run (call_act service.methods TICKS) TICKS event.phases event.last [])
          (never_ends program fit verified (first_tour program call tree) (Onward program fit verified h (0 + length cb) []) (Low TICKS) (Leaving program fit verified (InEvent info.reply) h TICKS []) (λ u st d. ⊥) (Low TICKS) o (never_effects (call_act service.methods TICKS) TICKS [] (steps_in event.here) ended first) (statements (has_front program fit verified number 0 cb _ has)))
          (λ u st1 d a1 q1. absurd a1)
      by false ended phases has =
          finish_on program fit verified service.methods made typed info.reply h TICKS [] (first_tour program call tree) (Onward program fit verified h (0 + length cb) []) (Low TICKS) o (λ u. phases_run (call_act service.methods TICKS) TICKS event.phases event.last [])
          (statements (has_front program fit verified number 0 cb _ has))
          (λ u st1 d a1 q1. phases_finish program fit verified service.methods made typed TICKS TICKS (omega arith) (length service.methods) event.locals event.at event.phases 0 info.reply event.last phases h (length cb) st1 d q1
          (subst (λ x. HasAt program fit verified number x (phases_code service.methods program.texts (length cb) false event.phases event.at event.last)) none_more (has_back program fit verified number 0 cb _ has))
          (place_is program fit verified h (0 + length cb) (length cb) [] st1 d none_more a1))

  ends_means : (o : Outcome (Option Value)) (d : Tour) → EndsAs program fit verified service.methods made typed o d → Means d (meant_by o)
  ends_means (Done r st) d e = record { result = e.result; tree = e.tree; entered = e.entered; segments = e.segments }
  ends_means (Trapped k at w) d e = record { result = e.result; tree = e.tree; entered = e.entered; segments = e.segments }
  ends_means (Left (m.Returned r) st) d e = absurd e
  ends_means (Left (m.Finished r) st) d e = record { result = e.result; tree = e.tree; entered = e.entered; segments = e.segments }

  result_of : (o : Outcome (Option Value)) (d : Tour) → EndsAs program fit verified service.methods made typed o d → (r : EventResult) × (d.result ≡ Some r)
  result_of o d e = (_, (ends_means o d e).result)

  pub event_means : Means (code_tour program call tree) (call_meaning service tree call)
  unfolding call_meaning code_tour
  event_means =
      let o = event_run service.methods TICKS event call.args (first_world call.generation tree) in
      let d = behaves.is.0 in
      let r = result_of o d behaves.is.2 in
      let e = code_ends program fit verified call tree is_call young has in
      let f = segments_fuse program fit verified (most_segments program) (first_tour program call tree) alive refl in
      let same : d ≡ tour_after program (most_segments program) (first_tour program call tree) =
      sym behaves.is.1.1 ∙ one_end program behaves.is.1.0 f.0 (first_tour program call tree) r.0 e.0 (ap (λ (u : Tour). u.result) behaves.is.1.1 ∙ r.1) (ap (λ (u : Tour). u.result) f.1 ∙ e.1) ∙ f.1 in
      subst (λ u. Means u (meant_event service (slice_get service.events call.event) call tree)) same
      (subst (λ o. Means d (meant_event service o call tree)) (sym is_event) (ends_means o d behaves.is.2))
