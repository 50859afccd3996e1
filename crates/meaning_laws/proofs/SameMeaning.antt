-- What a service means, read off the look of its methods and events.
use Rattle.std.proofs.Common.{◌≡◌, ℕ, zero, suc, List, [], ◌∷◌, Option, Some, None, map, slice_get, refl, sym, ◌∙◌, ap}
use Rattle.std.specs.Option.{option_map}
use Rattle.std.proofs.Math.Path.{fun_ext}
use Rattle.wave_base.specs.declared.limits.TheConstants.{TICKS}
use Rattle.wave_base.specs.declared.call.Call.{Call}
use Rattle.wave_base.specs.declared.path.Path.{Path}
use Rattle.wave_base.specs.declared.outcome.Outcome.TheVariants as out
use Rattle.wave_base.specs.declared.trap.TrapKind.TheVariants as trap
use Rattle.wave_base.specs.declared.value.Value.{Value}
use Rattle.wave_base.specs.Tree.{Tree}
use Rattle.resolved_service.specs.declared.service.Event.{Event}
use Rattle.resolved_service.specs.declared.service.Last.{Last}
use Rattle.resolved_service.specs.declared.service.Method.{Method}
use Rattle.resolved_service.specs.declared.service.Phase.{Phase}
use Rattle.resolved_service.specs.declared.service.Resolved.{Resolved}
use Rattle.resolved_service.specs.Meaning.{Act, Outcome, Done, Trapped, ◌>>=◌, ◌>>◌, give, value, effects, last_value, with_blanks, with_locals, run_method, nowhere, call_act, enter_at, release, phases_run, event_run}
use Rattle.resolved_service.specs.Steps.{steps_in}
use Rattle.resolved_service.specs.View.{tree_of}
use Rattle.resolved_service.specs.World.{World, child}
use Rattle.resolved_service.specs.Jobs.{Meant, meant_by, only, first_world, call_meaning, meant_event}
use Rattle.type_rules.specs.Functions.{LastView, MethodView, PhaseView, EventView}
use Rattle.type_rules.specs.Services.{ResolvedView}
use Rattle.type_rules.specs.Views.{last_view, method_view, phase_view, event_view, resolved_view}

abbrev Calls : Type 0
Calls = ℕ → Path → List Value → Act (Option Value)

at_place : {X Y : Type 0} (f : X → Y) (xs : List X) (k : ℕ) → option_map f (slice_get xs k) ≡ slice_get (map f xs) k
at_place f [] k = refl
at_place f (x ∷ xs) zero = refl
at_place f (x ∷ xs) (suc k) = at_place f xs k

-- ---- the same, of views

abbrev last_seen : Calls → ℕ → Path → Option LastView → Act (Option Value)
last_seen call n p None = give None
last_seen call n p (Some last) = value call p last.value >>= (λ x. give (Some x))

abbrev method_seen : Calls → ℕ → Option MethodView → Path → List Value → Act (Option Value)
method_seen call n None p given st = Done None st
method_seen call n (Some m) p given st =
    with_locals st.locals ((effects call n p m.body >> last_seen call n p m.last) (record { locals = with_blanks given m.locals; world = st.world }))

abbrev called_seen : List MethodView → ℕ → Calls
called_seen methods zero m p given st = Trapped trap.Ticks nowhere st.world
called_seen methods (suc n) m p given st = method_seen (called_seen methods n) n (slice_get methods m) p given st

abbrev phases_seen : Calls → ℕ → List PhaseView → Option LastView → Path → Act (Option Value)
phases_seen call n [] last p = last_seen call n p last
phases_seen call n (f ∷ fs) last p = do
  k ← value call p f.key
  enter_at (child p f.class k) f.at
  release (child p f.class k)
  effects call n (child p f.class k) f.body
  phases_seen call n fs last (child p f.class k)

abbrev event_seen : List MethodView → EventView → List Value → World → Outcome (Option Value)
event_seen methods e given w =
    (effects (called_seen methods TICKS) TICKS [] e.here >> phases_seen (called_seen methods TICKS) TICKS e.phases e.last [])
    (record { locals = with_blanks given e.locals; world = w })

abbrev meant_seen : ResolvedView → Option EventView → Call → Tree (List Value) → Meant
meant_seen v None call tree = record { ran = record { tree = tree; result = only out.Done; entered = [] }; changes = 0 }
meant_seen v (Some e) call tree = meant_by (event_seen v.methods e call.args (first_world call.generation tree))

-- ---- and that they are the same

last_is : (call : Calls) (n : ℕ) (p : Path) (x : Option Last) → last_value call n p x ≡ last_seen call n p (option_map last_view x)
last_is call n p None = refl
last_is call n p (Some x) = refl

method_is : (call : Calls) (n : ℕ) (m : Option Method) → run_method call n m ≡ method_seen call n (option_map method_view m)
method_is call n None = refl
method_is call n (Some m) = fun_ext (λ p. fun_ext (λ given. fun_ext (λ st. ap (λ f. with_locals st.locals ((effects call n p (method_view m).body >> f) (record { locals = with_blanks given m.locals; world = st.world }))) (last_is call n p m.last))))

called_is : (methods : List Method) (n : ℕ) → call_act methods n ≡ called_seen (map method_view methods) n
unfolding call_act
called_is methods zero = refl
called_is methods (suc n) = fun_ext (λ m.
    method_is (call_act methods n) n (slice_get methods m)
    ∙ (λ i. method_seen (called_is methods n i) n (at_place method_view methods m i)))

phases_are : (call : Calls) (n : ℕ) (fs : List Phase) (last : Option Last) (p : Path) → phases_run call n fs last p ≡ phases_seen call n (map phase_view fs) (option_map last_view last) p
phases_are call n [] last p = last_is call n p last
phases_are call n (f ∷ fs) last p = λ i. do
  k ← value call p (tree_of f.key)
  enter_at (child p f.class.0 k) f.at
  release (child p f.class.0 k)
  effects call n (child p f.class.0 k) (steps_in f.body)
  phases_are call n fs last (child p f.class.0 k) i

event_is : (methods : List Method) (e : Event) (given : List Value) (w : World) → event_run methods TICKS e given w ≡ event_seen (map method_view methods) (event_view e) given w
event_is methods e given w =
    ap (λ calls. (effects calls TICKS [] (steps_in e.here) >> phases_run calls TICKS e.phases e.last []) (record { locals = with_blanks given e.locals; world = w })) (called_is methods TICKS)
    ∙ ap (λ f. (effects (called_seen (map method_view methods) TICKS) TICKS [] (steps_in e.here) >> f) (record { locals = with_blanks given e.locals; world = w }))
    (phases_are (called_seen (map method_view methods) TICKS) TICKS e.phases e.last [])

meant_is : (r : Resolved) (e : Option Event) (call : Call) (tree : Tree (List Value)) → meant_event r e call tree ≡ meant_seen (resolved_view r) (option_map event_view e) call tree
meant_is r None call tree = refl
meant_is r (Some e) call tree = ap meant_by (event_is r.methods e call.args (first_world call.generation tree))

call_is : (r : Resolved) (tree : Tree (List Value)) (call : Call) → call_meaning r tree call ≡ meant_seen (resolved_view r) (slice_get (resolved_view r).events call.event) call tree
unfolding call_meaning
call_is r tree call = meant_is r (slice_get r.events call.event) call tree ∙ (λ i. meant_seen (resolved_view r) (at_place event_view r.events call.event i) call tree)

pub same_calls : (a b : Resolved) → resolved_view a ≡ resolved_view b → call_meaning a ≡ call_meaning b
same_calls a b e = fun_ext (λ tree. fun_ext (λ call. call_is a tree call ∙ (λ i. meant_seen (e i) (slice_get (e i).events call.event) call tree) ∙ sym (call_is b tree call)))
